-- A session owes what a client owes.
use Rattle.std.specs.Prelude.{◌≡◌, ◌≢◌, ◌∷◌, ◌++◌, [], Option, Some, None}
use Rattle.std.proofs.Common.{refl, sym, subst, inl, inr}
use Rattle.repo_name.specs.declared.rows.LockRow.{LockRow}
use Rattle.repo_name.specs.declared.tokens.Token.{Token}
use Rattle.repo_wire.specs.declared.messages.Ask.{Ask}
use Rattle.repo_wire.specs.declared.messages.Request.{Request}
use Rattle.repo_session.specs.declared.lines.Line.{Line}
use Rattle.repo_session.specs.declared.outcomes.Outcome.{Outcome}
use Rattle.repo_session.specs.declared.sessions.Session.{Session}
use Rattle.repo_session.specs.Askers.{Holding}
use Rattle.repo_session.specs.Clients.{IsNextRequest, IsObedientBy}
use Rattle.repo_session.specs.Ends.{MayConclude, NumbersAreSpent, without_unlock, before_unlock}
use Rattle.repo_session.specs.Jobs.{Rule, task_under, known_under}
use Rattle.repo_session.specs.Order.{Task, locked, IsNoUnlock, IsUnlock, Holds, May}
use Rattle.repo_session.specs.Sessions.{KnowsAt, SessionStands, SessionAt, FitsWanting, who_in, next_in, ended_in}
use Rattle.repo_session.specs.Traces.{Each, Exchange, Trace}

-- ---- traces without the end of the lock

whole_of : (ask : Ask) (whole older : Trace) → ((token : Token) → ask ≢ Ask.Unlock token) → without_unlock ask whole older ≡ whole
whole_of Ask.Ticket whole older h = refl
whole_of (Ask.Lock row) whole older h = refl
whole_of (Ask.Refresh token time) whole older h = refl
whole_of (Ask.Unlock token) whole older h = absurd (h token refl)
whole_of Ask.Locks whole older h = refl
whole_of (Ask.List k after) whole older h = refl
whole_of (Ask.Get k n) whole older h = refl
whole_of (Ask.Range pack offset len) whole older h = refl
whole_of (Ask.Put token k n x) whole older h = refl
whole_of (Ask.Delete token k n) whole older h = refl
whole_of Ask.Config whole older h = refl
whole_of (Ask.Upgrade token) whole older h = refl

-- a trace whose newest exchange isn't an unlock is whole before the unlock
pub still_whole : (e : Exchange) (es : Trace) → ((token : Token) → e.ask ≢ Ask.Unlock token) → before_unlock (e ∷ es) ≡ e ∷ es
still_whole e es h = whole_of e.ask (e ∷ es) es h

whole_held : (task : Task) (token : Token) (later : Trace) → Each IsNoUnlock later → before_unlock (later ++ locked task token) ≡ later ++ locked task token
whole_held task token [] h = refl
whole_held task token (e ∷ later) h = still_whole e (later ++ locked task token) h.0

-- where the lock is held its end isn't the newest exchange
pub holds_whole : (task : Task) (token : Token) (es : Trace) → Holds task token es → before_unlock es ≡ es
holds_whole task token es h = subst (λ fs. before_unlock fs ≡ fs) (sym h.since) (whole_held task token h.later h.held.unended)

-- ---- where a session stands

module _ (rule : Rule) (holding : Holding) (lock : Option LockRow) (Fresh : Type 0) (Knows : Ask → Trace → Type 0) (Wants : Trace → Type 0) where
  -- an outcome stands beside a pending unlock, and beside no other request
  pub beside_unlock : (ask : Ask) (outcome : Option Outcome) (es : Trace) → KnowsAt rule holding lock Fresh Knows outcome ask es → outcome ≢ None → IsUnlock ask
  beside_unlock (Ask.Unlock t) outcome es k n = tt
  beside_unlock Ask.Ticket outcome es k n = absurd (n k.1)
  beside_unlock (Ask.Lock row) outcome es k n = absurd (n k.1)
  beside_unlock (Ask.Refresh t time) outcome es k n = absurd k
  beside_unlock Ask.Locks outcome es k n = absurd k
  beside_unlock Ask.Config outcome es k n = absurd (n k.1)
  beside_unlock (Ask.List j after) outcome es k n = absurd (n k.1)
  beside_unlock (Ask.Get j m) outcome es k n = absurd (n k.1)
  beside_unlock (Ask.Range pack offset len) outcome es k n = absurd (n k.1)
  beside_unlock (Ask.Put t j m x) outcome es k n = absurd (n k.1)
  beside_unlock (Ask.Delete t j m) outcome es k n = absurd (n k.1)
  beside_unlock (Ask.Upgrade t) outcome es k n = absurd (n k.1)

  ends_beside : (ask : Ask) (o : Outcome) (es : Trace) → May (task_under rule holding.who) es ask → KnowsAt rule holding lock Fresh Knows (Some o) ask es → IsUnlock ask → MayConclude (known_under rule holding.who) rule.notes rule.concludes (before_unlock es) o
  ends_beside (Ask.Unlock t) o es may k u =
      let same : k.0 ≡ o = let p = k.1 in cc in
      subst (λ x. MayConclude (known_under rule holding.who) rule.notes rule.concludes (before_unlock es) x) same (subst (λ fs. MayConclude (known_under rule holding.who) rule.notes rule.concludes fs k.0) (sym (holds_whole (task_under rule holding.who) t es may)) k.2)
  ends_beside Ask.Ticket o es may k u = absurd u
  ends_beside (Ask.Lock row) o es may k u = absurd u
  ends_beside (Ask.Refresh t time) o es may k u = absurd u
  ends_beside Ask.Locks o es may k u = absurd u
  ends_beside Ask.Config o es may k u = absurd u
  ends_beside (Ask.List j after) o es may k u = absurd u
  ends_beside (Ask.Get j m) o es may k u = absurd u
  ends_beside (Ask.Range pack offset len) o es may k u = absurd u
  ends_beside (Ask.Put t j m x) o es may k u = absurd u
  ends_beside (Ask.Delete t j m) o es may k u = absurd u
  ends_beside (Ask.Upgrade t) o es may k u = absurd u

  pending_is : (line : Line) (next : Option Request) (es : Trace) (r : Request) → SessionStands rule holding lock Fresh Knows Wants line next es → next ≡ Some r → IsNextRequest (task_under rule holding.who) rule.allows es r
  pending_is line None es r s p = absurd (cc)
  pending_is line (Some q) es r s p = let same : q ≡ r = cc in subst (λ x. IsNextRequest (task_under rule holding.who) rule.allows es x) same s.next

  settles : (line : Line) (next : Option Request) (es : Trace) → SessionStands rule holding lock Fresh Knows Wants line next es → next ≡ None → line.outcome ≡ None → rule.wanting es
  settles line None es (inl s) p none = let there = s.there in absurd (cc)
  settles line None es (inr s) p none = s.may
  settles line (Some q) es s p none = absurd (cc)

  concludes_at : (line : Line) (next : Option Request) (es : Trace) (o : Outcome) → SessionStands rule holding lock Fresh Knows Wants line next es → line.outcome ≡ Some o → MayConclude (known_under rule holding.who) rule.notes rule.concludes (before_unlock es) o
  concludes_at line None es o (inr s) p = let none = s.none in absurd (cc)
  concludes_at line None es o (inl s) p = let there = s.there in let same : s.outcome ≡ o = cc in subst (λ x. MayConclude (known_under rule holding.who) rule.notes rule.concludes (before_unlock es) x) same s.concluded
  concludes_at line (Some q) es o s p =
      let k = s.knows in
      ends_beside q.ask o es s.next.may (subst (λ x. KnowsAt rule holding lock Fresh Knows x q.ask es) p k) (beside_unlock q.ask line.outcome es k (λ none. absurd (cc)))

  unlock_there : (ask : Ask) (outcome : Option Outcome) (es : Trace) → KnowsAt rule holding lock Fresh Knows outcome ask es → IsUnlock ask → outcome ≢ None
  unlock_there (Ask.Unlock t) outcome es k u none = let there = k.1 in absurd (cc)
  unlock_there Ask.Ticket outcome es k u none = u
  unlock_there (Ask.Lock row) outcome es k u none = u
  unlock_there (Ask.Refresh t time) outcome es k u none = u
  unlock_there Ask.Locks outcome es k u none = u
  unlock_there Ask.Config outcome es k u none = u
  unlock_there (Ask.List j after) outcome es k u none = u
  unlock_there (Ask.Get j m) outcome es k u none = u
  unlock_there (Ask.Range pack offset len) outcome es k u none = u
  unlock_there (Ask.Put t j m x) outcome es k u none = u
  unlock_there (Ask.Delete t j m) outcome es k u none = u
  unlock_there (Ask.Upgrade t) outcome es k u none = u

  is_released : (line : Line) (next : Option Request) (es : Trace) → SessionStands rule holding lock Fresh Knows Wants line next es → next ≡ None → line.outcome ≢ None → (token : Token) → Holds (task_under rule holding.who) token es → NumbersAreSpent es
  is_released line None es (inl s) p n token h = s.released token h
  is_released line None es (inr s) p n token h = absurd (n s.none)
  is_released line (Some q) es s p n token h = absurd (cc)

  stands_beside : (line : Line) (next : Option Request) (es : Trace) (r : Request) → SessionStands rule holding lock Fresh Knows Wants line next es → next ≡ Some r → line.outcome ≢ None → IsUnlock r.ask
  stands_beside line None es r s p n = absurd (cc)
  stands_beside line (Some q) es r s p n = let same : q ≡ r = cc in subst (λ x. IsUnlock x.ask) same (beside_unlock q.ask line.outcome es s.knows n)

  is_ending : (line : Line) (next : Option Request) (es : Trace) (r : Request) → SessionStands rule holding lock Fresh Knows Wants line next es → next ≡ Some r → IsUnlock r.ask → line.outcome ≢ None
  is_ending line None es r s p u = absurd (cc)
  is_ending line (Some q) es r s p u = let same : r ≡ q = cc in unlock_there q.ask line.outcome es s.knows (subst (λ x. IsUnlock x.ask) same u)

  pub obeys_at : (line : Line) (es : Trace) → SessionAt rule holding lock Fresh Knows Wants line es → IsObedientBy rule holding.who line.next line.outcome es
  obeys_at line es s = record {
    obeys = s.obeys;
    pending = λ r p. pending_is line line.next es r s.stands p;
    settled = settles line line.next es s.stands;
    concluded = λ o p. concludes_at line line.next es o s.stands p;
    heeded = s.heeded;
    released = λ p n token h. is_released line line.next es s.stands p n token h;
    beside = λ r p n. stands_beside line line.next es r s.stands p n;
    ending = λ r p u. is_ending line line.next es r s.stands p u;
  }

pub session_obeys : {J H : Type 0} (handed : J → H) (rule : H → Rule) (fresh : J → Type 0) (knows : J → Ask → Trace → Type 0) (wants : J → Trace → Type 0) (s : Session J) (es : Trace) → FitsWanting handed rule fresh knows wants s es
    → IsObedientBy (rule (handed s.job)) (who_in s) (next_in s) (ended_in s) es
session_obeys handed rule fresh knows wants s es f = obeys_at (rule (handed s.job)) s.head.holder s.head.lock (fresh s.job) (knows s.job) (wants s.job) s.head.line es f
