-- The token that a session tells is the one of its ticket.
use Rattle.std.specs.Prelude.{◌≡◌, ◌≢◌, ◌++◌, ◌∷◌, [], ℕ, List, Option, Some, None}
use Rattle.std.proofs.Common.{refl, sym, ap, subst, inl, inr}
use Rattle.repo_name.specs.declared.rows.LockRow.{LockRow}
use Rattle.repo_name.specs.declared.tokens.Token.{Token}
use Rattle.repo_wire.specs.declared.messages.Ask.{Ask}
use Rattle.repo_wire.specs.declared.messages.Request.{Request}
use Rattle.repo_wire.specs.declared.messages.Say.{Say}
use Rattle.repo_session.specs.declared.lines.Line.{Line}
use Rattle.repo_session.specs.declared.outcomes.Outcome.{Outcome}
use Rattle.repo_session.specs.declared.sessions.Session.{Session}
use Rattle.repo_session.specs.Askers.{Holding}
use Rattle.repo_session.specs.Clients.{TellsToken}
use Rattle.repo_session.specs.Jobs.{Rule, task_under}
use Rattle.repo_session.specs.Order.{Task, opened, IsWorking, May, Obeys}
use Rattle.repo_session.specs.Sessions.{KnowsAt, SessionStands, SessionAt, FitsWanting, token_beside, token_told}
use Rattle.repo_session.specs.Traces.{Exchange, Exchanged, Trace}

-- ---- the one ticket of a trace

-- what was exchanged stays so
still_exchanged : (later es : Trace) (ask : Ask) (say : Say) → Exchanged es ask say → Exchanged (later ++ es) ask say
still_exchanged [] es ask say h = h
still_exchanged (e ∷ later) es ask say h = inr (still_exchanged later es ask say h)

-- the tickets of a token that an opened job has
one_ticket : (task : Task) (token other : Token) (text : List ℕ) → Exchanged (opened task token text) Ask.Ticket (Say.Token other) → other ≡ token
one_ticket task token other text (inl h) = let p = h.0 in absurd (cc)
one_ticket task token other text (inr (inl h)) = let p = h.0 in absurd (cc)
one_ticket task token other text (inr (inr (inl h))) = let p = h.1 in cc
one_ticket task token other text (inr (inr (inr h))) = absurd h

no_more : (later es : Trace) → es ≢ [] → later ++ es ≢ []
no_more [] es h = h
no_more (e ∷ later) es h = λ p. absurd (cc)

-- in what came later there is none
none_later : (task : Task) (A : Trace → Ask → Type 0) (G : Trace → Exchange → Type 0) (later es : Trace) (say : Say) → es ≢ [] → Obeys task A G (later ++ es)
    → Exchanged (later ++ es) Ask.Ticket say → Exchanged es Ask.Ticket say
none_later task A G [] es say some obeys h = h
none_later task A G (e ∷ later) es say some obeys (inl h) = absurd (no_more later es some (subst (λ ask. May task (later ++ es) ask) h.0 obeys.0))
none_later task A G (e ∷ later) es say some obeys (inr h) = none_later task A G later es say some obeys.3 h

given_working : (task : Task) (token : Token) (es : Trace) → IsWorking task token es → Exchanged es Ask.Ticket (Say.Token token)
given_working task token es (config, h) =
    subst (λ x. Exchanged x Ask.Ticket (Say.Token token)) (sym h.since) (still_exchanged h.later (opened task token h.text) Ask.Ticket (Say.Token token) (inr (inr (inl (refl, refl)))))

one_working : (task : Task) (A : Trace → Ask → Type 0) (G : Trace → Exchange → Type 0) (token other : Token) (es : Trace) → IsWorking task token es → Obeys task A G es
    → Exchanged es Ask.Ticket (Say.Token other) → other ≡ token
one_working task A G token other es (config, h) obeys x =
    one_ticket task token other h.text (none_later task A G h.later (opened task token h.text) (Say.Token other) (λ p. absurd (cc))
    (subst (λ y. Obeys task A G y) h.since obeys) (subst (λ y. Exchanged y Ask.Ticket (Say.Token other)) h.since x))

-- ---- where a session stands

module _ (rule : Rule) (holding : Holding) (lock : Option LockRow) (Fresh : Type 0) (Knows : Ask → Trace → Type 0) (Wants : Trace → Type 0) where
  given_beside : (ask : Ask) (es : Trace) (token : Token) → KnowsAt rule holding lock Fresh Knows None ask es → token_beside holding.token ask ≡ Some token → Exchanged es Ask.Ticket (Say.Token token)
  given_beside Ask.Ticket es token k p = absurd (cc)
  given_beside (Ask.Lock row) es token k p =
      let same : holding.token ≡ token = cc in
      subst (λ t. Exchanged es Ask.Ticket (Say.Token t)) same (subst (λ x. Exchanged x Ask.Ticket (Say.Token holding.token)) (sym k.2) (inl (refl, refl)))
  given_beside Ask.Config es token k p =
      let same : holding.token ≡ token = cc in
      subst (λ t. Exchanged es Ask.Ticket (Say.Token t)) same (subst (λ x. Exchanged x Ask.Ticket (Say.Token holding.token)) (sym k.2) (inr (inl (refl, refl))))
  given_beside (Ask.Unlock t) es token k p = let q = k.1 in absurd (cc)
  given_beside (Ask.Refresh t time) es token k p = absurd k
  given_beside Ask.Locks es token k p = absurd k
  given_beside (Ask.List j after) es token k p = let same : holding.token ≡ token = cc in subst (λ t. Exchanged es Ask.Ticket (Say.Token t)) same (given_working (task_under rule holding.who) holding.token es k.0)
  given_beside (Ask.Get j n) es token k p = let same : holding.token ≡ token = cc in subst (λ t. Exchanged es Ask.Ticket (Say.Token t)) same (given_working (task_under rule holding.who) holding.token es k.0)
  given_beside (Ask.Range pack offset len) es token k p = let same : holding.token ≡ token = cc in subst (λ t. Exchanged es Ask.Ticket (Say.Token t)) same (given_working (task_under rule holding.who) holding.token es k.0)
  given_beside (Ask.Put t j n x) es token k p = let same : holding.token ≡ token = cc in subst (λ t. Exchanged es Ask.Ticket (Say.Token t)) same (given_working (task_under rule holding.who) holding.token es k.0)
  given_beside (Ask.Delete t j n) es token k p = let same : holding.token ≡ token = cc in subst (λ t. Exchanged es Ask.Ticket (Say.Token t)) same (given_working (task_under rule holding.who) holding.token es k.0)
  given_beside (Ask.Upgrade t) es token k p = let same : holding.token ≡ token = cc in subst (λ t. Exchanged es Ask.Ticket (Say.Token t)) same (given_working (task_under rule holding.who) holding.token es k.0)

  tells_beside : (ask : Ask) (es : Trace) (token : Token) → Obeys (task_under rule holding.who) rule.allows rule.gives es → May (task_under rule holding.who) es ask
      → KnowsAt rule holding lock Fresh Knows None ask es → Exchanged es Ask.Ticket (Say.Token token) → token_beside holding.token ask ≡ Some token
  tells_beside Ask.Ticket es token obeys may k h = absurd (subst (λ x. Exchanged x Ask.Ticket (Say.Token token)) may h)
  tells_beside (Ask.Lock row) es token obeys may k h = elim (subst (λ x. Exchanged x Ask.Ticket (Say.Token token)) k.2 h) [
    | inl p ↦ let q = p.1 in cc
    | inr p ↦ absurd p
  ]
  tells_beside Ask.Config es token obeys may k h = elim (subst (λ x. Exchanged x Ask.Ticket (Say.Token token)) k.2 h) [
    | inl p ↦ let q = p.0 in absurd (cc)
    | inr (inl p) ↦ let q = p.1 in cc
    | inr (inr p) ↦ absurd p
  ]
  tells_beside (Ask.Unlock t) es token obeys may k h = let q = k.1 in absurd (cc)
  tells_beside (Ask.Refresh t time) es token obeys may k h = absurd k
  tells_beside Ask.Locks es token obeys may k h = absurd k
  tells_beside (Ask.List j after) es token obeys may k h = ap Some (sym (one_working (task_under rule holding.who) rule.allows rule.gives holding.token token es k.0 obeys h))
  tells_beside (Ask.Get j n) es token obeys may k h = ap Some (sym (one_working (task_under rule holding.who) rule.allows rule.gives holding.token token es k.0 obeys h))
  tells_beside (Ask.Range pack offset len) es token obeys may k h = ap Some (sym (one_working (task_under rule holding.who) rule.allows rule.gives holding.token token es k.0 obeys h))
  tells_beside (Ask.Put t j n x) es token obeys may k h = ap Some (sym (one_working (task_under rule holding.who) rule.allows rule.gives holding.token token es k.0 obeys h))
  tells_beside (Ask.Delete t j n) es token obeys may k h = ap Some (sym (one_working (task_under rule holding.who) rule.allows rule.gives holding.token token es k.0 obeys h))
  tells_beside (Ask.Upgrade t) es token obeys may k h = ap Some (sym (one_working (task_under rule holding.who) rule.allows rule.gives holding.token token es k.0 obeys h))

  given_told : (line : Line) (outcome : Option Outcome) (next : Option Request) (es : Trace) (token : Token) → line.outcome ≡ outcome → SessionStands rule holding lock Fresh Knows Wants line next es
      → token_told holding.token outcome next ≡ Some token → Exchanged es Ask.Ticket (Say.Token token)
  given_told line (Some o) next es token is s p = absurd (cc)
  given_told line None None es token is (inl s) p = let there = s.there in absurd (cc)
  given_told line None None es token is (inr s) p =
      let same : holding.token ≡ token = cc in
      subst (λ t. Exchanged es Ask.Ticket (Say.Token t)) same (given_working (task_under rule holding.who) holding.token es s.working)
  given_told line None (Some request) es token is s p = given_beside request.ask es token (subst (λ o. KnowsAt rule holding lock Fresh Knows o request.ask es) is s.knows) p

  tells_told : (line : Line) (outcome : Option Outcome) (next : Option Request) (es : Trace) (token : Token) → line.outcome ≡ outcome → Obeys (task_under rule holding.who) rule.allows rule.gives es
      → SessionStands rule holding lock Fresh Knows Wants line next es → outcome ≡ None → Exchanged es Ask.Ticket (Say.Token token) → token_told holding.token outcome next ≡ Some token
  tells_told line (Some o) next es token is obeys s none h = absurd (cc)
  tells_told line None None es token is obeys (inl s) none h = let there = s.there in absurd (cc)
  tells_told line None None es token is obeys (inr s) none h = ap Some (sym (one_working (task_under rule holding.who) rule.allows rule.gives holding.token token es s.working obeys h))
  tells_told line None (Some request) es token is obeys s none h =
      tells_beside request.ask es token obeys s.next.may (subst (λ o. KnowsAt rule holding lock Fresh Knows o request.ask es) is s.knows) h

  pub tells_at : (line : Line) (es : Trace) → SessionAt rule holding lock Fresh Knows Wants line es → TellsToken (token_told holding.token line.outcome line.next) line.outcome es
  tells_at line es s = record {
    given = λ token p. given_told line line.outcome line.next es token refl s.stands p;
    tells = λ token none h. tells_told line line.outcome line.next es token refl s.obeys s.stands none h;
  }

pub session_tells : {J H : Type 0} (handed : J → H) (rule : H → Rule) (fresh : J → Type 0) (knows : J → Ask → Trace → Type 0) (wants : J → Trace → Type 0) (s : Session J) (es : Trace) → FitsWanting handed rule fresh knows wants s es
    → TellsToken (token_told s.head.holder.token s.head.line.outcome s.head.line.next) s.head.line.outcome es
session_tells handed rule fresh knows wants s es f = tells_at (rule (handed s.job)) s.head.holder s.head.lock (fresh s.job) (knows s.job) (wants s.job) s.head.line es f
