-- Where a session stands after a reply, over plain values.
use Rattle.std.specs.Prelude.{⊤}
use Rattle.std.proofs.Common.{arith, ◌≡◌, ◌≢◌, ◌≤◌, ◌+◌, ◌-◌, ◌^◌, ◌∷◌, ◌++◌, ◌⊎◌, [], ℕ, Bool, true, false, List, length, Option, Some, None, cond, refl, sym, ap, subst, inl, inr, length-append, ◌∙◌}
use Rattle.repo_name.specs.declared.names.Name.{Name}
use Rattle.repo_name.specs.declared.kinds.Kind.{Kind}
use Rattle.repo_name.specs.declared.rows.LockRow.{LockRow}
use Rattle.repo_name.specs.declared.tokens.Token.{Token}
use Rattle.repo_wire.specs.declared.messages.Ask.{Ask}
use Rattle.repo_wire.specs.declared.messages.Code.{Code}
use Rattle.repo_wire.specs.declared.messages.Request.{Request}
use Rattle.repo_wire.specs.declared.messages.Say.{Say}
use Rattle.repo_tree.specs.declared.configs.Config.{Config}
use Rattle.repo_tree.specs.declared.faults.TextError.{TextError}
use Rattle.repo_tree.specs.ConfigText.{IsConfigText}
use Rattle.repo_session.specs.declared.emissions.Emission.{Emission}
use Rattle.repo_session.specs.declared.jobs.Step.{Step}
use Rattle.repo_session.specs.declared.lines.Line.{Line}
use Rattle.repo_session.specs.declared.outcomes.End.{End}
use Rattle.repo_session.specs.declared.outcomes.Outcome.{Outcome}
use Rattle.repo_session.specs.declared.sessions.Head.{Head}
use Rattle.repo_session.specs.Askers.{Asker, Holding, row_of}
use Rattle.repo_session.specs.Clients.{IsSteady}
use Rattle.repo_session.specs.Obedience.{beside_unlock}
use Rattle.repo_session.specs.Ends.{AreHeeded, CausedBy, IsCause, IsOfOtherVersion, IsPassedOn, IsUnwelcome, MayConclude, MayFollow, NumbersAreSpent, before_unlock, without_unlock}
use Rattle.repo_session.specs.Jobs.{Rule, task_under, known_under, HeedsOn, MayAsk, MayBegin, MayTurn, MayGoOn}
use Rattle.repo_session.specs.Lines.{IsSentOnLine, IsFinished, IsClosed, IsIdle, or_spent}
use Rattle.repo_session.specs.Obedience.{still_whole, holds_whole}
use Rattle.repo_session.specs.Order.{Task, ticketed, locked, lock_row, opened, Holds, IsWork, IsUnlock, IsWorking, May, IsPermitted, Obeys}
use Rattle.repo_session.specs.Sessions.{IsPut, IsAwaited, KnowsAt, SessionWaits, SessionWants, SessionRests, SessionStands, SessionAt, SessionEndsBy, Leaves, FollowsStep, took}
use Rattle.repo_session.specs.Traces.{Each, Exchange, Trace, giving, silent}
use Rattle.repo_session.proofs.Causes.{config_faultless}
use Rattle.repo_session.proofs.Heeding.{follow_before, heeded_before, heeded_of, heeded_spent, welcome_follows}
use Rattle.repo_session.proofs.GoingOn.{may_conclude, own_end, passed_on, spent_end, unwelcome_of}
use Rattle.repo_session.proofs.Holding.{holds_of, unwelcome_ticket, unwelcome_lock, work_no_unlock, working_more}

-- ---- when no lock is held

-- a reply told that the token is dead
dead_free : (task : Task) (e : Exchange) (es : Trace) (token : Token) → e.say ≡ Say.Refused Code.Dead → Holds task token (e ∷ es) → ⊥
dead_free task e es token dead h = first h.later h.since h.held.unfenced
  where
    first : (later : Trace) → e ∷ es ≡ later ++ locked task token → Each (λ f. f.say ≢ Say.Refused Code.Dead) later → ⊥
    first [] same each = absurd (cc)
    first (f ∷ later) same each = each.0 (cc)

-- the lock was ended
unlock_free : (task : Task) (e : Exchange) (es : Trace) (token u : Token) → e.ask ≡ Ask.Unlock u → Holds task token (e ∷ es) → ⊥
unlock_free task e es token u asked h = first h.later h.since h.held.unended
  where
    first : (later : Trace) → e ∷ es ≡ later ++ locked task token → Each (λ f. (t : Token) → f.ask ≢ Ask.Unlock t) later → ⊥
    first [] same each = absurd (cc)
    first (f ∷ later) same each = each.0 u (cc)

-- it wasn't asked for yet
unasked_free : (task : Task) (e : Exchange) (es : Trace) (token : Token) → es ≡ [] → Holds task token (e ∷ es) → ⊥
unasked_free task e es token none h =
    let n : length (e ∷ es) ≡ length h.later + 2 = ap length h.since ∙ length-append h.later (locked task token) in
    let few : length es ≡ 0 = ap length none in
    absurd (omega (arith, n, few))

-- it wasn't granted
ungranted_free : (task : Task) (e : Exchange) (es : Trace) (t token : Token) → e.say ≢ Say.Done → es ≡ ticketed t → Holds task token (e ∷ es) → ⊥
ungranted_free task e es t token other is h = first h.later h.since
  where
    first : (later : Trace) → e ∷ es ≡ later ++ locked task token → ⊥
    first [] same = other (cc)
    first (f ∷ later) same =
        let n : length (e ∷ es) ≡ length (f ∷ later) + 2 = ap length same ∙ length-append (f ∷ later) (locked task token) in
        let few : length es ≡ 1 = ap length is in
        absurd (omega (arith, n, few))

-- whether the job ends as the token is dead
is_fenced : (end : End) → (end ≡ End.Fenced) ⊎ (end ≢ End.Fenced)
is_fenced End.Fenced = inl refl
is_fenced End.Busy = inr (λ x. absurd (cc))
is_fenced (End.Missing thing name) = inr (λ x. absurd (cc))
is_fenced (End.Refused code) = inr (λ x. absurd (cc))
is_fenced (End.BadObject thing name) = inr (λ x. absurd (cc))
is_fenced End.BadReply = inr (λ x. absurd (cc))
is_fenced End.Version = inr (λ x. absurd (cc))
is_fenced End.DirectoryTooLarge = inr (λ x. absurd (cc))
is_fenced End.FileTooLarge = inr (λ x. absurd (cc))
is_fenced End.Abandoned = inr (λ x. absurd (cc))

module _ (rule : Rule) (holding : Holding) (lock : Option LockRow) (Fresh : Type 0) (Knows : Ask → Trace → Type 0) (Wants : Trace → Type 0) where
  -- what is known where a request is pending
  pub waits_of : (line : Line) (r : Request) (es : Trace) → line.next ≡ Some r → SessionAt rule holding lock Fresh Knows Wants line es → SessionWaits rule holding lock Fresh Knows line r es
  waits_of line r es p s = subst (λ n. SessionStands rule holding lock Fresh Knows Wants line n es) p s.stands

  -- ---- what is known of a request of the job

  pub working_at : (outcome : Option Outcome) (ask : Ask) (es : Trace) → IsWork ask → KnowsAt rule holding lock Fresh Knows outcome ask es
      → IsWorking (task_under rule holding.who) holding.token es × (outcome ≡ None) × Knows ask es
  working_at outcome (Ask.List j after) es w k = k
  working_at outcome (Ask.Get j n) es w k = k
  working_at outcome (Ask.Range pack offset len) es w k = k
  working_at outcome (Ask.Put t j n x) es w k = k
  working_at outcome (Ask.Delete t j n) es w k = k
  working_at outcome (Ask.Upgrade t) es w k = k
  working_at outcome Ask.Ticket es w k = absurd w
  working_at outcome (Ask.Lock row) es w k = absurd w
  working_at outcome (Ask.Refresh t time) es w k = absurd w
  working_at outcome (Ask.Unlock t) es w k = absurd w
  working_at outcome Ask.Locks es w k = absurd w
  working_at outcome Ask.Config es w k = absurd w

  at_work : (outcome : Option Outcome) (ask : Ask) (es : Trace) → IsWork ask → IsWorking (task_under rule holding.who) holding.token es × (outcome ≡ None) × Knows ask es
      → KnowsAt rule holding lock Fresh Knows outcome ask es
  at_work outcome (Ask.List j after) es w k = k
  at_work outcome (Ask.Get j n) es w k = k
  at_work outcome (Ask.Range pack offset len) es w k = k
  at_work outcome (Ask.Put t j n x) es w k = k
  at_work outcome (Ask.Delete t j n) es w k = k
  at_work outcome (Ask.Upgrade t) es w k = k
  at_work outcome Ask.Ticket es w k = absurd w
  at_work outcome (Ask.Lock row) es w k = absurd w
  at_work outcome (Ask.Refresh t time) es w k = absurd w
  at_work outcome (Ask.Unlock t) es w k = absurd w
  at_work outcome Ask.Locks es w k = absurd w
  at_work outcome Ask.Config es w k = absurd w

  -- ---- a request is sent, or the numbers are spent

  spent_is : (outcome : Option Outcome) → (o : Outcome) × (or_spent outcome ≡ Some o)
  spent_is None = (Outcome.Ended (End.Refused Code.Exhausted), refl)
  spent_is (Some o) = (o, refl)

  sent : (line now : Line) (ask : Ask) (es : Trace) → IsSentOnLine line ask now → line.instance ≡ holding.who.instance → line.sequence ≡ length es → Obeys (task_under rule holding.who) rule.allows rule.gives es
      → May (task_under rule holding.who) es ask → IsPermitted rule.allows es ask → KnowsAt rule holding lock Fresh Knows line.outcome ask es
      → AreHeeded (known_under rule holding.who) rule.notes line.outcome (before_unlock es)
      → ((o : Outcome) → or_spent line.outcome ≡ Some o → NumbersAreSpent es → MayConclude (known_under rule holding.who) rule.notes rule.concludes (before_unlock es) o) → SessionAt rule holding lock Fresh Knows Wants now es
  sent line now ask es (inl p) i counted obeys may permitted knows heeded ends = subst (λ l. SessionAt rule holding lock Fresh Knows Wants l es) (sym p) (record {
    instance = i;
    obeys = obeys;
    heeded = heeded;
    stands = record { next = record { instance = i; sequence = ap (λ n. n + 1) counted; may = may; permitted = permitted }; counted = ap (λ n. n + 1) counted; knows = knows };
  })
  sent line now ask es (inr p) i counted obeys may permitted knows heeded ends =
      let o = spent_is line.outcome in
      let many : NumbersAreSpent es = subst (λ n. 2 ^ 64 - 1 ≤ n) counted p.0 in
      subst (λ l. SessionAt rule holding lock Fresh Knows Wants l es) (sym p.1) (record {
        instance = i;
        obeys = obeys;
        heeded = heeded_spent (known_under rule holding.who) rule.notes line.outcome (before_unlock es) heeded;
        stands = inl (record { outcome = o.0; there = o.1; concluded = ends o.0 o.1 many; released = λ t h. many });
      })

  spent_cause : (es : Trace) → NumbersAreSpent es → IsCause (known_under rule holding.who) es (End.Refused Code.Exhausted)
  spent_cause [] h = absurd (omega (arith, h))
  spent_cause (e ∷ es) h = inr (refl, h)

  -- where there is no outcome yet
  pub goes_on : (line now : Line) (ask : Ask) (es : Trace) → IsSentOnLine line ask now → line.instance ≡ holding.who.instance → line.sequence ≡ length es → line.outcome ≡ None → before_unlock es ≡ es
      → Obeys (task_under rule holding.who) rule.allows rule.gives es → May (task_under rule holding.who) es ask → IsPermitted rule.allows es ask → KnowsAt rule holding lock Fresh Knows line.outcome ask es
      → Each (MayFollow (known_under rule holding.who) rule.notes) es → SessionAt rule holding lock Fresh Knows Wants now es
  goes_on line now ask es s i counted none whole obeys may permitted knows all =
      sent line now ask es s i counted obeys may permitted knows (heeded_before (known_under rule holding.who) rule.notes line.outcome es whole all) (λ o p many.
      let is : Outcome.Ended (End.Refused Code.Exhausted) ≡ o = cc (p, none) in
      subst (λ x. MayConclude (known_under rule holding.who) rule.notes rule.concludes (before_unlock es) x) is
      (may_conclude rule.notes (known_under rule holding.who) rule.concludes (before_unlock es) (Outcome.Ended (End.Refused Code.Exhausted))
      (inl (subst (λ fs. IsCause (known_under rule holding.who) fs (End.Refused Code.Exhausted)) (sym whole) (spent_cause es many))) (spent_end (before_unlock es))))

  -- the job wants input
  pub idles : (line now : Line) (es : Trace) → IsIdle line now → line.instance ≡ holding.who.instance → line.sequence ≡ length es → line.outcome ≡ None → Obeys (task_under rule holding.who) rule.allows rule.gives es
      → IsWorking (task_under rule holding.who) holding.token es → rule.wanting es → Wants es → Each (MayFollow (known_under rule holding.who) rule.notes) es → SessionAt rule holding lock Fresh Knows Wants now es
  idles line now es idle i counted none obeys working may knows all = subst (λ l. SessionAt rule holding lock Fresh Knows Wants l es) (sym idle) (record {
    instance = i;
    obeys = obeys;
    heeded = heeded_before (known_under rule holding.who) rule.notes line.outcome es (holds_whole (task_under rule holding.who) holding.token es (holds_of (task_under rule holding.who) holding.token es working)) all;
    stands = inr (record { working = working; none = none; counted = counted; may = may; knows = knows });
  })

  -- the job ends, with an unlock
  pub finishes : (line now : Line) (o : Outcome) (es : Trace) → IsFinished line o holding.token now → line.instance ≡ holding.who.instance → line.sequence ≡ length es
      → Obeys (task_under rule holding.who) rule.allows rule.gives es → Holds (task_under rule holding.who) holding.token es → MayConclude (known_under rule holding.who) rule.notes rule.concludes es o
      → AreHeeded (known_under rule holding.who) rule.notes (Some o) es → SessionAt rule holding lock Fresh Knows Wants now es
  finishes line now o es s i counted obeys held concluded heeded =
      let ended : Line = record { instance = line.instance; sequence = line.sequence; next = line.next; outcome = Some o } in
      let whole = holds_whole (task_under rule holding.who) holding.token es held in
      sent ended now (Ask.Unlock holding.token) es s i counted obeys held (λ w. absurd w) (o, refl, concluded) (subst (λ fs. AreHeeded (known_under rule holding.who) rule.notes (Some o) fs) (sym whole) heeded) (λ x p many.
      let is : o ≡ x = cc in subst (λ y. MayConclude (known_under rule holding.who) rule.notes rule.concludes (before_unlock es) y) is (subst (λ fs. MayConclude (known_under rule holding.who) rule.notes rule.concludes fs o) (sym whole) concluded))

  -- the job ends without one
  pub closes : (line now : Line) (o : Outcome) (es : Trace) → IsClosed line o now → line.instance ≡ holding.who.instance → Obeys (task_under rule holding.who) rule.allows rule.gives es
      → MayConclude (known_under rule holding.who) rule.notes rule.concludes (before_unlock es) o → ((t : Token) → Holds (task_under rule holding.who) t es → NumbersAreSpent es)
      → AreHeeded (known_under rule holding.who) rule.notes (Some o) (before_unlock es) → SessionAt rule holding lock Fresh Knows Wants now es
  closes line now o es c i obeys concluded released heeded = subst (λ l. SessionAt rule holding lock Fresh Knows Wants l es) (sym c) (record {
    instance = i;
    obeys = obeys;
    heeded = heeded;
    stands = inl (record { outcome = o; there = refl; concluded = concluded; released = released });
  })

  -- it ends on the newest reply, which is a cause of that
  pub leaves : (old new : Head) (end : End) (e : Exchange) (es : Trace) → Leaves old end new → old.holder ≡ holding → old.line.instance ≡ holding.who.instance → old.line.sequence ≡ length es + 1
      → Obeys (task_under rule holding.who) rule.allows rule.gives (e ∷ es) → ((t : Token) → e.ask ≢ Ask.Unlock t) → CausedBy (known_under rule holding.who) e.ask e.say end → MayConclude (known_under rule holding.who) rule.notes rule.concludes (e ∷ es) (Outcome.Ended end)
      → (e.say ≡ Say.Refused Code.Dead → end ≡ End.Fenced) → (e.say ≢ Say.Refused Code.Dead → Holds (task_under rule holding.who) holding.token (e ∷ es))
      → AreHeeded (known_under rule holding.who) rule.notes (Some (Outcome.Ended end)) (e ∷ es) → SessionAt rule holding lock Fresh Knows Wants new.line (e ∷ es)
  leaves old new end e es left is i counted obeys plain caused goes dead held heeded = elim (is_fenced end) [
    | inl fenced ↦
        let say : e.say ≡ Say.Refused Code.Dead = subst (λ x. CausedBy (known_under rule holding.who) e.ask e.say x) fenced caused in
        closes old.line new.line (Outcome.Ended end) (e ∷ es) (left.fenced fenced) i obeys (subst (λ fs. MayConclude (known_under rule holding.who) rule.notes rule.concludes fs (Outcome.Ended end)) (sym (still_whole e es plain)) goes)
        (λ t h. absurd (dead_free (task_under rule holding.who) e es t say h)) (subst (λ fs. AreHeeded (known_under rule holding.who) rule.notes (Some (Outcome.Ended end)) fs) (sym (still_whole e es plain)) heeded)
    | inr other ↦
        let n : old.line.sequence ≡ length (e ∷ es) = omega (arith, counted) in
        finishes old.line new.line (Outcome.Ended end) (e ∷ es) (subst (λ (h : Holding). IsFinished old.line (Outcome.Ended end) h.token new.line) is (left.other other)) i n obeys (held (λ x. other (dead x))) goes heeded
  ]

-- ---- the replies to the ticket and the lock

more : (n : ℕ) (e : Exchange) (es : Trace) → n ≡ length es + 1 → n ≡ length (e ∷ es)
more n e es h = omega arith

plain_by : (a b : Ask) → a ≡ b → ((t : Token) → b ≢ Ask.Unlock t) → (t : Token) → a ≢ Ask.Unlock t
plain_by a b q h t x = h t (sym q ∙ x)

ticket_plain : (t : Token) → Ask.Ticket ≢ Ask.Unlock t
ticket_plain t x = absurd (cc)

lock_plain : (row : LockRow) (t : Token) → Ask.Lock row ≢ Ask.Unlock t
lock_plain row t x = absurd (cc)

config_plain : (t : Token) → Ask.Config ≢ Ask.Unlock t
config_plain t x = absurd (cc)

module _ (rule : Rule) (holding : Holding) (lock : Option LockRow) (Fresh : Type 0) (Knows : Ask → Trace → Type 0) (Wants : Trace → Type 0) (line : Line) (r : Request) (es : Trace) (next : line.next ≡ Some r)
    (at : SessionAt rule holding lock Fresh Knows Wants line es) where
  waits : SessionWaits rule holding lock Fresh Knows line r es
  waits = waits_of rule holding lock Fresh Knows Wants line r es next at

  known : (a : Ask) → r.ask ≡ a → KnowsAt rule holding lock Fresh Knows line.outcome a es
  known a q = subst (λ x. KnowsAt rule holding lock Fresh Knows line.outcome x es) q waits.knows

  may : (a : Ask) → r.ask ≡ a → May (task_under rule holding.who) es a
  may a q = subst (λ x. May (task_under rule holding.who) es x) q waits.next.may

  -- it went on by all that came so far, where there is no outcome
  all_before : line.outcome ≡ None → before_unlock es ≡ es → Each (MayFollow (known_under rule holding.who) rule.notes) es
  all_before none whole = follow_before (known_under rule holding.who) rule.notes line.outcome es none whole at.heeded

  none_before : es ≡ [] → before_unlock es ≡ es
  none_before is = subst (λ fs. before_unlock fs ≡ fs) (sym is) refl

  ticket_before : (token : Token) → es ≡ ticketed token → before_unlock es ≡ es
  ticket_before token is = subst (λ fs. before_unlock fs ≡ fs) (sym is) refl

  lock_before : es ≡ locked (task_under rule holding.who) holding.token → before_unlock es ≡ es
  lock_before is = subst (λ fs. before_unlock fs ≡ fs) (sym is) refl

  module _ (say : Say) where
    abbrev pub e : Exchange
    e = silent r.ask say

    obeys_more : Obeys (task_under rule holding.who) rule.allows rule.gives (e ∷ es)
    obeys_more = (waits.next.may, waits.next.permitted, inl refl, at.obeys)

    -- the reply to the ticket
    ticketed_now : (t : Token) (lock' : Option LockRow) (now : Line) → r.ask ≡ Ask.Ticket → say ≡ Say.Token t → IsSentOnLine line (Ask.Lock (lock_row (task_under rule holding.who) t)) now
        → SessionAt rule (record { who = holding.who; token = t }) lock' Fresh Knows Wants now (e ∷ es)
    ticketed_now t lock' now q is s =
        let k = known Ask.Ticket q in
        let none : es ≡ [] = may Ask.Ticket q in
        let all : e ∷ es ≡ ticketed t = ap (λ a. silent a say ∷ es) q ∙ ap (λ x. silent Ask.Ticket x ∷ es) is
        ∙ ap (λ fs. silent Ask.Ticket (Say.Token t) ∷ fs) none in
        goes_on rule (record { who = holding.who; token = t }) lock' Fresh Knows Wants line now (Ask.Lock (lock_row (task_under rule holding.who) t)) (e ∷ es) s at.instance (more line.sequence e es waits.counted) k.1
        (still_whole e es (plain_by r.ask Ask.Ticket q ticket_plain)) obeys_more (t, all, refl) (λ w. absurd w) (k.0, k.1, all) (
          subst (λ a. MayFollow (known_under rule holding.who) rule.notes (silent a say)) (sym q) (subst (λ s. MayFollow (known_under rule holding.who) rule.notes (silent Ask.Ticket s)) (sym is)
              (welcome_follows (known_under rule holding.who) rule.notes (silent Ask.Ticket (Say.Token t)) (λ o. o) (record { wanted = λ w. w tt; sensible = λ u. u tt; good = λ thing name bad. bad }))),
          all_before k.1 (none_before none),
        )

    -- it ends on the reply, where no lock is held
    closed_now : (holding' : Holding) (lock' : Option LockRow) (end : End) (now : Line) → holding'.who ≡ holding.who → IsClosed line (Outcome.Ended end) now → ((t : Token) → r.ask ≢ Ask.Unlock t)
        → CausedBy (known_under rule holding.who) r.ask say end → ¬ IsWork r.ask → ((t : Token) → Holds (task_under rule holding.who) t (e ∷ es) → ⊥) → line.outcome ≡ None → before_unlock es ≡ es
        → SessionAt rule holding' lock' Fresh Knows Wants now (e ∷ es)
    closed_now holding' lock' end now who c plain caused own free none whole =
        subst (λ (w : Asker). SessionAt rule (record { who = w; token = holding'.token }) lock' Fresh Knows Wants now (e ∷ es)) (sym who)
        (closes rule (record { who = holding.who; token = holding'.token }) lock' Fresh Knows Wants line now (Outcome.Ended end) (e ∷ es) c at.instance obeys_more
        (subst (λ fs. MayConclude (known_under rule holding.who) rule.notes rule.concludes fs (Outcome.Ended end)) (sym (still_whole e es plain))
        (may_conclude rule.notes (known_under rule holding.who) rule.concludes (e ∷ es) (Outcome.Ended end) (inl (inl caused)) (own_end (known_under rule holding.who) e es end own caused))) (λ t h. absurd (free t h))
        (subst (λ fs. AreHeeded (known_under rule holding.who) rule.notes (Some (Outcome.Ended end)) fs) (sym (still_whole e es plain)) ((λ ends. (Outcome.Ended end, refl, (end, refl, caused))), all_before none whole)))

    ticket_closed : (holding' : Holding) (lock' : Option LockRow) (end : End) (now : Line) → holding'.who ≡ holding.who → r.ask ≡ Ask.Ticket → ((t : Token) → say ≢ Say.Token t) → SessionEndsBy r.ask say end
        → IsClosed line (Outcome.Ended end) now → SessionAt rule holding' lock' Fresh Knows Wants now (e ∷ es)
    ticket_closed holding' lock' end now who q other ends c =
        closed_now holding' lock' end now who c (plain_by r.ask Ask.Ticket q ticket_plain) (ends.1 (subst (λ a. IsUnwelcome a say) (sym q) (unwelcome_ticket say other)) (known_under rule holding.who))
        (subst (λ a. ¬ IsWork a) (sym q) (λ w. w)) (λ t h. unasked_free (task_under rule holding.who) e es t (may Ask.Ticket q) h)
        (known Ask.Ticket q).1 (none_before (may Ask.Ticket q))

    -- the reply to the lock
    locked_now : (row : LockRow) (now : Line) → r.ask ≡ Ask.Lock row → say ≡ Say.Done → IsSentOnLine line Ask.Config now → SessionAt rule holding lock Fresh Knows Wants now (e ∷ es)
    locked_now row now q is s =
        let k = known (Ask.Lock row) q in
        let m : (token : Token) × (es ≡ ticketed token) × (row ≡ lock_row (task_under rule holding.who) token) = may (Ask.Lock row) q in
        let same : m.0 ≡ holding.token = one_ticket m.0 holding.token (sym m.1 ∙ k.2) in
        let all : e ∷ es ≡ locked (task_under rule holding.who) holding.token = ap (λ a. silent a say ∷ es) (q ∙ ap (λ x. Ask.Lock x) (m.2 ∙ ap (λ t. lock_row (task_under rule holding.who) t) same))
        ∙ ap (λ x. silent (Ask.Lock (lock_row (task_under rule holding.who) holding.token)) x ∷ es) is
        ∙ ap (λ fs. silent (Ask.Lock (lock_row (task_under rule holding.who) holding.token)) Say.Done ∷ fs) k.2 in
        goes_on rule holding lock Fresh Knows Wants line now Ask.Config (e ∷ es) s at.instance (more line.sequence e es waits.counted) k.1 (still_whole e es (plain_by r.ask (Ask.Lock row) q (lock_plain row))) obeys_more
        (holding.token, all) (λ w. absurd w) (k.0, k.1, all) (
          subst (λ a. MayFollow (known_under rule holding.who) rule.notes (silent a say)) (sym q) (subst (λ s. MayFollow (known_under rule holding.who) rule.notes (silent (Ask.Lock row) s)) (sym is)
              (welcome_follows (known_under rule holding.who) rule.notes (silent (Ask.Lock row) Say.Done) (λ o. o) (record { wanted = λ w. w tt; sensible = λ u. u tt; good = λ thing name bad. bad }))),
          all_before k.1 (ticket_before holding.token k.2),
        )
      where
        token_in : Say → Token
        token_in (Say.Token t) = t
        token_in _ = record { 0 = 0 }

        newest : Trace → Say
        newest [] = Say.Done
        newest (f ∷ fs) = f.say

        one_ticket : (t u : Token) → ticketed t ≡ ticketed u → t ≡ u
        one_ticket t u h = ap (λ fs. token_in (newest fs)) h

    lock_closed : (row : LockRow) (end : End) (now : Line) → r.ask ≡ Ask.Lock row → say ≢ Say.Done → SessionEndsBy r.ask say end → IsClosed line (Outcome.Ended end) now
        → SessionAt rule holding lock Fresh Knows Wants now (e ∷ es)
    lock_closed row end now q other ends c =
        let k = known (Ask.Lock row) q in
        closed_now holding lock end now refl c (plain_by r.ask (Ask.Lock row) q (lock_plain row)) (ends.1 (subst (λ a. IsUnwelcome a say) (sym q) (unwelcome_lock row say other)) (known_under rule holding.who))
        (subst (λ a. ¬ IsWork a) (sym q) (λ w. w)) (λ t h. ungranted_free (task_under rule holding.who) e es holding.token t other k.2 h)
        k.1 (ticket_before holding.token k.2)

    -- ---- the reply to the config

    config_working : (text : List ℕ) (config : Config) → r.ask ≡ Ask.Config → say ≡ Say.Bytes text → IsConfigText text config → e ∷ es ≡ opened (task_under rule holding.who) holding.token text
    config_working text config q is reads =
        let k = known Ask.Config q in
        ap (λ a. silent a say ∷ es) q ∙ ap (λ s. silent Ask.Config s ∷ es) is ∙ ap (λ fs. silent Ask.Config (Say.Bytes text) ∷ fs) k.2

    config_follows : (text : List ℕ) (config : Config) → r.ask ≡ Ask.Config → say ≡ Say.Bytes text → IsConfigText text config → config.version ≤ known_under rule holding.who → MayFollow (known_under rule holding.who) rule.notes e
    config_follows text config q is reads known_to =
        let none : ¬ IsOfOtherVersion (known_under rule holding.who) Ask.Config (Say.Bytes text) = λ other. (let w = config_faultless (known_under rule holding.who) text config TextError.Version reads known_to other in absurd (cc)) in
        subst (λ a. MayFollow (known_under rule holding.who) rule.notes (silent a say)) (sym q) (subst (λ s. MayFollow (known_under rule holding.who) rule.notes (silent Ask.Config s)) (sym is)
        (welcome_follows (known_under rule holding.who) rule.notes (silent Ask.Config (Say.Bytes text)) none
        (record { wanted = λ w. w tt; sensible = λ u. u.3 (config_faultless (known_under rule holding.who) text config u.0 reads known_to u.1); good = λ thing name bad. bad })))

    -- it is read, of a version that is known, and the job asks for more
    begun : (Fresh' : Type 0) (Knows' : Ask → Trace → Type 0) (Wants' : Trace → Type 0) (text : List ℕ) (config : Config) (ask : Ask) (now : Line) → r.ask ≡ Ask.Config → say ≡ Say.Bytes text → IsConfigText text config
        → config.version ≤ known_under rule holding.who → IsSentOnLine line ask now
        → (Fresh → MayAsk rule holding.who Knows' (opened (task_under rule holding.who) holding.token text) ask) → SessionAt rule holding lock Fresh' Knows' Wants' now (e ∷ es)
    begun Fresh' Knows' Wants' text config ask now q is reads known_to s begins =
        let k = known Ask.Config q in
        let all = config_working text config q is reads in
        let m : MayAsk rule holding.who Knows' (e ∷ es) ask = subst (λ fs. MayAsk rule holding.who Knows' fs ask) (sym all) (begins k.0) in
        let working : IsWorking (task_under rule holding.who) holding.token (e ∷ es) =
        (config, record { later = []; text = text; since = all; reads = reads; known = known_to; held = record { unfenced = tt; unended = tt } }) in
        goes_on rule holding lock Fresh' Knows' Wants' line now ask (e ∷ es) s at.instance (more line.sequence e es waits.counted) k.1 (still_whole e es (plain_by r.ask Ask.Config q config_plain)) obeys_more m.may (λ w. m.allowed)
        (at_work rule holding lock Fresh' Knows' Wants' line.outcome ask (e ∷ es) m.work (working, k.1, m.knows)) (config_follows text config q is reads known_to, all_before k.1 (lock_before k.2))

    -- or it ends at once
    begun_over : (Fresh' : Type 0) (Knows' : Ask → Trace → Type 0) (Wants' : Trace → Type 0) (text : List ℕ) (config : Config) (outcome : Outcome) (now : Line) → r.ask ≡ Ask.Config → say ≡ Say.Bytes text → IsConfigText text config
        → config.version ≤ known_under rule holding.who → IsFinished line outcome holding.token now → MayConclude (known_under rule holding.who) rule.notes rule.concludes (opened (task_under rule holding.who) holding.token text) outcome
        → SessionAt rule holding lock Fresh' Knows' Wants' now (e ∷ es)
    begun_over Fresh' Knows' Wants' text config outcome now q is reads known_to s concluded =
        let all = config_working text config q is reads in
        finishes rule holding lock Fresh' Knows' Wants' line now outcome (e ∷ es) s at.instance (more line.sequence e es waits.counted) obeys_more
        (record { later = silent Ask.Config (Say.Bytes text) ∷ []; since = all; held = record { unfenced = ((λ x. absurd (cc)), tt); unended = ((λ t x. absurd (cc)), tt) } })
        (subst (λ fs. MayConclude (known_under rule holding.who) rule.notes rule.concludes fs outcome) (sym all) concluded)
        (heeded_of (known_under rule holding.who) rule.notes (Some outcome) (e ∷ es) (config_follows text config q is reads known_to, all_before (known Ask.Config q).1 (lock_before (known Ask.Config q).2)))

    -- the job begins
    pub begins : (Fresh' : Type 0) (Knows' : Ask → Trace → Type 0) (Wants' : Trace → Type 0) (text : List ℕ) (config : Config) (step : Step) (end : End) (old new : Head) → old.line ≡ line → old.holder ≡ holding → r.ask ≡ Ask.Config
        → say ≡ Say.Bytes text → IsConfigText text config → config.version ≤ known_under rule holding.who → FollowsStep old step end new
        → (Fresh → MayBegin rule holding.who Knows' (opened (task_under rule holding.who) holding.token text) step) → SessionAt rule holding lock Fresh' Knows' Wants' new.line (e ∷ es)
    begins Fresh' Knows' Wants' text config (Step.Ask ask) end old new same is q said reads known_to s may =
        begun Fresh' Knows' Wants' text config ask new.line q said reads known_to (subst (λ l. IsSentOnLine l ask new.line) same s) may
    begins Fresh' Knows' Wants' text config (Step.Finish outcome) end old new same is q said reads known_to s may =
        begun_over Fresh' Knows' Wants' text config outcome new.line q said reads known_to
        (subst (λ (h : Holding). IsFinished line outcome h.token new.line) is (subst (λ l. IsFinished l outcome old.holder.token new.line) same s)) (may (known Ask.Config q).0)
    begins Fresh' Knows' Wants' text config Step.Want end old new same is q said reads known_to s may = absurd (may (known Ask.Config q).0)
    begins Fresh' Knows' Wants' text config Step.Away end old new same is q said reads known_to s may = absurd (may (known Ask.Config q).0)

    -- the session ends on it
    pub config_left : (Fresh' : Type 0) (Knows' : Ask → Trace → Type 0) (Wants' : Trace → Type 0) (end : End) (old new : Head) → old.line ≡ line → old.holder ≡ holding → r.ask ≡ Ask.Config → CausedBy (known_under rule holding.who) r.ask say end
        → (say ≡ Say.Refused Code.Dead → end ≡ End.Fenced) → Leaves old end new → SessionAt rule holding lock Fresh' Knows' Wants' new.line (e ∷ es)
    config_left Fresh' Knows' Wants' end old new same is q caused dead left =
        let k = known Ask.Config q in
        let plain = plain_by r.ask Ask.Config q config_plain in
        leaves rule holding lock Fresh' Knows' Wants' old new end e es left is (ap (λ (l : Line). l.instance) same ∙ at.instance) (ap (λ (l : Line). l.sequence) same ∙ waits.counted) obeys_more plain caused
        (may_conclude rule.notes (known_under rule holding.who) rule.concludes (e ∷ es) (Outcome.Ended end) (inl (inl caused)) (own_end (known_under rule holding.who) e es end (subst (λ a. ¬ IsWork a) (sym q) (λ w. w)) caused)) dead (λ live. record { later = e ∷ []; since = ap (λ fs. e ∷ fs) k.2; held = record { unfenced = (live, tt); unended = (plain, tt) } })
        ((λ ends. (Outcome.Ended end, refl, (end, refl, caused))), all_before k.1 (lock_before k.2))

  -- what a ticket's reply makes of the session
  pub ticket_taken : (say : Say) (holding' : Holding) (lock' : Option LockRow) (end : End) (now : Line) → holding'.who ≡ holding.who → r.ask ≡ Ask.Ticket → SessionEndsBy r.ask say end
      → ((t : Token) (row : LockRow) → say ≡ Say.Token t → lock ≡ Some row → (holding'.token ≡ t) × IsSentOnLine line (Ask.Lock (row_of t row.exclusive row.time row.host)) now)
      → (((t : Token) → say ≢ Say.Token t) → IsClosed line (Outcome.Ended end) now) → SessionAt rule holding' lock' Fresh Knows Wants now (silent r.ask say ∷ es)
  ticket_taken (Say.Token t) holding' lock' end now who q ends given other =
      let g = given t (lock_row (task_under rule holding.who) (record { 0 = 0 })) refl (known Ask.Ticket q).2 in
      subst (λ (h : Holding). SessionAt rule h lock' Fresh Knows Wants now (silent r.ask (Say.Token t) ∷ es)) (held holding' t who g.0) (ticketed_now (Say.Token t) t lock' now q refl g.1)
    where
      held : (h : Holding) (t : Token) → h.who ≡ holding.who → h.token ≡ t → record { who = holding.who; token = t } ≡ h
      held h t p q = subst (λ w. record { who = w; token = t } ≡ h) p (subst (λ u. record { who = h.who; token = u } ≡ h) q refl)
  ticket_taken Say.Done holding' lock' end now who q ends given other = let n : (t : Token) → Say.Done ≢ Say.Token t = λ t x. absurd (cc) in ticket_closed Say.Done holding' lock' end now who q n ends (other n)
  ticket_taken (Say.Names b names) holding' lock' end now who q ends given other =
      let n : (t : Token) → Say.Names b names ≢ Say.Token t = λ t x. absurd (cc) in ticket_closed (Say.Names b names) holding' lock' end now who q n ends (other n)
  ticket_taken (Say.Bytes x) holding' lock' end now who q ends given other = let n : (t : Token) → Say.Bytes x ≢ Say.Token t = λ t y. absurd (cc) in ticket_closed (Say.Bytes x) holding' lock' end now who q n ends (other n)
  ticket_taken (Say.LockList rows) holding' lock' end now who q ends given other =
      let n : (t : Token) → Say.LockList rows ≢ Say.Token t = λ t x. absurd (cc) in ticket_closed (Say.LockList rows) holding' lock' end now who q n ends (other n)
  ticket_taken (Say.Refused code) holding' lock' end now who q ends given other =
      let n : (t : Token) → Say.Refused code ≢ Say.Token t = λ t x. absurd (cc) in ticket_closed (Say.Refused code) holding' lock' end now who q n ends (other n)

  -- and a lock's
  pub lock_taken : (say : Say) (row : LockRow) (end : End) (now : Line) → r.ask ≡ Ask.Lock row → SessionEndsBy r.ask say end → (say ≡ Say.Done → IsSentOnLine line Ask.Config now)
      → (say ≢ Say.Done → IsClosed line (Outcome.Ended end) now) → SessionAt rule holding lock Fresh Knows Wants now (silent r.ask say ∷ es)
  lock_taken Say.Done row end now q ends given other = locked_now Say.Done row now q refl (given refl)
  lock_taken (Say.Token t) row end now q ends given other = let n : Say.Token t ≢ Say.Done = λ x. absurd (cc) in lock_closed (Say.Token t) row end now q n ends (other n)
  lock_taken (Say.Names b names) row end now q ends given other = let n : Say.Names b names ≢ Say.Done = λ x. absurd (cc) in lock_closed (Say.Names b names) row end now q n ends (other n)
  lock_taken (Say.Bytes x) row end now q ends given other = let n : Say.Bytes x ≢ Say.Done = λ y. absurd (cc) in lock_closed (Say.Bytes x) row end now q n ends (other n)
  lock_taken (Say.LockList rows) row end now q ends given other = let n : Say.LockList rows ≢ Say.Done = λ x. absurd (cc) in lock_closed (Say.LockList rows) row end now q n ends (other n)
  lock_taken (Say.Refused code) row end now q ends given other = let n : Say.Refused code ≢ Say.Done = λ x. absurd (cc) in lock_closed (Say.Refused code) row end now q n ends (other n)

  -- ---- the replies to the job's own requests

  module _ (work : IsWork r.ask) where
    pub working : IsWorking (task_under rule holding.who) holding.token es × (line.outcome ≡ None) × Knows r.ask es
    working = working_at rule holding lock Fresh Knows Wants line.outcome r.ask es work waits.knows

    -- what the job may be told: the request is one that it may have asked
    pub asked_before : MayAsk rule holding.who Knows es r.ask
    asked_before = record { work = work; may = waits.next.may; allowed = waits.next.permitted work; knows = working.2 }

    pub working_on : (f : Exchange) → f.ask ≡ r.ask → f.say ≢ Say.Refused Code.Dead → IsWorking (task_under rule holding.who) holding.token (f ∷ es)
    working_on f is live = working_more (task_under rule holding.who) holding.token f es working.0 live (plain_by f.ask r.ask is (work_no_unlock r.ask work))

    so_far : Each (MayFollow (known_under rule holding.who) rule.notes) es
    so_far = all_before working.1 (holds_whole (task_under rule holding.who) holding.token es (holds_of (task_under rule holding.who) holding.token es working.0))

    -- it is awaited, whatever else the job knows by now
    pub still_awaited : IsPut r.ask → IsAwaited rule holding r es
    still_awaited put = record {
      put = put;
      at = λ lock'. record {
        instance = refl;
        obeys = at.obeys;
        heeded = subst (λ o. AreHeeded (known_under rule holding.who) rule.notes o (before_unlock es)) working.1 at.heeded;
        stands = record { next = waits.next; counted = waits.next.sequence; knows = at_work rule holding lock' ⊤ (λ ask fs. ⊤) (λ fs. ⊥) None r.ask es work (working.0, refl, tt) };
      };
    }

    -- the session ends on the reply
    pub work_left : (say : Say) (Fresh' : Type 0) (Knows' : Ask → Trace → Type 0) (Wants' : Trace → Type 0) (end : End) (old new : Head) → old.line ≡ line → old.holder ≡ holding → IsPassedOn rule.notes r.ask say
        → SessionEndsBy r.ask say end → Leaves old end new → SessionAt rule holding lock Fresh' Knows' Wants' new.line (silent r.ask say ∷ es)
    work_left say Fresh' Knows' Wants' end old new same is may ends left =
        let f : Exchange = silent r.ask say in
        let unwelcome = unwelcome_of rule.notes r.ask say may in
        let caused = ends.1 unwelcome (known_under rule holding.who) in
        leaves rule holding lock Fresh' Knows' Wants' old new end f es left is (ap (λ (l : Line). l.instance) same ∙ at.instance) (ap (λ (l : Line). l.sequence) same ∙ waits.counted) (obeys_more say) (work_no_unlock r.ask work)
        caused (passed_on rule.notes (known_under rule holding.who) rule.concludes f es end may caused) ends.0 (λ live. holds_of (task_under rule holding.who) holding.token (f ∷ es) (working_on f refl live))
        ((λ e. (Outcome.Ended end, refl, (end, refl, caused))), so_far)

    -- the job goes on, or ends
    pub stepped : (Fresh' : Type 0) (Knows' : Ask → Trace → Type 0) (Wants' : Trace → Type 0) (say : Say) (emitted : List Emission) (step : Step) (end : End) (old new : Head) → old.line ≡ line → old.holder ≡ holding → say ≢ Say.Refused Code.Dead
        → MayTurn rule holding.who Knows' Wants' es (giving r.ask say emitted) step
        → HeedsOn (known_under rule holding.who) rule.notes (giving r.ask say emitted) step → SessionEndsBy r.ask say end
        → FollowsStep old step end new
        → SessionAt rule holding lock Fresh' Knows' Wants' new.line (giving r.ask say (cond (took step) emitted []) ∷ es)
    stepped Fresh' Knows' Wants' say emitted (Step.Ask ask) end old new same is live m heeds ends s =
        let f : Exchange = giving r.ask say emitted in
        goes_on rule holding lock Fresh' Knows' Wants' line new.line ask (f ∷ es) (subst (λ l. IsSentOnLine l ask new.line) same s) at.instance (more line.sequence f es waits.counted) working.1 (still_whole f es (work_no_unlock r.ask work))
        (waits.next.may, waits.next.permitted, m.0, at.obeys) m.1.may (λ w. m.1.allowed) (at_work rule holding lock Fresh' Knows' Wants' line.outcome ask (f ∷ es) m.1.work (working_on f refl live, working.1, m.1.knows))
        (heeds, so_far)
    stepped Fresh' Knows' Wants' say emitted (Step.Finish o) end old new same is live m heeds ends s =
        let f : Exchange = giving r.ask say emitted in
        finishes rule holding lock Fresh' Knows' Wants' line new.line o (f ∷ es) (subst (λ (h : Holding). IsFinished line o h.token new.line) is (subst (λ l. IsFinished l o old.holder.token new.line) same s)) at.instance
        (more line.sequence f es waits.counted) (waits.next.may, waits.next.permitted, m.0, at.obeys) (holds_of (task_under rule holding.who) holding.token (f ∷ es) (working_on f refl live)) m.1
        ((λ ends. (o, refl, heeds ends)), so_far)
    stepped Fresh' Knows' Wants' say emitted Step.Want end old new same is live m heeds ends s =
        let f : Exchange = giving r.ask say emitted in
        idles rule holding lock Fresh' Knows' Wants' line new.line (f ∷ es) (subst (λ l. IsIdle l new.line) same s) at.instance (more line.sequence f es waits.counted) working.1
        (waits.next.may, waits.next.permitted, m.0, at.obeys) (working_on f refl live) m.1 m.2 (heeds, so_far)
    stepped Fresh' Knows' Wants' say emitted Step.Away end old new same is live m heeds ends s = work_left say Fresh' Knows' Wants' end old new same is m ends s

    -- nothing was taken, and what the job knew it knows
    pub knows_still : (Fresh' : Type 0) (Knows' : Ask → Trace → Type 0) (Wants' : Trace → Type 0) → ((fs : Trace) → Knows r.ask fs → Knows' r.ask fs) → SessionAt rule holding lock Fresh' Knows' Wants' line es
    knows_still Fresh' Knows' Wants' still = record {
      instance = at.instance;
      obeys = at.obeys;
      heeded = at.heeded;
      stands = subst (λ n. SessionStands rule holding lock Fresh' Knows' Wants' line n es) (sym next) (record {
        next = waits.next;
        counted = waits.counted;
        knows = at_work rule holding lock Fresh' Knows' Wants' line.outcome r.ask es work (working.0, working.1, still es working.2);
      });
    }

  -- the reply to the unlock
  pub unlocked : (say : Say) (u : Token) → r.ask ≡ Ask.Unlock u
      → SessionAt rule holding lock Fresh Knows Wants (record { instance = line.instance; sequence = line.sequence; next = None; outcome = line.outcome }) (silent r.ask say ∷ es)
  unlocked say u q =
      let k : (o : Outcome) × (line.outcome ≡ Some o) × MayConclude (known_under rule holding.who) rule.notes rule.concludes es o = known (Ask.Unlock u) q in
      let f : Exchange = silent r.ask say in
      let before : before_unlock (f ∷ es) ≡ es = ap (λ a. without_unlock a (f ∷ es) es) q in
      record {
        instance = at.instance;
        obeys = obeys_more say;
        heeded = subst (λ fs. AreHeeded (known_under rule holding.who) rule.notes line.outcome fs) (holds_whole (task_under rule holding.who) u es (may (Ask.Unlock u) q) ∙ sym before) at.heeded;
        stands = inl (record {
          outcome = k.0;
          there = k.1;
          concluded = subst (λ fs. MayConclude (known_under rule holding.who) rule.notes rule.concludes fs k.0) (sym before) k.2;
          released = λ t h. absurd (unlock_free (task_under rule holding.who) f es t u q h);
        });
      }

-- ---- input

-- what is known where input is wanted
pub wants_of : (rule : Rule) (holding : Holding) (lock : Option LockRow) (Fresh : Type 0) (Knows : Ask → Trace → Type 0) (Wants : Trace → Type 0) (line : Line) (es : Trace) → line.next ≡ None → line.outcome ≡ None
    → SessionAt rule holding lock Fresh Knows Wants line es → SessionWants rule holding Wants line es
wants_of rule holding lock Fresh Knows Wants line es n o s = by (subst (λ m. SessionStands rule holding lock Fresh Knows Wants line m es) n s.stands)
  where
    by : SessionRests rule holding line es ⊎ SessionWants rule holding Wants line es → SessionWants rule holding Wants line es
    by (inl r) = let there = r.there in absurd (cc)
    by (inr w) = w

-- the job goes on from an item: at the trace with it, of the same length
pub input_taken : (rule : Rule) (holding : Holding) (lock : Option LockRow) (Fresh : Type 0) (Knows : Ask → Trace → Type 0) (Wants : Trace → Type 0) (step : Step) (end : End) (old new : Head) (es : Trace) → old.holder ≡ holding
    → old.line.instance ≡ holding.who.instance → old.line.outcome ≡ None → old.line.sequence ≡ length es → Obeys (task_under rule holding.who) rule.allows rule.gives es → Each (MayFollow (known_under rule holding.who) rule.notes) es
    → IsWorking (task_under rule holding.who) holding.token es
    → MayGoOn rule holding.who Knows Wants es step → FollowsStep old step end new → SessionAt rule holding lock Fresh Knows Wants new.line es
input_taken rule holding lock Fresh Knows Wants (Step.Ask ask) end old new es is i none counted obeys all held m s =
    goes_on rule holding lock Fresh Knows Wants old.line new.line ask es s i counted none (holds_whole (task_under rule holding.who) holding.token es (holds_of (task_under rule holding.who) holding.token es held)) obeys m.may (λ w. m.allowed)
    (at_work rule holding lock Fresh Knows Wants old.line.outcome ask es m.work (held, none, m.knows)) all
input_taken rule holding lock Fresh Knows Wants (Step.Finish o) end old new es is i none counted obeys all held m s =
    finishes rule holding lock Fresh Knows Wants old.line new.line o es (subst (λ (h : Holding). IsFinished old.line o h.token new.line) is s) i counted obeys (holds_of (task_under rule holding.who) holding.token es held) m (heeded_of (known_under rule holding.who) rule.notes (Some o) es all)
input_taken rule holding lock Fresh Knows Wants Step.Want end old new es is i none counted obeys all held m s = idles rule holding lock Fresh Knows Wants old.line new.line es s i counted none obeys held m.0 m.1 all
input_taken rule holding lock Fresh Knows Wants Step.Away end old new es is i none counted obeys all held m s = absurd m

-- what is sent on a step doesn't depend on what was pending
pub follows_none : (step : Step) (end : End) (old new : Head) → FollowsStep (record old { line = record old.line { next = None } }) step end new → FollowsStep old step end new
follows_none (Step.Ask ask) end old new h = h
follows_none (Step.Finish outcome) end old new h = h
follows_none Step.Want end old new h = h
follows_none Step.Away end old new h = record { fenced = h.fenced; other = h.other }

-- a put is work of the job
pub put_work : (ask : Ask) → IsPut ask → IsWork ask
put_work ask (token, k, n, x, is) = subst IsWork (sym is) tt

-- any reply to it but that it is done is passed on
pub put_unwelcome : (token : Token) (k : Kind) (n : Name) (x : List ℕ) (say : Say) → say ≢ Say.Done → IsUnwelcome (Ask.Put token k n x) say
put_unwelcome token k n x (Say.Refused code) other = tt
put_unwelcome token k n x (Say.Token t) other = λ suits. suits
put_unwelcome token k n x Say.Done other = absurd (other refl)
put_unwelcome token k n x (Say.Names more names) other = λ suits. suits
put_unwelcome token k n x (Say.Bytes bytes) other = λ suits. suits
put_unwelcome token k n x (Say.LockList rows) other = λ suits. suits

put_passed : (notes : Bool) (token : Token) (k : Kind) (n : Name) (x : List ℕ) (say : Say) → say ≢ Say.Done → IsPassedOn notes (Ask.Put token k n x) say
put_passed false token k n x say other = put_unwelcome token k n x say other
put_passed true token k n x say other = (put_unwelcome token k n x say other, λ tells. tells)

pub put_other : (notes : Bool) (ask : Ask) (say : Say) → IsPut ask → say ≢ Say.Done → IsPassedOn notes ask say
put_other notes ask say (token, k, n, x, is) other = subst (λ a. IsPassedOn notes a say) (sym is) (put_passed notes token k n x say other)

-- a session of the same rule, holder and lock
pub session_as : {H : Type 0} (rule : H → Rule) (h h' : H) (holding holding' : Holding) (lock lock' : Option LockRow) (Fresh : Type 0) (Knows : Ask → Trace → Type 0) (Wants : Trace → Type 0) (line : Line) (es : Trace) → h' ≡ h → holding' ≡ holding
    → lock' ≡ lock → SessionAt (rule h) holding lock Fresh Knows Wants line es → SessionAt (rule h') holding' lock' Fresh Knows Wants line es
session_as rule h h' holding holding' lock lock' Fresh Knows Wants line es p q l s =
    subst (λ x. SessionAt (rule x) holding' lock' Fresh Knows Wants line es) (sym p) (subst (λ x. SessionAt (rule h) x lock' Fresh Knows Wants line es) (sym q) (subst (λ x. SessionAt (rule h) holding x Fresh Knows Wants line es) (sym l) s))

-- ---- which request it is

-- a request that may be pending and is none of the session's own is the job's
pub work_of : (task : Task) (es : Trace) (ask : Ask) → May task es ask → ask ≢ Ask.Ticket → ((row : LockRow) → ask ≢ Ask.Lock row) → ask ≢ Ask.Config → ((t : Token) → ask ≢ Ask.Unlock t) → IsWork ask
work_of task es Ask.Ticket m a b c d = absurd (a refl)
work_of task es (Ask.Lock row) m a b c d = absurd (b row refl)
work_of task es Ask.Config m a b c d = absurd (c refl)
work_of task es (Ask.Unlock t) m a b c d = absurd (d t refl)
work_of task es (Ask.Refresh t time) m a b c d = absurd m
work_of task es Ask.Locks m a b c d = absurd m
work_of task es (Ask.List j after) m a b c d = tt
work_of task es (Ask.Get j n) m a b c d = tt
work_of task es (Ask.Range pack offset len) m a b c d = tt
work_of task es (Ask.Put t j n x) m a b c d = tt
work_of task es (Ask.Delete t j n) m a b c d = tt
work_of task es (Ask.Upgrade t) m a b c d = tt

pub not_steady : (ask : Ask) → ask ≢ Ask.Ticket → ((row : LockRow) → ask ≢ Ask.Lock row) → ((t : Token) → ask ≢ Ask.Unlock t) → IsSteady ask → ⊥
not_steady Ask.Ticket a b d s = a refl
not_steady (Ask.Lock row) a b d s = b row refl
not_steady (Ask.Unlock t) a b d s = d t refl
not_steady Ask.Config a b d s = s
not_steady (Ask.Refresh t time) a b d s = s
not_steady Ask.Locks a b d s = s
not_steady (Ask.List j after) a b d s = s
not_steady (Ask.Get j n) a b d s = s
not_steady (Ask.Range pack offset len) a b d s = s
not_steady (Ask.Put t j n x) a b d s = s
not_steady (Ask.Delete t j n) a b d s = s
not_steady (Ask.Upgrade t) a b d s = s

only_unlock : (ask : Ask) → ((t : Token) → ask ≢ Ask.Unlock t) → IsUnlock ask → ⊥
only_unlock (Ask.Unlock t) d u = d t refl
only_unlock Ask.Ticket d u = u
only_unlock (Ask.Lock row) d u = u
only_unlock Ask.Config d u = u
only_unlock (Ask.Refresh t time) d u = u
only_unlock Ask.Locks d u = u
only_unlock (Ask.List j after) d u = u
only_unlock (Ask.Get j n) d u = u
only_unlock (Ask.Range pack offset len) d u = u
only_unlock (Ask.Put t j n x) d u = u
only_unlock (Ask.Delete t j n) d u = u
only_unlock (Ask.Upgrade t) d u = u

-- where another request than the unlock is pending there is no outcome
pub no_outcome : (rule : Rule) (holding : Holding) (lock : Option LockRow) (Fresh : Type 0) (Knows : Ask → Trace → Type 0) (Wants : Trace → Type 0) (line : Line) (r : Request) (o : Outcome) (es : Trace) → line.next ≡ Some r
    → line.outcome ≡ Some o → ((t : Token) → r.ask ≢ Ask.Unlock t) → SessionAt rule holding lock Fresh Knows Wants line es → ⊥
no_outcome rule holding lock Fresh Knows Wants line r o es p q d s =
    only_unlock r.ask d (beside_unlock rule holding lock Fresh Knows Wants r.ask line.outcome es (waits_of rule holding lock Fresh Knows Wants line r es p s).knows (λ n. absurd (cc)))
