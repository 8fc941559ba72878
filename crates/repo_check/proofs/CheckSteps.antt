-- A check between its first request and its end.
use Rattle.std.proofs.Common.{◌≡◌, ◌≢◌, ◌∷◌, [], ℕ, Bool, true, false, List, length, arith, refl, sym, ap, subst, ◌∙◌, inl, ⊎_elim}
use Rattle.std.specs.Bool.{◌==◌}
use Rattle.std.proofs.lemmas.Bool.{eqb-false, eqb-true}
use Rattle.repo_wire.specs.declared.messages.Ask.{Ask}
use Rattle.repo_wire.specs.declared.messages.Say.{Say}
use Rattle.repo_session.specs.Askers.{Asker}
use Rattle.repo_session.specs.Ends.{Concludes, IsNoFaultsEnd, MayConclude}
use Rattle.repo_session.specs.Jobs.{MayAsk, MayStep}
use Rattle.repo_session.specs.Order.{IsReading, IsWork, May}
use Rattle.repo_session.specs.Traces.{Exchange, Trace, silent}
use Rattle.repo_session.specs.Versions.{upto}
use Rattle.repo_session.specs.declared.jobs.Step.{Step}
use Rattle.repo_session.specs.declared.outcomes.Outcome.{Outcome}
use Rattle.repo_check.specs.CheckStates.{KnowsCheck}
use Rattle.repo_check.specs.Checking.{CheckConcludes, check_rule, check_task}
use Rattle.repo_check.specs.Rounds.{EndsCheck, CheckSteps}
use Rattle.repo_check.specs.declared.checks.Check.{Check}
use Rattle.repo_check.proofs.Again.{survey_new}
use Rattle.repo_check.proofs.Surveying.{survey_reads}

reads_works : (ask : Ask) → IsReading ask → IsWork ask
reads_works (Ask.List j after) h = tt
reads_works (Ask.Get j n) h = tt
reads_works (Ask.Range pack offset len) h = tt
reads_works Ask.Ticket h = absurd h
reads_works (Ask.Lock row) h = absurd h
reads_works (Ask.Refresh token time) h = absurd h
reads_works (Ask.Unlock token) h = absurd h
reads_works Ask.Locks h = absurd h
reads_works (Ask.Put token j n x) h = tt
reads_works (Ask.Delete token j n) h = tt
reads_works (Ask.Upgrade token) h = tt
reads_works Ask.Config h = absurd h

-- so it may be asked for
pub may_ask : (j : Check) (who : Asker) (es : Trace) (ask : Ask) → May (check_task who) es ask → KnowsCheck j ask es → MayAsk check_rule who (KnowsCheck j) es ask
may_ask j who es ask may knows =
    let reads = survey_reads _ _ ask es knows in
    record { work = reads_works ask reads; may = may; allowed = (reads, survey_new (check_task who) _ _ ask es may knows); knows = knows }

-- an end of a check is no fault
ends_so : (who : Asker) (e : Exchange) (es : Trace) (outcome : Outcome) → EndsCheck (upto who.versions) e outcome → MayConclude (upto who.versions) true CheckConcludes (e ∷ es) outcome
ends_so who e es outcome h =
    let C : Outcome → Type 0 = λ o. Concludes (upto who.versions) CheckConcludes (e ∷ es) o in
    let N : Outcome → Type 0 = λ o. IsNoFaultsEnd (e ∷ es) o in
    (subst C (sym h.0.1) (inl (inl h.0.2)), ⊎_elim (λ is. subst N (sym is) tt) (λ is. subst N (sym is) tt) h.1)

-- what comes of a reply to a request of its survey, but the end of that, it may do
pub step_turns : (j : Check) (who : Asker) (ask : Ask) (say : Say) (es : Trace) (step : Step) → CheckSteps (check_task who) (KnowsCheck j) (silent ask say) es step → MayStep check_rule who (KnowsCheck j) es (silent ask say) step
step_turns j who ask say es (Step.Ask next) h = (inl refl, may_ask j who (silent ask say ∷ es) next h.1 h.0)
step_turns j who ask say es (Step.Finish outcome) h = (inl refl, ends_so who (silent ask say) es outcome h)
step_turns j who ask say es Step.Want h = absurd h
step_turns j who ask say es Step.Away h = h

-- an outcome by the rule alone, which is no fault
pub concludes : (known : ℕ) (es : Trace) (outcome : Outcome) → CheckConcludes es outcome → MayConclude known true CheckConcludes es outcome
concludes known es (Outcome.Clean snapshots indexes packs blobs) h = (h, tt)
concludes known es (Outcome.Faults faults) h = (h, tt)
concludes known es Outcome.Upgraded h = absurd h
concludes known es (Outcome.Stored name blobs bytes) h = absurd h
concludes known es (Outcome.Complete entries) h = absurd h
concludes known es (Outcome.Listed snapshots) h = absurd h
concludes known es (Outcome.Forgotten names) h = absurd h
concludes known es (Outcome.Pruned packs bytes) h = absurd h
concludes known es (Outcome.Ended end) h = absurd h

-- ---- whether a list has anything

none_long : {X : Type 0} (xs : List X) → length xs ≡ 0 → xs ≡ []
none_long [] none = refl
none_long (x ∷ xs) none = absurd (omega (arith, none))

pub nothing_by : {X : Type 0} (xs : List X) (is : Bool) → is ≡ (length xs == 0) → is ≡ true → xs ≡ []
nothing_by xs is same empty = none_long xs (eqb-true (length xs) 0 (sym same ∙ empty))

pub something_by : {X : Type 0} (xs : List X) (is : Bool) → is ≡ (length xs == 0) → is ≡ false → xs ≢ []
something_by xs is same full = λ none. eqb-false (length xs) 0 (sym same ∙ full) (ap length none)
