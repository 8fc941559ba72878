-- On which replies a restore ends at once.
use Rattle.std.proofs.Common.{◌≡◌, ℕ, Bool, false, List, sym, subst}
use Rattle.repo_name.specs.declared.names.Name.{Name}
use Rattle.repo_wire.specs.declared.messages.Ask.{Ask}
use Rattle.repo_wire.specs.declared.messages.Say.{Say}
use Rattle.repo_session.specs.declared.emissions.Emission.{Emission}
use Rattle.repo_session.specs.declared.jobs.Step.{Step}
use Rattle.repo_session.specs.Ends.{MayFollow}
use Rattle.repo_session.specs.Traces.{giving}
use Rattle.repo_session.proofs.Heeding.{heeds_follow, welcome_follows}
use Rattle.repo_restore.specs.declared.restores.Restore.{Restore}
use Rattle.repo_restore.specs.declared.restores.Stage.{Stage}
use Rattle.repo_session.specs.Jobs.{known_under}
use Rattle.repo_restore.specs.Restoring.{restore_rule}
use Rattle.repo_restore.specs.RestoreStates.{KnowsAtStage, RestoreHeeds}
use Rattle.repo_index.specs.declared.facts.Fact.{Fact}

part_follows : (known : ℕ) (notes : Bool) (pack : Name) (offset len : ℕ) (x : List ℕ) (emitted : List Emission) → MayFollow known notes (giving (Ask.Range pack offset len) (Say.Bytes x) emitted)
part_follows known notes pack offset len x emitted = welcome_follows known notes (giving (Ask.Range pack offset len) (Say.Bytes x) emitted) (λ o. o) (record { wanted = λ w. w tt; sensible = λ u. u tt; good = λ thing name bad. bad })

-- the bytes of a blob that was asked for
pub blob_heeds : (old new : Restore) (fact : Fact) (version : ℕ) (ask : Ask) (say : Say) (x : List ℕ) (step : Step) → old.stage ≡ Stage.Walk fact version → say ≡ Say.Bytes x → RestoreHeeds old ask say step new
blob_heeds old new fact version ask say x step at is = λ holding es w obeys asked.
    let known = known_under (restore_rule old.snapshot) holding.who in
    let S : Stage → Type 0 = λ stage. KnowsAtStage old stage ask es in
    let asks = (subst S at asked.knows).0 in
    let follows = part_follows known false fact.place.pack fact.place.offset fact.place.length x new.given.items in
    let A : Ask → Type 0 = λ a. MayFollow known false (giving a say new.given.items) in
    let B : Say → Type 0 = λ s. MayFollow known false (giving (Ask.Range fact.place.pack fact.place.offset fact.place.length) s new.given.items) in
    heeds_follow known false (giving ask say new.given.items) step (subst A (sym asks) (subst B (sym is) follows))
