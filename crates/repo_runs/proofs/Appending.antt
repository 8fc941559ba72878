-- In a world whose store only appends no event takes an object away.
use Rattle.std.proofs.Common.{◌≡◌, ◌∙◌, ap}
use Rattle.repo_store.specs.AppendOnly.{OnlyAppends}
use Rattle.repo_store.specs.Stores.{Store}
use Rattle.repo_store.proofs.Appending.{steps_only_append}
use Rattle.repo_runs.specs.Laws.{EventsOnlyAppend}
use Rattle.repo_runs.proofs.Lasting.{lasts}

-- neither the objects nor the mode changed
stays : (a b : Store) → b.objects ≡ a.objects → b.append_only ≡ a.append_only → OnlyAppends a b
stays a b objects mode only = (λ k n x there. ap (λ o. o k n) objects ∙ there, mode ∙ only)

-- one after another
then_on : (a b c : Store) → OnlyAppends a b → OnlyAppends b c → OnlyAppends a c
then_on a b c first second only =
    let p = first only in
    let q = second p.1 in
    (λ k n x there. q.0 k n x (p.0 k n x there), q.1)

pub events_only_append : EventsOnlyAppend
events_only_append w v events run = lasts OnlyAppends stays then_on (λ a b ask say step. steps_only_append a b ask say step) w events v run
