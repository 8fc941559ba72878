use Rattle.std.proofs.Common.{refl, sym, subst}
use Rattle.repo_store.specs.Memory.{store_of}
use Rattle.repo_store.specs.Stores.{Store, appending}
use Rattle.repo_store.specs.declared.append_only.AppendOnly.{AppendOnly}
use Rattle.repo_store.specs.declared.memory.MemShelf.{MemShelf}
use Rattle.repo_world.specs.Laws.{IsEmpty}
use Rattle.repo_play.proofs.stages.Stage.appending.Goals as goal

pub beginning-requires-clause-empty : goal.beginning-requires-clause-empty
beginning-requires-clause-empty c =
    let here = subst (λ (s : Store). IsEmpty (appending s)) (sym c.new.ensures) (record { none = λ k n. refl; new = refl }) in
    subst (λ (d : AppendOnly MemShelf). IsEmpty (appending (store_of d.inner))) (sym c.new-device.ensures) here
