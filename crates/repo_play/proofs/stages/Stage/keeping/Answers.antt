use Rattle.std.proofs.Common.{refl, sym, subst}
use Rattle.repo_store.specs.Stores.{Store}
use Rattle.repo_world.specs.Laws.{IsEmpty}
use Rattle.repo_play.proofs.stages.Stage.keeping.Goals as goal

pub beginning-requires-clause-empty : goal.beginning-requires-clause-empty
beginning-requires-clause-empty c = subst (λ (s : Store). IsEmpty s) (sym c.new.ensures) (record { none = λ k n. refl; new = refl })
