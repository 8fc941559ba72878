use Rattle.std.proofs.Common.{refl, sym, subst}
use Rattle.repo_tree.specs.ConfigText.{config_text}
use Rattle.repo_store.specs.Memory.{store_of}
use Rattle.repo_store.specs.Stores.{Store}
use Rattle.repo_world.specs.Laws.{IsEmpty}
use Rattle.repo_world.specs.Stages.{BeginsWithConfig, seen}
use Rattle.repo_world.proofs.worlds.World+MemShelf.in_memory.Goals as goal

pub new-requires-2-clause-empty : goal.new-requires-2-clause-empty
new-requires-2-clause-empty c = subst (λ (s : Store). IsEmpty s) (sym c.new.ensures) (record { none = λ k n. refl; new = refl })

pub returns-in-Ok : goal.returns-in-Ok
returns-in-Ok c = record { begins = subst (λ (s : Store). BeginsWithConfig (config_text c.args.config.now) s (seen store_of c.in-Ok.world)) c.new.ensures c.in-Ok.ensures.begins }
