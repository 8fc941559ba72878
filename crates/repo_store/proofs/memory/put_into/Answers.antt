use Rattle.std.proofs.Common.{rules}
use Rattle.repo_store.proofs.MapLemmas.{stays_in}
use Rattle.repo_store.proofs.memory.put_into.Goals as goal

pub returns-then-contains_key-clause-ok : goal.returns-then-contains_key-clause-ok
returns-then-contains_key-clause-ok c = stays_in _ _ _ (search rules)
