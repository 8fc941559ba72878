use Rattle.std.proofs.Common.{refl}
use Rattle.repo_name.specs.declared.kinds.Kind.TheVariants.{Pack, Index, Snapshot}
use Rattle.repo_store.proofs.MapLemmas.{same_store}
use Rattle.repo_store.proofs.memory.MemShelfShelf.put.Goals as goal

pub returns-in-Err-clause-law : goal.returns-in-Err-clause-law
returns-in-Err-clause-law c h = same_store _ _ refl (elim [ Pack ↦ c.in-Err.ensures.err | Index ↦ refl | Snapshot ↦ refl ]) refl refl

pub returns-in-Err-put_into-clause-law : goal.returns-in-Err-put_into-clause-law
returns-in-Err-put_into-clause-law c h = same_store _ _ refl (elim [ Pack ↦ refl | Index ↦ c.in-Err-put_into.ensures.err | Snapshot ↦ refl ]) refl refl

pub returns-in-Err-put_into-2-clause-law : goal.returns-in-Err-put_into-2-clause-law
returns-in-Err-put_into-2-clause-law c h = same_store _ _ refl (elim [ Pack ↦ refl | Index ↦ refl | Snapshot ↦ c.in-Err-put_into-2.ensures.err ]) refl refl
