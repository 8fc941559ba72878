use Rattle.std.proofs.Common.{inl, refl}
use Rattle.repo_store.specs.declared.making.InitError.{InitError}
use Rattle.repo_prog.proofs.init.init_command.Goals as goal

pub returns-in-Err-clause-gives : goal.returns-in-Err-clause-gives
returns-in-Err-clause-gives g c honest = rw c.failed.ensures (inl (InitError.Memory, refl, refl))
