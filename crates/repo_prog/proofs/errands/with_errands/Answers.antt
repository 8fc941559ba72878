use Rattle.repo_prog.proofs.SpelledLemmas.{commands_on, commands_on_of}
use Rattle.repo_prog.proofs.errands.with_errands.Goals as goal

pub returns : goal.returns
returns c = commands_on_of _ _ _ _ c.with_locks.result (commands_on _ _ _ _ _ c.in_ok-program.ensures c.in_ok-program-2.ensures) c.with_locks.ensures
