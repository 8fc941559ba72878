use Rattle.repo_locks.proofs.LawfulSteps.{start_lawful}
use Rattle.repo_locks.proofs.laws.start_is_lawful.Goals as goal

pub returns : goal.returns
returns c = start_lawful
