use Rattle.repo_locks.proofs.LawfulSteps.{steps_lawful}
use Rattle.repo_locks.proofs.laws.steps_stay_lawful.Goals as goal

pub returns : goal.returns
returns c = steps_lawful
