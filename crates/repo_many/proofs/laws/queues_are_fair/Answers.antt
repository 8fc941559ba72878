use Rattle.repo_many.proofs.Queueing.{queues_are_fair}
use Rattle.repo_many.proofs.laws.queues_are_fair.Goals as goal

pub returns : goal.returns
returns c = queues_are_fair
