use Rattle.repo_restore.proofs.Passing.{may_is}
use Rattle.repo_restore.proofs.walks.may_follow.Goals as goal

pub returns-in-Some-last : goal.returns-in-Some-last
returns-in-Some-last c = may_is c.args.before.now c.args.nodes.now c.in-Some.first.now c.in-Some-last.last.now c.is_above.result c.in-Some.ensures.value c.in-Some-last.ensures.value c.is_above.ensures
