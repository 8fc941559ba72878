use Rattle.repo_reach.proofs.Reading.{ends_are}
use Rattle.repo_reach.proofs.joints.ends_of.Goals as goal

pub returns : goal.returns
returns c = ends_are c.args.nodes.now c.in-Some.first.now c.in-Some-last.last.now c.in_ok-first.first c.in_ok-last.last c.in-Some.ensures.value c.in-Some-last.ensures.value c.in_ok-first.ensures c.in_ok-last.ensures
