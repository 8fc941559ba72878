use Rattle.repo_reach.proofs.Turning.{breaks_at}
use Rattle.repo_reach.proofs.breaking.broken_at.Goals as goal

pub returns-in-Some : goal.returns-in-Some
returns-in-Some c = breaks_at c.args.all.now c.args.at c.args.follows c.args.depth c.in-Some.seen.now c.in-Some.ensures.some c.broken_by.result c.broken_by.ensures.some c.broken_by.ensures.none
