use Rattle.std.proofs.Common.{refl}
use Rattle.repo_prune.proofs.Finding.{given_more}
use Rattle.repo_prune.proofs.unfound.unfound_in.Goals as goal

pub returns-then-is_unfound-clause-some : goal.returns-then-is_unfound-clause-some
returns-then-is_unfound-clause-some c = c.if-is_unfound.ensures.yes refl

pub loop-name-preserved : goal.loop-name-preserved
loop-name-preserved c = given_more c.args.lookup.now c.args.used.now c.args.content.now c.loop-name.name-index _ c.loop-name-test.true (c.if-is_unfound.ensures.no refl) c.loop-name.invariant
