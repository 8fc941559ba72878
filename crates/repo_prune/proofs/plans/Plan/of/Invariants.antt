use Rattle.std.proofs.Common.{take}
use Rattle.repo_prune.specs.Plans.{IsPlanFor}
use Rattle.repo_prune.proofs.plans.Plan.of.Given as goal

abbrev pub invariant-loop-pack : goal.invariant-loop-pack
invariant-loop-pack l = IsPlanFor l.used l.lookup (take l.pack-index l.names) l.plan
