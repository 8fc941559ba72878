use Rattle.std.proofs.Common.{take}
use Rattle.repo_prune.specs.inner.Unfound.{GiveContent}
use Rattle.repo_prune.proofs.unfound.unfound.Given as goal

abbrev pub invariant-loop-seen : goal.invariant-loop-seen
invariant-loop-seen l = GiveContent l.lookup l.used (take l.seen-index l.all)
