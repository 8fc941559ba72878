use Rattle.std.proofs.Common.{◌↔◌, take}
use Rattle.repo_name.specs.declared.kinds.BlobKind.{BlobKind}
use Rattle.repo_name.specs.declared.names.Name.{Name}
use Rattle.repo_reach.specs.Used.{UsedHasPair, GivenBy}
use Rattle.repo_reach.proofs.trees.Trees.used.Given as goal

abbrev pub invariant-loop-seen : goal.invariant-loop-seen
invariant-loop-seen l = (k : BlobKind) (n : Name) → UsedHasPair l.used k n ↔ GivenBy (take l.seen-index l.all) k n
