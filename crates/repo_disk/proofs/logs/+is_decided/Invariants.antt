use Rattle.std.proofs.Common.{length}
use Rattle.repo_disk.proofs.logs.+is_decided.Given as goal

abbrev pub decreases-is_decided : goal.decreases-is_decided
decreases-is_decided l = length l.cells.now
