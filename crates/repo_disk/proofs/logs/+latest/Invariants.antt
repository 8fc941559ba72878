use Rattle.std.proofs.Common.{length}
use Rattle.repo_disk.proofs.logs.+latest.Given as goal

abbrev pub decreases-latest : goal.decreases-latest
decreases-latest l = length l.cells.now
