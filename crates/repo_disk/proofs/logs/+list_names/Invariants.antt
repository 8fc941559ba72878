use Rattle.std.proofs.Common.{length}
use Rattle.repo_disk.proofs.logs.+list_names.Given as goal

abbrev pub decreases-list_names : goal.decreases-list_names
decreases-list_names l = length l.cells.now
