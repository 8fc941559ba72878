use Rattle.std.proofs.Common.{◌≤◌}
use Rattle.repo_folder.specs.Folders.{IsSteady, AreDecidedBelow}
use Rattle.repo_folder.proofs.syncing.sync_packs.Given as goal

abbrev pub invariant-loop-first : goal.invariant-loop-first
invariant-loop-first g l = record {
  faithful : g.D.Disk.faithful l.fn.disk → g.D.Disk.faithful l.disk;
  steady : g.D.Disk.faithful l.fn.disk → IsSteady (g.D.Disk.state l.fn.disk) (g.D.Disk.state l.disk);
  decided : g.D.Disk.faithful l.fn.disk → AreDecidedBelow l.first (g.D.Disk.state l.fn.disk);
  cause : g.D.Disk.failed l.fn.disk ≤ g.D.Disk.failed l.disk;
}
