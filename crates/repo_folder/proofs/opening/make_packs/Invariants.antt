use Rattle.std.proofs.Common.{◌≤◌}
use Rattle.repo_folder.specs.Folders.{IsMade, IsUntouched}
use Rattle.repo_folder.proofs.opening.make_packs.Given as goal

abbrev pub invariant-loop-first : goal.invariant-loop-first
invariant-loop-first g l = record {
  faithful : g.D.Disk.faithful l.fn.disk → g.D.Disk.faithful l.disk;
  count : g.D.Disk.failed l.fn.disk ≤ g.D.Disk.failed l.disk;
  kept : g.D.Disk.faithful l.fn.disk → IsUntouched (g.D.Disk.state l.fn.disk) (g.D.Disk.state l.disk);
  made : g.D.Disk.faithful l.fn.disk → IsMade (g.D.Disk.state l.fn.disk) (g.D.Disk.state l.disk);
}
