use Rattle.std.proofs.Common.{take}
use Rattle.repo_folder.specs.Folders.{IsHonest}
use Rattle.repo_folder.specs.Lives.{at, Lives}
use Rattle.repo_folder.specs.Spelling.{HasLedger}
use Rattle.repo_folder.proofs.turns.live.Given as goal

abbrev pub invariant-loop-turn : goal.invariant-loop-turn
invariant-loop-turn g l = record {
  honest : IsHonest (g.D.Disk.faithful l.fn.shelf.folder.disk) l.fn.shelf.folder.standing (g.D.Disk.state l.fn.shelf.folder.disk) → HasLedger (g.D.Disk.state l.fn.shelf.folder.disk).fate
      → IsHonest (g.D.Disk.faithful l.shelf.folder.disk) l.shelf.folder.standing (g.D.Disk.state l.shelf.folder.disk) × HasLedger (g.D.Disk.state l.shelf.folder.disk).fate;
  lives : IsHonest (g.D.Disk.faithful l.fn.shelf.folder.disk) l.fn.shelf.folder.standing (g.D.Disk.state l.fn.shelf.folder.disk) → HasLedger (g.D.Disk.state l.fn.shelf.folder.disk).fate
      → Lives (at (g.D.Disk.state l.fn.shelf.folder.disk) l.fn.shelf.folder.standing l.fn.shelf.folder.has_failed) (take l.turn-index l.turns) l.told.items
      (at (g.D.Disk.state l.shelf.folder.disk) l.shelf.folder.standing l.shelf.folder.has_failed);
}
