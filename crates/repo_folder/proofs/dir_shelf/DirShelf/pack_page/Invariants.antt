use Rattle.std.proofs.Common.{◌≤◌, option_map}
use Rattle.repo_folder.specs.Folders.{IsHonest, Stays}
use Rattle.repo_folder.specs.Listings.{ArePacks}
use Rattle.repo_folder.proofs.dir_shelf.DirShelf.pack_page.Given as goal

abbrev pub invariant-loop-first : goal.invariant-loop-first
invariant-loop-first g l = record {
  honest : IsHonest (g.D.Disk.faithful l.fn.self.folder.disk) l.fn.self.folder.standing (g.D.Disk.state l.fn.self.folder.disk) → IsHonest (g.D.Disk.faithful l.self.folder.disk) l.self.folder.standing (g.D.Disk.state l.self.folder.disk);
  stays : IsHonest (g.D.Disk.faithful l.fn.self.folder.disk) l.fn.self.folder.standing (g.D.Disk.state l.fn.self.folder.disk) → Stays (g.D.Disk.state l.fn.self.folder.disk) (g.D.Disk.state l.self.folder.disk);
  cause : g.D.Disk.failed l.fn.self.folder.disk ≤ g.D.Disk.failed l.self.folder.disk;
  packs : IsHonest (g.D.Disk.faithful l.fn.self.folder.disk) l.fn.self.folder.standing (g.D.Disk.state l.fn.self.folder.disk)
      → ArePacks (option_map (λ name. name.now) l.after) l.first (g.D.Disk.state l.fn.self.folder.disk).fate l.names;
}
