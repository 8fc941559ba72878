use Rattle.std.proofs.Common.{Some, refl}
use Rattle.repo_disk.specs.Disks.{State}
use Rattle.repo_disk.specs.declared.rooms.Room.{Room}
use Rattle.repo_store.specs.Stores.{SavesConfig}
use Rattle.repo_folder.specs.Folders.{Comes}
use Rattle.repo_folder.specs.Spelling.{config_name}
use Rattle.repo_folder.proofs.SpellingLemmas.{saves_config, kept_told}
use Rattle.repo_folder.proofs.dir_shelf.DirShelfShelf.save_config.Goals as goal

pub returns-clause-law : goal.returns-clause-law
returns-clause-law g c h =
    let bytes = c.args.bytes.now in
    let old = g.D.Disk.state c.args.self.now.folder.disk in
    let new = g.D.Disk.state c.keep.new.self.disk in
    let W : State → State → Type 0 = Comes Room.Top config_name (Some bytes) in
    kept_told old new W (SavesConfig bytes) (saves_config old new bytes) c.keep.result c.told.result c.told.ensures (c.keep.ensures.law h.0)

pub keep-requires-clause-draft : goal.keep-requires-clause-draft
keep-requires-clause-draft g c = (config_name, refl)
