use Rattle.repo_folder.proofs.Settling.{honest_taken}
use Rattle.repo_folder.proofs.folders.Folder.take_settled.Goals as goal

pub returns-in_err-taken-clause-honest : goal.returns-in_err-taken-clause-honest
returns-in_err-taken-clause-honest g c h =
    let taken = c.unlink-taken.ensures in
    let synced = c.sync-lasting.ensures in
    let faithful = g.D.Disk.faithful in
    let state = g.D.Disk.state in
    let keeps = taken.faithful h.faithful in
    rw (c.note.ensures.standing, c.note.ensures.disk) (honest_taken (faithful c.args.self.now.disk) (faithful c.sync-lasting.new.self) c.args.room c.args.name.now (state c.args.self.now.disk) (state c.unlink-taken.new.self)
    (state c.sync-lasting.new.self) h (synced.faithful keeps) c.requires c.unlink-taken.result c.sync-lasting.result (taken.law h.faithful) (synced.law keeps))
