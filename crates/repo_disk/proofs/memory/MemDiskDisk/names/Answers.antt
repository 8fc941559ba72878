use Rattle.std.proofs.Common.{rules, ◌≡◌, refl, sym, subst}
use Rattle.repo_disk.specs.Disks.{IsListing}
use Rattle.repo_disk.specs.Memory.{has_of, latest, listed}
use Rattle.repo_disk.proofs.CellLemmas.{listing}
use Rattle.repo_disk.proofs.memory.MemDiskDisk.names.Goals as goal

pub returns-clause-law : goal.returns-clause-law
returns-clause-law c h =
    let all = c.args.self.now.cells.items in
    let room = c.args.room in
    let told : c.list_names.new.names.items ≡ listed all room all = search rules in
    (subst (IsListing (λ n. has_of (latest all room n))) (sym told) (listing all room c.args.self.now.young), rw (c.look.ensures.cells, c.look.ensures.young) refl)
