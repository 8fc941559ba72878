use Rattle.std.proofs.Common.{rules, ◌≡◌, true}
use Rattle.repo_disk.specs.Memory.{is_decided}
use Rattle.repo_disk.proofs.CellLemmas.{synced}
use Rattle.repo_disk.proofs.memory.MemDiskDisk.sync.Goals as goal

pub returns-clause-law : goal.returns-clause-law
returns-clause-law c h =
    let old = c.args.self.now in
    let all : is_decided old.cells.items c.args.room old.cells.items ≡ true = search rules in
    rw c.next-choice.ensures.cells (synced c.args.room old.cells.items old.young c.sync.new.self all (rw c.next-choice.ensures.young at c.sync.ensures.stays) (rw c.next-choice.ensures.young at c.sync.ensures.below))
