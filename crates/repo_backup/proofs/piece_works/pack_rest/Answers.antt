use Rattle.std.proofs.Common.{rules, arith, ◌≡◌, ◌≤◌, length, ap}
use Rattle.repo_backup.proofs.Closing.{held_short}
use Rattle.repo_backup.proofs.piece_works.pack_rest.Goals as goal

pub push-requires : goal.push-requires
push-requires c =
    let f = c.args.file.now in
    let some : 1 ≤ length f.rest.items = search (rules, arith) in
    let same : length c.deref.result.now ≡ length f.rest.items = ap length c.deref.ensures.value in
    (omega (arith, some, same), omega (arith, held_short f, same))
