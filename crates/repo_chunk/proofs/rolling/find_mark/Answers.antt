use Rattle.std.proofs.Common.{◌++◌, arith}
use Rattle.repo_chunk.proofs.Linear.{remainder-lt}
use Rattle.repo_chunk.proofs.Windows.{near_roll, middle-lt, far_mark, no_mark}
use Rattle.repo_chunk.proofs.rolling.find_mark.Goals as goal

pub scan-requires-clause-degree : goal.scan-requires-clause-degree
scan-requires-clause-degree c = omega (arith, c.requires.window, remainder-lt c.args.window.now)

pub scan-requires-in-NoMark-clause-degree : goal.scan-requires-in-NoMark-clause-degree
scan-requires-in-NoMark-clause-degree c =
    middle-lt c.args.window.now c.args.piece.now c.split_at.result.0.now c.split_at.result.1.now c.min.result
    (omega arith) c.min.ensures c.split_at.ensures.front c.split_at.ensures.front_len c.split_at.ensures.back
    c.args.bits c.args.fingerprint c.in-NoMark.fingerprint c.requires.window c.in-NoMark.ensures

pub returns-in-Mark : goal.returns-in-Mark
returns-in-Mark c =
    let found = c.in-Mark.ensures (c.args.window.now ++ c.args.piece.now)
    (near_roll c.args.window.now c.args.piece.now c.split_at.result.0.now c.split_at.result.1.now c.min.result
    (omega arith) c.min.ensures c.split_at.ensures.front c.split_at.ensures.front_len c.split_at.ensures.back
    c.args.fingerprint c.requires.window) in
    (found.0, omega (arith, found.1, c.split_at.ensures.back_len), found.2, found.3)

pub overflow_add-result : goal.overflow_add-result
overflow_add-result c =
    let found = far_mark c.args.window.now c.args.piece.now c.split_at.result.0.now c.split_at.result.1.now c.min.result
    (omega arith) c.min.ensures c.split_at.ensures.front c.split_at.ensures.front_len c.split_at.ensures.back
    c.args.bits c.args.fingerprint c.in-NoMark.fingerprint c.requires.window c.in-NoMark.ensures
    c.in-Mark-scan.n c.in-Mark-scan.ensures in
    omega (arith, found.1)

pub returns-in-Mark-scan : goal.returns-in-Mark-scan
returns-in-Mark-scan c =
    far_mark c.args.window.now c.args.piece.now c.split_at.result.0.now c.split_at.result.1.now c.min.result
    (omega arith) c.min.ensures c.split_at.ensures.front c.split_at.ensures.front_len c.split_at.ensures.back
    c.args.bits c.args.fingerprint c.in-NoMark.fingerprint c.requires.window c.in-NoMark.ensures
    c.in-Mark-scan.n c.in-Mark-scan.ensures

pub returns-in-NoMark-scan : goal.returns-in-NoMark-scan
returns-in-NoMark-scan c =
    no_mark c.args.window.now c.args.piece.now c.split_at.result.0.now c.split_at.result.1.now c.min.result
    (omega arith) c.min.ensures c.split_at.ensures.front c.split_at.ensures.front_len c.split_at.ensures.back
    c.args.bits c.args.fingerprint c.in-NoMark.fingerprint c.requires.window c.in-NoMark.ensures
    c.in-NoMark-scan.fingerprint c.in-NoMark-scan.ensures
