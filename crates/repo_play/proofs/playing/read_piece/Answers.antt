use Rattle.std.proofs.Common.{◌<◌, length, length-append, take, ap, subst, arith}
use Rattle.std.proofs.lemmas.List.{length-take-le}
use Rattle.std.proofs.lemmas.Result.{err_from_is_err_and}
use Rattle.repo_play.specs.inner.Scripts.{ScriptStands}
use Rattle.repo_play.proofs.Standing.{kept_from, nothing_read, taken_from}
use Rattle.repo_play.proofs.playing.read_piece.Goals as goal

pub returns-in_err-take-in-Ok-clause-gives : goal.returns-in_err-take-in-Ok-clause-gives
returns-in_err-take-in-Ok-clause-gives g c = λ input ahead start e h.
    let bytes = take c.in-Ok.count c.read.new.buf in
    let t = taken_from (g.R.Read.remaining c.args.reader.now) (g.R.Read.remaining c.read.new.self) ahead bytes e c.in-Ok.ensures.bytes.0 in
    let now = subst (λ a. ScriptStands input start c.args.script.now a (g.W.Write.contents c.args.writer.now)) t.2 h in
    let p = err_from_is_err_and c.from_residual.result c.from_residual.ensures.1 in
    rw (p.1, p.2) (c.in_err-take-in-Ok.ensures.gives input start t.0 now (g.R.Read.remaining c.read.new.self))

pub returns-in_ok-take-in-Ok-clause-gives : goal.returns-in_ok-take-in-Ok-clause-gives
returns-in_ok-take-in-Ok-clause-gives g c = λ input ahead start e h.
    let n = c.in-Ok.count in
    let bytes = take n c.read.new.buf in
    let t = taken_from (g.R.Read.remaining c.args.reader.now) (g.R.Read.remaining c.read.new.self) ahead bytes e c.in-Ok.ensures.bytes.0 in
    let now = subst (λ a. ScriptStands input start c.args.script.now a (g.W.Write.contents c.args.writer.now)) t.2 h in
    let some : 0 < n = omega (arith, c.in-Ok.count-test.1) in
    let size = length-take-le n c.read.new.buf c.in-Ok.ensures.bound.0 in
    let sum = ap length t.2 in
    let both = length-append bytes t.0 in
    (t.0, t.1, omega (arith, some, size, sum, both), c.in_ok-take-in-Ok.ensures.gives input start t.0 now)

pub returns-in-Err-clause-gives : goal.returns-in-Err-clause-gives
returns-in-Err-clause-gives g c = λ input ahead start e h.
    let left = g.R.Read.remaining c.read.new.self in
    let same = kept_from (g.R.Read.remaining c.args.reader.now) left ahead e c.in-Err.ensures.bytes in
    nothing_read input start c.args.script.now ahead left (g.W.Write.contents c.args.writer.now) h same
