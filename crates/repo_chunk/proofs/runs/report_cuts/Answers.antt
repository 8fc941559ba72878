use Rattle.std.proofs.Common.{◌≡◌, ℕ, ◌<◌, List, length, take, ap, subst, take_all, arith}
use Rattle.repo_chunk.specs.Runs.{stream_of, IsUnderWay}
use Rattle.repo_chunk.proofs.UnderWay.{stream_more, ends_whole, ends_unfinished}
use Rattle.repo_chunk.proofs.runs.report_cuts.Goals as goal

pub loop-piece-preserved : goal.loop-piece-preserved
loop-piece-preserved g c =
    let inv = c.loop-piece.invariant in
    let run = c.feed_all-begun.ensures.run c.args.report c.args.params (stream_of (take c.loop-piece.piece-index c.args.pieces.now)) inv.2 in
    let Bytes : List ℕ → Type 0 = λ xs. IsUnderWay (goal.F-step g) c.args.report c.args.params xs c.feed_all-begun.new.chunker
    c.feed_all-begun.result c.feed_all-begun.new.report in
    let within : c.loop-piece.piece-index < length c.args.pieces.now = omega arith in (
      c.feed_all-begun.ensures.callable,
      c.feed_all-begun.ensures.held,
      subst Bytes (stream_more c.args.pieces.now c.loop-piece.piece-index _ within) run,
    )

pub returns-then-rest-gt0 : goal.returns-then-rest-gt0
returns-then-rest-gt0 g c =
    let inv = c.loop-piece.invariant in
    let whole : stream_of (take c.loop-piece.piece-index c.args.pieces.now) ≡ stream_of c.args.pieces.now =
    ap stream_of (take_all c.loop-piece.piece-index c.args.pieces.now (omega arith)) in
    let Bytes : List ℕ → Type 0 = λ xs. IsUnderWay (goal.F-step g) c.args.report c.args.params xs c.loop-piece.chunker
    c.loop-piece.begun c.loop-piece.report in
    let done = subst Bytes whole inv.2 in
    ends_unfinished (goal.F-step g) c.args.report c.args.params (stream_of c.args.pieces.now) c.loop-piece.chunker
    c.loop-piece.begun c.loop-piece.report done c.finish-rest.ensures.uncut c.finish-rest.result c.report.new.self
    c.if-rest-gt0.true (c.finish-rest.ensures.length done.rest done.held) c.report.ensures

pub returns : goal.returns
returns g c =
    let inv = c.loop-piece.invariant in
    let whole : stream_of (take c.loop-piece.piece-index c.args.pieces.now) ≡ stream_of c.args.pieces.now =
    ap stream_of (take_all c.loop-piece.piece-index c.args.pieces.now (omega arith)) in
    let Bytes : List ℕ → Type 0 = λ xs. IsUnderWay (goal.F-step g) c.args.report c.args.params xs c.loop-piece.chunker
    c.loop-piece.begun c.loop-piece.report in
    let done = subst Bytes whole inv.2 in
    let none : 0 ≡ length done.rest = omega (arith, c.finish-rest.ensures.length done.rest done.held) in
    ends_whole (goal.F-step g) c.args.report c.args.params (stream_of c.args.pieces.now) c.loop-piece.chunker
    c.loop-piece.begun c.loop-piece.report done c.finish-rest.ensures.uncut none
