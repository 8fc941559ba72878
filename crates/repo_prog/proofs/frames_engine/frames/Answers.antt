use Rattle.std.proofs.Common.{◌++◌, [], Bool, Ok, subst, arith, inr}
use Rattle.std.proofs.lemmas.Result.{err_from_is_err_and}
use Rattle.repo_store.specs.Services.{nothing}
use Rattle.repo_prog.specs.Talks.{FramesPieceGives}
use Rattle.repo_prog.proofs.TalkLemmas.{begun, memory_told, whole_told}
use Rattle.repo_prog.proofs.frames_engine.frames.Goals as goal

pub returns-in_err-piece-clause-gives : goal.returns-in_err-piece-clause-gives
returns-in_err-piece-clause-gives g c input same =
    let start = g.W.Write.contents c.args.writer.now in
    let talk = c.new-talk.result in
    let p = err_from_is_err_and c.from_residual.result c.from_residual.ensures.1 in
    let r = begun input start talk (c.new-talk.ensures.talks start) c.new-talk.ensures.line in
    rw (p.1, p.2) (memory_told input (talk.line.items ++ input) (g.R.Read.remaining c.args.reader.now) start talk [] nothing start r.are r.talks)

pub loop-turn-init : goal.loop-turn-init
loop-turn-init g c = record {
  next = λ input same.
      let start = g.W.Write.contents c.args.writer.now in
      (input, same, omega arith, [], nothing, begun input start c.new-talk.result (c.new-talk.ensures.talks start) c.new-talk.ensures.line);
  few = c.new-talk.ensures.few;
  number = omega (arith, c.new-talk.ensures.number);
  piece = c.in_ok-piece.ensures.len;
}

pub returns-in_err-more-clause-gives : goal.returns-in_err-more-clause-gives
returns-in_err-more-clause-gives g c input same =
    let i = c.loop-turn.invariant.next input same in
    let p = err_from_is_err_and c.from_residual-in_err-more.result c.from_residual-in_err-more.ensures.1 in
    rw (p.1, p.2) (c.in_err-more.ensures.next input i.0 (g.W.Write.contents c.args.writer.now) i.3 i.4 i.1 i.5)

pub returns-then-not-more-clause-gives : goal.returns-then-not-more-clause-gives
returns-then-not-more-clause-gives g c input same =
    let start = g.W.Write.contents c.args.writer.now in
    let i = c.loop-turn.invariant.next input same in
    let P : Bool → Type 0 = λ more. FramesPieceGives input start i.0 (g.R.Read.remaining c.read_piece.new.reader) (Ok more) c.read_piece.new.talk (g.W.Write.contents c.read_piece.new.writer) in
    let r = subst P c.if-not-more.true (c.in_ok-more.ensures.next input i.0 start i.3 i.4 i.1 i.5) in
    c.finish.ensures.ends input _ start r.0 r.1 r.2

pub loop-turn-preserved : goal.loop-turn-preserved
loop-turn-preserved g c = record {
  next = λ input same.
      let start = g.W.Write.contents c.args.writer.now in
      let i = c.loop-turn.invariant.next input same in
      let P : Bool → Type 0 = λ more. FramesPieceGives input start i.0 (g.R.Read.remaining c.read_piece.new.reader) (Ok more) c.read_piece.new.talk (g.W.Write.contents c.read_piece.new.writer) in
      let r = subst P c.if-not-more.false (c.in_ok-more.ensures.next input i.0 start i.3 i.4 i.1 i.5) in
      (r.0, r.1, omega (arith, i.2, r.2), r.3, r.4, r.5);
  few = c.in_ok-more.ensures.few;
  number = omega (arith, c.in_ok-more.ensures.number, c.loop-turn.invariant.number, c.as_mut_slice.ensures.len, c.loop-turn.invariant.piece);
  piece = c.loop-turn.invariant.piece;
}

pub returns-clause-gives : goal.returns-clause-gives
returns-clause-gives g c input same =
    let start = g.W.Write.contents c.args.writer.now in
    let i = c.loop-turn.invariant.next input same in
    (i.3, i.4, c.loop-turn.talk.line.items ++ i.0, i.5.are, whole_told start c.loop-turn.talk i.3 i.4 (g.W.Write.contents c.loop-turn.writer) i.5.talks, inr (omega (arith, i.2, c.loop-turn-test.false)))
