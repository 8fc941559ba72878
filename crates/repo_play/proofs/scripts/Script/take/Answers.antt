use Rattle.std.proofs.Common.{◌≡◌, ◌∙◌, ◌++◌, ◌∷◌, refl, sym, ap}
use Rattle.std.proofs.lemmas.Result.{err_from_is_err_and}
use Rattle.repo_script.specs.Cuts.{cut, line_feed}
use Rattle.repo_play.proofs.Standing.{line_run, next_cut, piece_fed, ran_same, some_run}
use Rattle.repo_play.proofs.scripts.Script.take.Goals as goal

pub returns-in_err-feed-clause-gives : goal.returns-in_err-feed-clause-gives
returns-in_err-feed-clause-gives g c = λ input start ahead h.
    let p = err_from_is_err_and c.from_residual.result c.from_residual.ensures.1 in
    rw (p.1, p.2) (λ unread. some_run input start c.args.self.now (c.args.piece.now ++ ahead) (g.W.Write.contents c.args.writer.now) h.0)

pub loop-line-init : goal.loop-line-init
loop-line-init g c = record {
  stands = λ input start ahead h. piece_fed input start c.args.self.now _ c.args.piece.now ahead (g.W.Write.contents c.args.writer.now) c.in_ok-feed.ensures.ok refl refl refl h.0;
  grammar = refl;
}

pub returns-in_err-line-clause-gives : goal.returns-in_err-line-clause-gives
returns-in_err-line-clause-gives g c = λ input start ahead h.
    let p = err_from_is_err_and c.from_residual-in_err-line.result c.from_residual-in_err-line.ensures.1 in
    rw (p.1, p.2) (λ unread. some_run input start c.loop-line.self ahead (g.W.Write.contents c.loop-line.writer) (c.loop-line.invariant.stands input start ahead h))

pub returns-in_err-line-2-clause-gives : goal.returns-in_err-line-2-clause-gives
returns-in_err-line-2-clause-gives g c = λ input start ahead h.
    let before = g.W.Write.contents c.loop-line.writer in
    let run = c.loop-line.invariant.stands input start ahead h in
    let bytes = c.as_slice.result.now in
    let rest = c.next_line.new.self in
    let next = rw c.in-Some.is at c.in_ok-line.ensures.line in
    let ends : cut line_feed c.loop-line.self.cutter ≡ bytes ∷ cut line_feed rest = next.1 ∙ ap (λ b. b ∷ cut line_feed rest) (sym c.as_slice.ensures.value) in
    let cuts = next_cut input start c.loop-line.self ahead before run bytes rest ends in
    let p = err_from_is_err_and c.from_residual-in_err-line-2.result c.from_residual-in_err-line-2.ensures.1 in
    rw (p.1, p.2) (c.in_err-line-2.ensures.gives input start run.lines (cut line_feed (rest ++ ahead)) run.text cuts (ran_same start c.loop-line.self _ run.lines run.text before refl refl refl run.ran))

pub loop-line-preserved : goal.loop-line-preserved
loop-line-preserved g c = record {
  stands = λ input start ahead h.
      let before = g.W.Write.contents c.loop-line.writer in
      let run = c.loop-line.invariant.stands input start ahead h in
      let bytes = c.as_slice.result.now in
      let rest = c.next_line.new.self in
      let next = rw c.in-Some.is at c.in_ok-line.ensures.line in
      let ends : cut line_feed c.loop-line.self.cutter ≡ bytes ∷ cut line_feed rest = next.1 ∙ ap (λ b. b ∷ cut line_feed rest) (sym c.as_slice.ensures.value) in
      let cuts = next_cut input start c.loop-line.self ahead before run bytes rest ends in
      let ran = c.in_ok-line-2.ensures.gives input start run.lines (cut line_feed (rest ++ ahead)) run.text cuts (ran_same start c.loop-line.self _ run.lines run.text before refl refl refl run.ran) in
      line_run input start c.loop-line.self ahead before run bytes c.line.new.self ran.0 (g.W.Write.contents c.line.new.writer) (ends ∙ ap (λ r. bytes ∷ cut line_feed r) (sym c.line.ensures.cutter)) ran.1;
  grammar = c.line.ensures.grammar ∙ c.loop-line.invariant.grammar;
}
