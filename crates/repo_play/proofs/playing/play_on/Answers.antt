use Rattle.std.proofs.Common.{◌∙◌, ◌≤◌, ◌^◌, Bool, Ok, Err, inr, length, refl, subst, arith}
use Rattle.std.proofs.lemmas.Result.{err_from_is_err_and}
use Rattle.repo_play.specs.Plays.{PlayedSome, Plays}
use Rattle.repo_play.specs.inner.Scripts.{ReadGives}
use Rattle.repo_play.specs.declared.grammars.Grammar.{Grammar}
use Rattle.repo_play.proofs.Standing.{some_run}
use Rattle.repo_play.proofs.playing.play_on.Goals as goal

pub loop-turn-init : goal.loop-turn-init
loop-turn-init g c = record { stands = λ input e stand. (input, e, omega arith, stand); piece = c.requires; grammar = refl }

pub returns-in_err-more-clause-plays : goal.returns-in_err-more-clause-plays
returns-in_err-more-clause-plays g c = λ input e stand.
    let start = g.W.Write.contents c.args.writer.now in
    let after = g.W.Write.contents c.read_piece.new.writer in
    let s = c.loop-turn.invariant.stands input e stand in
    let same = c.read_piece.ensures.grammar ∙ c.loop-turn.invariant.grammar in
    let p = err_from_is_err_and c.from_residual.result c.from_residual.ensures.1 in
    rw (p.1, p.2) (subst (λ (grammar : Grammar). Plays grammar input (g.R.Read.remaining c.read_piece.new.reader) start (Err c.in_err-more.field-0.0) after) same (c.in_err-more.ensures.gives input s.0 start s.1 s.3))

pub returns-then-not-more-clause-plays : goal.returns-then-not-more-clause-plays
returns-then-not-more-clause-plays g c = λ input e stand.
    let start = g.W.Write.contents c.args.writer.now in
    let after = g.W.Write.contents c.read_piece.new.writer in
    let s = c.loop-turn.invariant.stands input e stand in
    let P : Bool → Type 0 = λ more. ReadGives input start s.0 (g.R.Read.remaining c.read_piece.new.reader) (Ok more) c.read_piece.new.script after in
    let over = subst P c.if-not-more.true (c.in_ok-more.ensures.gives input s.0 start s.1 s.3) in
    let same = c.read_piece.ensures.grammar ∙ c.loop-turn.invariant.grammar in
    let left = g.R.Read.remaining c.read_piece.new.reader in
    subst (λ (grammar : Grammar). Plays grammar input left start c.finish.result (g.W.Write.contents c.finish.new.writer)) same (c.finish.ensures.gives input left start over)

pub loop-turn-preserved : goal.loop-turn-preserved
loop-turn-preserved g c = record {
  stands = λ input e stand.
      let start = g.W.Write.contents c.args.writer.now in
      let after = g.W.Write.contents c.read_piece.new.writer in
      let s = c.loop-turn.invariant.stands input e stand in
      let P : Bool → Type 0 = λ more. ReadGives input start s.0 (g.R.Read.remaining c.read_piece.new.reader) (Ok more) c.read_piece.new.script after in
      let on = subst P c.if-not-more.false (c.in_ok-more.ensures.gives input s.0 start s.1 s.3) in
      (on.0, on.1, omega (arith, s.2, on.2), on.3);
  piece = omega (arith, c.loop-turn.invariant.piece, c.read_piece.ensures.piece);
  grammar = c.read_piece.ensures.grammar ∙ c.loop-turn.invariant.grammar;
}

pub returns-clause-plays : goal.returns-clause-plays
returns-clause-plays g c = λ input e stand.
    let start = g.W.Write.contents c.args.writer.now in
    let after = g.W.Write.contents c.loop-turn.writer in
    let s = c.loop-turn.invariant.stands input e stand in
    let some = some_run input start c.loop-turn.script s.0 after s.3.0 in
    let many = c.loop-turn-test.false in
    let most = s.2 in
    let all : 2 ^ 48 ≤ length input = omega (arith, many, most) in
    (some.0, some.1, some.2, subst (λ (grammar : Grammar). PlayedSome grammar input start after some.0 some.1 some.2) c.loop-turn.invariant.grammar some.3, inr (inr all))
