use Rattle.std.proofs.Common.{subst}
use Rattle.std.proofs.lemmas.Result.{err_from_is_err_and}
use Rattle.repo_play.specs.Plays.{Plays}
use Rattle.repo_play.specs.declared.grammars.Grammar.{Grammar}
use Rattle.repo_play.proofs.Standing.{begun_stands, none_played}
use Rattle.repo_play.proofs.playing.play_carried.Goals as goal

pub returns-in_err-piece-clause-plays : goal.returns-in_err-piece-clause-plays
returns-in_err-piece-clause-plays g c = λ input e.
    let p = err_from_is_err_and c.from_residual.result c.from_residual.ensures.1 in
    rw (p.1, p.2) (none_played c.args.grammar input (g.W.Write.contents c.args.writer.now))

pub returns-in_err-script-clause-plays : goal.returns-in_err-script-clause-plays
returns-in_err-script-clause-plays g c = λ input e.
    let p = err_from_is_err_and c.from_residual-in_err-script.result c.from_residual-in_err-script.ensures.1 in
    rw (p.1, p.2) (none_played c.args.grammar input (g.W.Write.contents c.args.writer.now))

pub returns-clause-plays : goal.returns-clause-plays
returns-clause-plays g c = λ input e.
    let start = g.W.Write.contents c.args.writer.now in
    let new = c.in_ok-script.ensures in
    subst (λ (grammar : Grammar). Plays grammar input (g.R.Read.remaining c.play_on.new.reader) start c.play_on.result (g.W.Write.contents c.play_on.new.writer)) new.grammar
    (c.play_on.ensures.plays input e (begun_stands input start c.in_ok-script.script new.fresh new.cutter new.number))
