use Rattle.std.proofs.Common.{◌∙◌, ◌+◌, ◌++◌, Err, sym, ap, subst}
use Rattle.std.proofs.lemmas.Result.{err_from_is_err_and}
use Rattle.std.specs.Io.KnownBytes.{Appends}
use Rattle.std.specs.Prelude.{string_bytes}
use Rattle.repo_store.specs.Output.{AppendsPart}
use Rattle.repo_play.specs.Plays.{Plays}
use Rattle.repo_play.specs.declared.grammars.Grammar.{Grammar}
use Rattle.repo_play.proofs.Standing.{ran_line, stopped, unwritten}
use Rattle.repo_play.proofs.scripts.Script.line.Goals as goal

pub returns-in_err-text-clause-gives : goal.returns-in_err-text-clause-gives
returns-in_err-text-clause-gives g c = λ input start lines left text cuts ran.
    let before = g.W.Write.contents c.args.writer.now in
    let error = c.in_err-text.field-0.0 in
    let p = err_from_is_err_and c.from_residual.result c.from_residual.ensures.1 in
    rw (p.1, p.2) (λ unread.
    subst (λ (grammar : Grammar). Plays grammar input unread start (Err error) before) (sym c.run.ensures.grammar)
    (stopped input unread start c.args.self.now lines left c.args.bytes.now text before error cuts ran c.in_err-text.ensures.stops))

pub returns-in-Ok-clause-gives : goal.returns-in-Ok-clause-gives
returns-in-Ok-clause-gives g c = λ input start lines left text cuts ran.
    let before = g.W.Write.contents c.args.writer.now in
    let after = g.W.Write.contents c.write_whole.new.writer in
    let more = string_bytes c.in_ok-text.text in
    let same = c.as_bytes.ensures.value ∙ c.as_str.ensures.value in
    (text ++ more, ran_line start c.args.self.now _ lines c.args.bytes.now text more c.run.ensures.grammar before after ran c.in_ok-text.ensures.says c.in_ok-text.ensures.ruled (ap (λ n. n + 1) c.run.ensures.number) (subst (λ b. Appends before after b) same c.in-Ok.ensures.ok))

pub returns-clause-gives : goal.returns-clause-gives
returns-clause-gives g c = λ input start lines left text cuts ran unread.
    let before = g.W.Write.contents c.args.writer.now in
    let after = g.W.Write.contents c.write_whole.new.writer in
    let more = string_bytes c.in_ok-text.text in
    let same = c.as_bytes.ensures.value ∙ c.as_str.ensures.value in
    unwritten start c.args.self.now c.run.new.self lines c.args.bytes.now text more c.run.ensures.grammar input unread left before after cuts ran c.in_ok-text.ensures.says (subst (λ b. AppendsPart before after b) same c.in-Err.ensures.err)
