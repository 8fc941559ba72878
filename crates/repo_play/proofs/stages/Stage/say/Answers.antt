use Rattle.std.proofs.Common.{rules, ◌≡◌, true, inr, subst}
use Rattle.repo_script.specs.Lines.{IsLine}
use Rattle.repo_script.specs.declared.lines.Line.{Line}
use Rattle.repo_play.specs.Lines.{MayStand}
use Rattle.repo_play.proofs.stages.Stage.say.Goals as goal
use Rattle.repo_play.proofs.stages.Stage.say.Goals.{in-AppendOnly, in_default}

pub returns-then-matches-clause-says : goal.returns-then-matches-clause-says
returns-then-matches-clause-says g c =
    let bytes = c.args.bytes.now in
    let line = c.in-Ok-Some.line in
    let first : c.args.before ≡ 0 = search rules in
    let only : line ≡ Line.AppendOnly = elim c.match-matches.branch [
      | in-AppendOnly b ↦ b.in-AppendOnly.is
      | in_default b ↦ (let t = c.if-matches.true in let f = b.matches-is in absurd (cc))
    ] in
    let has : c.has.result ≡ true = search rules in
    let may = c.has.ensures.0 has in
    let is = rw c.in-Ok-Some.field-0-is at c.in-Ok-Some.ensures.line in
    inr (inr ((first, (subst (λ (l : Line). IsLine bytes l) only is, subst (λ (l : Line). MayStand c.args.grammar l) only may)), c.new-then-matches.ensures.bytes, c.in_ok-append_only.ensures))
