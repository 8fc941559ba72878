use Rattle.std.proofs.Common.{◌≡◌, sym, subst}
use Rattle.std.specs.Prelude.{IfOk, string_bytes}
use Rattle.repo_wire.specs.declared.messages.Reply.{Reply}
use Rattle.repo_play.specs.Steps.{late_line}
use Rattle.repo_play.proofs.later.told.Goals as goal

pub returns-in-Some : goal.returns-in-Some
returns-in-Some g c = λ messages reply e.
    subst (λ (r : Reply). IfOk c.late_line.result (λ text. string_bytes text ≡ late_line c.args.client r.say)) (c.in-Some.ensures messages c.args.client reply e) c.late_line.ensures

pub returns-in-None : goal.returns-in-None
returns-in-None g c = λ messages reply e.
    subst (λ (r : Reply). IfOk c.late_line-in-None.result (λ text. string_bytes text ≡ late_line c.args.client r.say)) (sym (c.in-None.ensures messages c.args.client reply e)) c.late_line-in-None.ensures
