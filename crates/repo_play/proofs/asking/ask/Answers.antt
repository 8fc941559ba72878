use Rattle.std.proofs.Common.{◌≡◌, ◌∙◌, Option, Some, ap, subst}
use Rattle.repo_wire.specs.declared.messages.Reply.{Reply}
use Rattle.repo_wire.specs.declared.messages.Request.{Request}
use Rattle.repo_world.specs.Stages.{Tells}
use Rattle.repo_play.specs.Steps.{ask_line, asks, stranger}
use Rattle.repo_play.proofs.Sound.{tells_soundly}
use Rattle.repo_play.proofs.asking.ask.Goals as goal

pub returns-clause-answered : goal.returns-clause-answered
returns-clause-answered g c =
    let store = g.S.Shelf.store in
    let failed = g.S.Shelf.failed in
    let old = c.args.world.now in
    let new = c.ask.new.self in
    let reply = c.in-Some.reply in
    let asked : c.stranger-request.result ≡ stranger (asks c.args.question) = c.stranger-request.ensures ∙ ap stranger c.in_ok-asks.ensures in
    let told = subst (λ (q : Request). Tells store failed old q (Some reply) new) asked
    (subst (λ (found : Option Reply). Tells store failed old c.stranger-request.result found new) c.in-Some.is c.in_ok-reply.ensures.told) in
    let sound = tells_soundly store failed old new c.requires (stranger (asks c.args.question)) reply told in
    record { answered = sound.0; told = c.in_ok-ask_line.ensures ∙ ap (λ (r : Reply). ask_line r.say) sound.1 }
