use Rattle.std.proofs.Common.{◌≡◌, ◌∙◌, ◌-◌, Some, None, length, sym, ap, slice_get}
use Rattle.std.specs.Option.{option_copied}
use Rattle.repo_world.specs.declared.messages.Message as written
use Rattle.repo_play.proofs.Telling.{no_request_last, reply_found, something_last}
use Rattle.repo_play.proofs.later.last_reply.Goals as goal

pub returns-in-Some-Said : goal.returns-in-Some-Said
returns-in-Some-Said g c = λ messages k reply e.
    let here = ap (λ m. slice_get m (length m - 1)) (sym c.messages.ensures) ∙ sym c.last.ensures.value ∙ ap option_copied c.in-Some-Said.is ∙ ap Some c.in-Some-Said.field-0-is in
    reply_found c.args.world.now.flow messages k reply c.in-Some-Said.client c.in-Some-Said.reply c.reply.result e here c.reply.ensures.reply

pub returns-in-Some-Asked : goal.returns-in-Some-Asked
returns-in-Some-Asked g c = λ messages k reply e.
    let here = ap (λ m. slice_get m (length m - 1)) (sym c.messages.ensures) ∙ sym c.last.ensures.value ∙ ap option_copied c.in-Some-Asked.is ∙ ap Some c.in-Some-Asked.field-0-is in
    absurd (no_request_last c.args.world.now.flow messages k reply c.in-Some-Asked.field-0-0 c.in-Some-Asked.field-0-1 e here)

pub returns-in-None : goal.returns-in-None
returns-in-None g c = λ messages k reply e.
    let here = ap (λ m. slice_get m (length m - 1)) (sym c.messages.ensures) ∙ sym c.last.ensures.value ∙ ap option_copied c.in-None.is in
    absurd (something_last c.args.world.now.flow messages k reply e here)
