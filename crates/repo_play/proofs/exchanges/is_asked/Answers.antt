use Rattle.std.proofs.Common.{◌≡◌, ◌∙◌, Some, None, sym, ap, option_map, slice_get}
use Rattle.repo_world.specs.declared.messages.Message as written
use Rattle.repo_play.proofs.Places.{asked_tells, none_here, said_here}
use Rattle.repo_play.proofs.exchanges.is_asked.Goals as goal

pub returns-in-Some-Asked : goal.returns-in-Some-Asked
returns-in-Some-Asked g c =
    let here = sym c.message.ensures ∙ ap (option_map (λ m. m.now)) c.in-Some-Asked.is ∙ ap Some c.in-Some-Asked.field-0-is in
    asked_tells c.args.world.now.flow c.args.place c.in-Some-Asked.asker c.in-Some-Asked.field-0-1 c.args.client here

pub returns-in-Some-Said : goal.returns-in-Some-Said
returns-in-Some-Said g c =
    let here = sym c.message.ensures ∙ ap (option_map (λ m. m.now)) c.in-Some-Said.is ∙ ap Some c.in-Some-Said.field-0-is in
    (λ t. absurd (cc), λ asked. absurd (said_here c.args.world.now.flow c.args.place c.in-Some-Said.field-0-0 c.in-Some-Said.field-0-1 c.args.client here asked))

pub returns-in-None : goal.returns-in-None
returns-in-None g c =
    let here = sym c.message.ensures ∙ ap (option_map (λ m. m.now)) c.in-None.is in
    (λ t. absurd (cc), λ asked. absurd (none_here c.args.world.now.flow c.args.place c.args.client here asked))
