use Rattle.std.proofs.Common.{◌≡◌, ◌∙◌, Some, None, refl, sym, ap, option_map, slice_get}
use Rattle.repo_world.specs.declared.messages.Message as written
use Rattle.repo_play.proofs.Places.{asked_here, none_here, said_here}
use Rattle.repo_play.proofs.later.is_request.Goals as goal

pub returns-in-Some-Asked : goal.returns-in-Some-Asked
returns-in-Some-Asked g c =
    let here = sym c.message.ensures ∙ ap (option_map (λ m. m.now)) c.in-Some-Asked.is ∙ ap Some c.in-Some-Asked.field-0-is in
    let there = asked_here c.args.world.now.flow c.args.place c.in-Some-Asked.field-0-0 c.in-Some-Asked.field-0-1 here in
    (λ t. (c.in-Some-Asked.field-0-0, there.0, there.1), λ asked. refl)

pub returns-in-Some-Said : goal.returns-in-Some-Said
returns-in-Some-Said g c =
    let here = sym c.message.ensures ∙ ap (option_map (λ m. m.now)) c.in-Some-Said.is ∙ ap Some c.in-Some-Said.field-0-is in
    (λ t. absurd (cc), λ asked. absurd (said_here c.args.world.now.flow c.args.place c.in-Some-Said.field-0-0 c.in-Some-Said.field-0-1 asked.0 here (asked.1, asked.2)))

pub returns-in-None : goal.returns-in-None
returns-in-None g c =
    let here = sym c.message.ensures ∙ ap (option_map (λ m. m.now)) c.in-None.is in
    (λ t. absurd (cc), λ asked. absurd (none_here c.args.world.now.flow c.args.place asked.0 here (asked.1, asked.2)))
