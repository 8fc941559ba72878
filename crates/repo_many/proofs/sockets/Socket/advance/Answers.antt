use Rattle.std.proofs.Common.{rules, [], ◌≡◌, ◌<◌, Some, List, length, slice_get, sym, subst, refl, inl, ◌∙◌}
use Rattle.std.proofs.lemmas.List.{nil_from_length}
use Rattle.repo_hall.specs.declared.guests.Guest.{Guest}
use Rattle.repo_hall.proofs.Turning.{is_awaited}
use Rattle.repo_many.proofs.Leading.{stays_on}
use Rattle.repo_many.proofs.Wiring.{answers_serve, serves_on, still_serves}
use Rattle.repo_many.proofs.sockets.Socket.advance.Goals as goal

pub returns-then-not-self-clause-serves : goal.returns-then-not-self-clause-serves
returns-then-not-self-clause-serves g c honest = ([], inl refl, still_serves g.T.Wire.hears g.T.Wire.says _ _ _ _ _ _ (λ from to failed failing log s. s) _ _)

pub returns-then-ne-clause-serves : goal.returns-then-ne-clause-serves
returns-then-ne-clause-serves g c honest = ([], inl refl, c.give-given.ensures.serves _ _)

pub returns-in_default-clause-serves : goal.returns-in_default-clause-serves
returns-in_default-clause-serves g c honest =
    let within : c.args.turn.place < length c.give-given.new.hall.guests.items = subst (λ n. c.args.turn.place < n) (sym c.give-given.ensures.places) c.requires in (
      [],
      inl refl,
      serves_on g.T.Wire.hears g.T.Wire.says _ _ _ _ c.args.turn.place _ _ _ _ _ _ [] _ _ _ _ _ within c.give-given.ensures.guests.1 (c.give-given.ensures.serves _ _)
          (answers_serve g.T.Wire.hears g.T.Wire.says _ _ _ _ _ _ _ _ _ _ (c.reply.ensures.answers honest)),
    )

pub returns-then-has_ended-clause-serves : goal.returns-then-has_ended-clause-serves
returns-then-has_ended-clause-serves g c honest =
    let within : c.args.turn.place < length c.give-given.new.hall.guests.items = subst (λ n. c.args.turn.place < n) (sym c.give-given.ensures.places) c.requires in (
      [],
      inl refl,
      serves_on g.T.Wire.hears g.T.Wire.says _ _ _ _ c.args.turn.place _ _ _ _ _ _ [] _ _ _ _ _ within c.give-given.ensures.guests.1 (c.give-given.ensures.serves _ _)
          (answers_serve g.T.Wire.hears g.T.Wire.says _ _ _ _ _ _ _ _ _ _ (c.reply.ensures.answers honest)),
    )

-- where none was answered, and the guest is answered still, more is awaited of it
pub take_more-requires-clause-awaited : goal.take_more-requires-clause-awaited
take_more-requires-clause-awaited g c h found =
    let still = c.reply.ensures.still c.in-Still.is in
    let at : slice_get c.give-given.new.hall.guests.items c.args.turn.place ≡ Some h = subst (λ (guests : List Guest). slice_get guests c.args.turn.place ≡ Some h) still.0 found in
    let none : length c.out.result.now ≡ 0 = search rules in
    is_awaited h (still.1 h at) (sym (c.has_ended.ensures h found) ∙ c.if-has_ended.false) (sym (c.out.ensures h at) ∙ nil_from_length c.out.result.now none)

pub returns-else-has_ended-clause-serves : goal.returns-else-has_ended-clause-serves
returns-else-has_ended-clause-serves g c honest =
    let place = c.args.turn.place in
    let within : place < length c.give-given.new.hall.guests.items = subst (λ n. place < n) (sym c.give-given.ensures.places) c.requires in
    let still : place < length c.reply.new.hall.guests.items = subst (λ n. place < n) (sym c.reply.ensures.places) within in
    let both = stays_on c.args.hall.now.guests.items c.give-given.new.hall.guests.items c.reply.new.hall.guests.items place within c.give-given.ensures.guests c.reply.ensures.guests in
    let more = c.take_more.ensures.serves in
    let first = serves_on g.T.Wire.hears g.T.Wire.says _ _ _ _ place _ _ _ _ _ _ [] _ _ _ _ _ within c.give-given.ensures.guests.1 (c.give-given.ensures.serves _ _)
    (answers_serve g.T.Wire.hears g.T.Wire.says _ _ _ _ _ _ _ _ _ _ (c.reply.ensures.answers honest)) in
    (more.0, more.1, serves_on g.T.Wire.hears g.T.Wire.says _ _ _ _ place _ _ _ _ _ _ more.0 _ _ _ _ _ still both.1 first (more.2 _ _))

pub returns-in_default-clause-guests : goal.returns-in_default-clause-guests
returns-in_default-clause-guests g c =
    let place = c.args.turn.place in
    let within : place < length c.give-given.new.hall.guests.items = subst (λ n. place < n) (sym c.give-given.ensures.places) c.requires in
    stays_on c.args.hall.now.guests.items c.give-given.new.hall.guests.items c.reply.new.hall.guests.items place within c.give-given.ensures.guests c.reply.ensures.guests

pub returns-else-has_ended-clause-guests : goal.returns-else-has_ended-clause-guests
returns-else-has_ended-clause-guests g c =
    let place = c.args.turn.place in
    let old = c.args.hall.now.guests.items in
    let given = c.give-given.new.hall.guests.items in
    let replied = c.reply.new.hall.guests.items in
    let within : place < length given = subst (λ n. place < n) (sym c.give-given.ensures.places) c.requires in
    let still : place < length replied = subst (λ n. place < n) (sym c.reply.ensures.places) within in
    stays_on old replied c.take_more.new.hall.guests.items place still (stays_on old given replied place within c.give-given.ensures.guests c.reply.ensures.guests) c.take_more.ensures.guests
