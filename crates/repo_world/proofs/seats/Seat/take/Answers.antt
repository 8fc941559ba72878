use Rattle.std.proofs.Common.{rules, ◌≡◌, ◌<◌, ◌∙◌, ◌++◌, ◌∷◌, [], Bool, false, List, Some, length, slice_index_or, refl, sym, subst}
use Rattle.std.proofs.lemmas.List.{get_or_default}
use Rattle.repo_wire.specs.declared.messages.Reply.{Reply}
use Rattle.repo_session.specs.Clients.{IsReplyTo, exchange}
use Rattle.repo_session.specs.Traces.{Trace}
use Rattle.repo_world.specs.AnyClients.{FitsAny, any_given, any_next}
use Rattle.repo_world.specs.inner.Seating.{TookReply}
use Rattle.repo_world.specs.Seats.{IsSeated, Seated, seated, silence}
use Rattle.repo_world.specs.declared.fed_items.FedItem.{FedItem}
use Rattle.repo_world.specs.declared.pasts.Past.{Past}
use Rattle.repo_world.proofs.SeatParts.{taken_reply, taken_seated}
use Rattle.repo_world.proofs.seats.Seat.take.Goals as goal

pub invariant_of-self-2 : goal.invariant_of-self-2
invariant_of-self-2 c =
    let seat = c.self.inside in
    let reply = slice_index_or seat.replies.items c.args.place silence in
    let request = c.in-Some.request.now in
    let past : Past = record { letter = c.of-letter.result; reply = c.args.place; before = c.keep.new.out; fed = c.self.inside.fed } in
    let taken = c.in_ok-take.ensures in
    let there : c.args.place < length seat.replies.items = search rules in
    let same : c.index-reply.result.now ≡ reply = c.index-reply.ensures ∙ get_or_default seat.replies.items c.args.place c.index-reply.result.now silence there in
    let letter : c.of-letter.result ≡ request = search rules in
    let before : c.keep.new.out.items ≡ any_given seat.client = search rules in
    let right : IsReplyTo request c.index-reply.result.now = search rules in
    let pending : any_next seat.client ≡ Some request = sym c.in-Some.ensures.next in
    let pushed : c.push.new.self.items ≡ seat.pasts.items ++ past ∷ [] = search rules in
    let Takes : Reply → Type 0 = λ r. (es : Trace) → FitsAny seat.client es → FitsAny c.take.new.self (exchange request r (any_given c.take.new.self) ∷ es) in
    let fits : Takes reply = subst Takes same (λ es f. taken.taken request pending right es f) in
    let none : c.replace-fed.new.dest.items ≡ [] = search rules in
    subst (λ (l : List FedItem). IsSeated c.take.new.self c.push.new.self.items l seat.replies.items) (sym none)
    (subst (λ (ps : List Past). IsSeated c.take.new.self ps [] seat.replies.items) (sym pushed) (taken_seated seat.client c.take.new.self seat.pasts.items seat.fed.items past seat.replies.items c.self.invariant request reply pending
    (subst (IsReplyTo request) same right) letter refl there before refl fits (λ es o f e. taken.stays es o f e) taken.job))

pub returns-clause-took : goal.returns-clause-took
returns-clause-took c =
    let seat = c.self.inside in
    let reply = slice_index_or seat.replies.items c.args.place silence in
    let request = c.in-Some.request.now in
    let past : Past = record { letter = c.of-letter.result; reply = c.args.place; before = c.keep.new.out; fed = c.self.inside.fed } in
    let taken = c.in_ok-take.ensures in
    let there : c.args.place < length seat.replies.items = search rules in
    let same : c.index-reply.result.now ≡ reply = c.index-reply.ensures ∙ get_or_default seat.replies.items c.args.place c.index-reply.result.now silence there in
    let letter : c.of-letter.result ≡ request = search rules in
    let before : c.keep.new.out.items ≡ any_given seat.client = search rules in
    let right : IsReplyTo request c.index-reply.result.now = search rules in
    let pending : any_next seat.client ≡ Some request = sym c.in-Some.ensures.next in
    let pushed : c.push.new.self.items ≡ seat.pasts.items ++ past ∷ [] = search rules in
    let Takes : Reply → Type 0 = λ r. (es : Trace) → FitsAny seat.client es → FitsAny c.take.new.self (exchange request r (any_given c.take.new.self) ∷ es) in
    let fits : Takes reply = subst Takes same (λ es f. taken.taken request pending right es f) in
    let State : List Past → Bool → Seated = λ ps b. seated c.take.new.self ps [] seat.replies.items b in
    let Took : Seated → Seated → Type 0 = λ o n. TookReply o (slice_index_or o.replies c.args.place silence) n in
    let took : Took (seated seat.client seat.pasts.items seat.fed.items seat.replies.items seat.crashed) (State c.push.new.self.items seat.crashed) =
    subst (λ b. Took (seated seat.client seat.pasts.items seat.fed.items seat.replies.items b) (State c.push.new.self.items b)) (sym c.if-self.false)
    (subst (λ ps. Took (seated seat.client seat.pasts.items seat.fed.items seat.replies.items false) (State ps false)) (sym pushed) (taken_reply seat.client c.take.new.self seat.pasts.items seat.fed.items past seat.replies.items c.self.invariant request reply pending
    (subst (IsReplyTo request) same right) letter refl there before refl fits (λ es o f e. taken.stays es o f e) taken.job)) in
    let none : c.replace-fed.new.dest.items ≡ [] = search rules in
    subst (λ (l : List FedItem). Took c.args.self.now (seated c.take.new.self c.push.new.self.items l seat.replies.items seat.crashed)) (sym none)
    (subst (λ (o : Seated). Took o (State c.push.new.self.items seat.crashed)) c.self.view_is took)
