use Rattle.std.proofs.Common.{rules, ◌≡◌, ◌∙◌, ◌<◌, ◌^◌, ◌++◌, ◌∷◌, [], inl, inr, false, length, refl, sym, ap, subst}
use Rattle.repo_session.specs.Askers.{Asker, asker}
use Rattle.repo_world.specs.AnyClients.{any_next, client_of}
use Rattle.repo_world.specs.Events.{BeginsJob}
use Rattle.repo_world.specs.Flows.{Flow, FlowStands, world_of}
use Rattle.repo_world.specs.Seats.{Seated, listed}
use Rattle.repo_world.specs.Starting.{IsNotBegun}
use Rattle.repo_world.specs.World.{versions_of, instance_of}
use Rattle.repo_world.specs.declared.events.Applied.{Applied}
use Rattle.repo_world.specs.declared.messages.Message.{Message}
use Rattle.repo_world.proofs.FlowParts.{started_stands, starts}
use Rattle.repo_world.proofs.traffic.Traffic.start.Goals as goal

pub invariant_of-self-in-Ok : goal.invariant_of-self-in-Ok
invariant_of-self-in-Ok c =
    let seats = c.self.inside.seats.items in
    let messages = c.self.inside.messages.items in
    let client = c.in-Ok.client in
    let number : c.len-number.result ≡ length seats = search rules in
    let pushed : c.push.new.self.items ≡ seats ++ c.new-in-Ok.result ∷ [] = search rules in
    let said : c.push-in-Ok.new.self.items ≡ messages ++ Message.Asked c.len-number.result 0 ∷ [] = search rules in
    let given = c.in-Ok.ensures.given ∙ ap (λ (w : Asker). record { who = w; handed = c.args.job }) (c.in_ok-who.ensures.who ∙ ap (λ n. asker (instance_of n) c.args.host.now c.args.time (versions_of c.args.old)) number) in
    let now : record { seats = c.push.new.self.items; messages = c.push-in-Ok.new.self.items }
    ≡ record { seats = seats ++ record { client = client_of client [] false; requests = listed (any_next client); replies = [] } ∷ []; messages = messages ++ Message.Asked (length seats) 0 ∷ [] } =
    λ i. record { seats = (pushed ∙ ap (λ (x : Seated). seats ++ x ∷ []) c.new-in-Ok.ensures) i; messages = (said ∙ ap (λ n. messages ++ Message.Asked n 0 ∷ []) number) i } in
    subst (λ (f : Flow). FlowStands f.seats f.messages) (sym now) (started_stands seats messages c.self.invariant client c.in-Ok.ensures.fits c.args.job c.args.host.now c.args.time c.args.old given)

pub invariant_of-self-in-Err-Refused : goal.invariant_of-self-in-Err-Refused
invariant_of-self-in-Err-Refused c =
    let seats : c.reserve.new.self.items ≡ c.self.inside.seats.items = search rules in
    let messages : c.reserve-2.new.self.items ≡ c.self.inside.messages.items = search rules in
    subst (λ (f : Flow). FlowStands f.seats f.messages) (λ i. record { seats = sym seats i; messages = sym messages i }) c.self.invariant

pub invariant_of-self-in-Err-Memory : goal.invariant_of-self-in-Err-Memory
invariant_of-self-in-Err-Memory c =
    let seats : c.reserve.new.self.items ≡ c.self.inside.seats.items = search rules in
    let messages : c.reserve-2.new.self.items ≡ c.self.inside.messages.items = search rules in
    subst (λ (f : Flow). FlowStands f.seats f.messages) (λ i. record { seats = sym seats i; messages = sym messages i }) c.self.invariant

pub returns-in_ok-push-in-Ok-2-clause-begins : goal.returns-in_ok-push-in-Ok-2-clause-begins
returns-in_ok-push-in-Ok-2-clause-begins c = λ store.
    let seats = c.self.inside.seats.items in
    let messages = c.self.inside.messages.items in
    let client = c.in-Ok.client in
    let job = c.args.job in
    let host = c.args.host.now in
    let time = c.args.time in
    let number : c.len-number.result ≡ length seats = search rules in
    let pushed : c.push.new.self.items ≡ seats ++ c.new-in-Ok.result ∷ [] = search rules in
    let said : c.push-in-Ok.new.self.items ≡ messages ++ Message.Asked c.len-number.result 0 ∷ [] = search rules in
    let given = c.in-Ok.ensures.given ∙ ap (λ (w : Asker). record { who = w; handed = c.args.job }) (c.in_ok-who.ensures.who ∙ ap (λ n. asker (instance_of n) c.args.host.now c.args.time (versions_of c.args.old)) number) in
    let now : record { seats = c.push.new.self.items; messages = c.push-in-Ok.new.self.items }
    ≡ record { seats = seats ++ record { client = client_of client [] false; requests = listed (any_next client); replies = [] } ∷ []; messages = messages ++ Message.Asked (length seats) 0 ∷ [] } =
    λ i. record { seats = (pushed ∙ ap (λ (x : Seated). seats ++ x ∷ []) c.new-in-Ok.ensures) i; messages = (said ∙ ap (λ n. messages ++ Message.Asked n 0 ∷ []) number) i } in
    let small : time < 2 ^ 64 = c.ranges.time.fits in
    let Is : Flow → Flow → Type 0 = λ f v. BeginsJob (world_of store f) job host time c.args.old Applied.Done (world_of store v) in
    subst (λ (f : Flow). Is f (record { seats = c.push.new.self.items; messages = c.push-in-Ok.new.self.items })) c.self.view_is
    (subst (λ (v : Flow). Is (record { seats = seats; messages = messages }) v) (sym now)
    (inl (refl, starts seats messages c.self.invariant client c.in-Ok.ensures.fits job host time c.args.old given store c.in-Ok.ensures.accepted small c.who_of.ensures.host)))

pub returns-in-Err-Refused-clause-begins : goal.returns-in-Err-Refused-clause-begins
returns-in-Err-Refused-clause-begins c = λ store.
    let refusal = c.in-Err-Refused.refusal in
    let seats : c.reserve.new.self.items ≡ c.self.inside.seats.items = search rules in
    let messages : c.reserve-2.new.self.items ≡ c.self.inside.messages.items = search rules in
    subst (λ (f : Flow). BeginsJob (world_of store f) c.args.job c.args.host.now c.args.time c.args.old (Applied.Refused refusal) (world_of store (record { seats = c.reserve.new.self.items; messages = c.reserve-2.new.self.items }))) c.self.view_is
    (inr (refusal, subst (IsNotBegun c.args.job) c.in-Err-Refused.field-0-is c.in-Err-Refused.ensures.refused, refl, λ i. world_of store (record { seats = seats i; messages = messages i })))
