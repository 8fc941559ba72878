-- What is told of a late request.
use Rattle.std.proofs.Common.{Bor, ◌≡◌, ◌+◌, ◌-◌, ◌++◌, ◌∷◌, [], ◌∙◌, ℕ, Bool, List, length, Option, Some, None, sym, ap, subst, slice_get, slice_index_or, option_map, length-append, arith}
use Rattle.std.specs.Option.{MatchOption, unwrap_or}
use Rattle.std.proofs.lemmas.Option.{get_or_from_slice_get, none-some, same_Some, slice_get-map, unwrap_or-slice_get}
use Rattle.repo_wire.specs.declared.messages.Reply.{Reply}
use Rattle.repo_wire.specs.declared.messages.Request.{Request}
use Rattle.repo_store.specs.Failing.{Plainly}
use Rattle.repo_world.specs.Events.{Happens, Delivers}
use Rattle.repo_world.specs.Flows.{Flow, messages_in, seat_at, spoken}
use Rattle.repo_world.specs.Seats.{Seated, silence}
use Rattle.repo_world.specs.World.{World, Message, Asked, Said}
use Rattle.repo_world.specs.declared.events.Applied.{Applied}
use Rattle.repo_world.specs.declared.events.Event.{Event}
use Rattle.repo_world.specs.declared.jobs.Job.{Job}
use Rattle.repo_play.specs.Steps.{IsLast, IsLate, late_line}
use Rattle.repo_world.specs.declared.messages.Message as written
use Rattle.repo_play.proofs.Growing.{got_end, one_happens}
use Rattle.repo_play.proofs.Places.{as_many}

-- the reply to a request that is delivered joins the messages
pub served : (w : World) (k place : ℕ) (a : Applied) (v : World) → IsLast w.messages k place → Happens ⊥ w (Event.Deliver place) a v → (reply : Reply) × (v.messages ≡ w.messages ++ Said k reply ∷ [])
served w k place a v last h =
    let d = subst (λ (o : Option Message). Delivers (Plainly ⊥) w o a v) last.is h in
    (d.1.reply, ap (λ (u : World). u.messages) d.1.is)

pub late_told : (w : World) (k place : ℕ) (a : Applied) (v : World) (text : List ℕ) → IsLast w.messages k place → Happens ⊥ w (Event.Deliver place) a v
    → ((messages : List Message) (reply : Reply) → v.messages ≡ messages ++ Said k reply ∷ [] → text ≡ late_line k reply.say) → IsLate w k text v
late_told w k place a v text last h told =
    let s = served w k place a v last h in
    record {
      place = place;
      last = last;
      happen = one_happens w (Event.Deliver place) a v h;
      reply = s.0;
      joined = subst (λ m. slice_get m (length w.messages) ≡ Some (Said k s.0)) (sym s.1) (got_end w.messages (Said k s.0));
      told = told w.messages s.0 s.1;
    }

-- a message that stands for a reply, and which one that is
said_by : (seats : List Seated) (o : Option written.Message) (k : ℕ) (reply : Reply) → option_map (spoken seats) o ≡ Some (Said k reply)
    → (place : ℕ) × (o ≡ Some (written.Message.Said k place)) × (slice_index_or (seat_at seats k).replies place silence ≡ reply)
said_by seats None k reply e = absurd (none-some _ e)
said_by seats (Some (written.Message.Asked a b)) k reply e = absurd (not_both (same_Some _ _ e))
  where
    not_both : {a b : ℕ} {x : Request} {y : Reply} → Asked a x ≡ Said b y → ⊥
    not_both e = absurd (cc)
said_by seats (Some (written.Message.Said a b)) k reply e =
    let both = same_said (same_Some _ _ e) in
    (b, ap (λ n. Some (written.Message.Said n b)) both.0, subst (λ n. slice_index_or (seat_at seats n).replies b silence ≡ reply) both.0 both.1)
  where
    same_said : {a b : ℕ} {x y : Reply} → Said a x ≡ Said b y → (a ≡ b) × (x ≡ y)
    same_said {a} {b} {x} e = (ap (λ m. elim m [ Asked k r ↦ a | Said k r ↦ k ]) e, ap (λ m. elim m [ Asked k r ↦ x | Said k r ↦ r ]) e)

-- the last message, where the last that is spoken is a reply
pub last_said : (flow : Flow) (messages : List Message) (k : ℕ) (reply : Reply) → messages_in flow ≡ messages ++ Said k reply ∷ []
    → (place : ℕ) × (slice_get flow.messages (length flow.messages - 1) ≡ Some (written.Message.Said k place)) × (slice_index_or (seat_at flow.seats k).replies place silence ≡ reply)
last_said flow messages k reply e =
    let last : length flow.messages - 1 ≡ length messages = omega (arith, as_many flow, ap length e, length-append messages (Said k reply ∷ [])) in
    let at : slice_get (messages_in flow) (length messages) ≡ Some (Said k reply) = ap (λ m. slice_get m (length messages)) e ∙ got_end messages (Said k reply) in
    let s = said_by flow.seats (slice_get flow.messages (length messages)) k reply (sym (slice_get-map (spoken flow.seats) flow.messages (length messages)) ∙ at) in
    (s.0, ap (slice_get flow.messages) last ∙ s.1, s.2)

-- the reply of a number, as it is looked up
reply_there : (replies : List Reply) (place : ℕ) (o : Option (Bor Reply)) (reply : Reply) → option_map (λ r. r.now) o ≡ slice_get replies place → slice_index_or replies place silence ≡ reply
    → MatchOption o (reply ≡ silence) (λ last. last.now ≡ reply)
reply_there replies place None reply h e = sym e ∙ sym (unwrap_or-slice_get replies place silence) ∙ ap (λ x. unwrap_or x silence) (sym h)
reply_there replies place (Some r) reply h e = sym (get_or_from_slice_get replies place r.now silence (sym h)) ∙ e

-- the last message is this reply, and was looked up
pub reply_found : (flow : Flow) (messages : List Message) (k : ℕ) (reply : Reply) (client number : ℕ) (o : Option (Bor Reply))
    → messages_in flow ≡ messages ++ Said k reply ∷ [] → slice_get flow.messages (length flow.messages - 1) ≡ Some (written.Message.Said client number)
    → option_map (λ r. r.now) o ≡ slice_get (seat_at flow.seats client).replies number → MatchOption o (reply ≡ silence) (λ last. last.now ≡ reply)
reply_found flow messages k reply client number o e at h =
    let s = last_said flow messages k reply e in
    let same = same_places (same_Some _ _ (sym at ∙ s.1)) in
    reply_there (seat_at flow.seats client).replies number o reply h (ap (λ n. slice_index_or (seat_at flow.seats client).replies n silence) same.1 ∙ ap (λ n. slice_index_or (seat_at flow.seats n).replies s.0 silence) same.0 ∙ s.2)
  where
    same_places : {a b x y : ℕ} → written.Message.Said a x ≡ written.Message.Said b y → (a ≡ b) × (x ≡ y)
    same_places {a} {b} {x} e =
        (ap (λ (m : written.Message). elim m [ written.Message.Asked k r ↦ a | written.Message.Said k r ↦ k ]) e, ap (λ (m : written.Message). elim m [ written.Message.Asked k r ↦ x | written.Message.Said k r ↦ r ]) e)

-- it isn't a reply: so no reply is the last one
pub no_request_last : (flow : Flow) (messages : List Message) (k : ℕ) (reply : Reply) (a b : ℕ) → messages_in flow ≡ messages ++ Said k reply ∷ []
    → slice_get flow.messages (length flow.messages - 1) ≡ Some (written.Message.Asked a b) → ⊥
no_request_last flow messages k reply a b e at = not_both (same_Some _ _ (sym at ∙ (last_said flow messages k reply e).1))
  where
    not_both : {a b x y : ℕ} → written.Message.Asked a b ≡ written.Message.Said x y → ⊥
    not_both e = absurd (cc)

pub something_last : (flow : Flow) (messages : List Message) (k : ℕ) (reply : Reply) → messages_in flow ≡ messages ++ Said k reply ∷ [] → slice_get flow.messages (length flow.messages - 1) ≡ None → ⊥
something_last flow messages k reply e at = absurd (none-some _ (sym at ∙ (last_said flow messages k reply e).1))

-- the same start, of the same world
pub started : (w u : World) (job : Job) (host other : List ℕ) (time later : ℕ) (old : Bool) (a : Applied) (v : World) → u ≡ w → other ≡ host → later ≡ time
    → Happens ⊥ u (Event.Start job other later old) a v → Happens ⊥ w (Event.Start job host time old) a v
started w u job host other time later old a v same hosts times h =
    subst (λ (x : World). Happens ⊥ x (Event.Start job host time old) a v) same
    (subst (λ b. Happens ⊥ u (Event.Start job b time old) a v) hosts (subst (λ n. Happens ⊥ u (Event.Start job other n old) a v) times h))
