-- Where the last request of a client stands.
use Rattle.std.proofs.Common.{◌≡◌, ◌≢◌, ◌<◌, ◌≤◌, ◌+◌, ◌∙◌, ℕ, List, length, Option, Some, None, true, ap, option_map, sym, subst, slice_get, slice_index_or, arith}
use Rattle.std.specs.Option.{MatchOption, is_some}
use Rattle.std.proofs.Math.Dec.{eqb}
use Rattle.std.specs.Prelude.{IsTrue}
use Rattle.std.proofs.lemmas.Bool.{eq-eqb, eqb-true}
use Rattle.std.proofs.lemmas.List.{length-map}
use Rattle.std.proofs.lemmas.Option.{none-some, same_Some, slice_get-map, slice_get_within}
use Rattle.repo_wire.specs.declared.messages.Request.{Request}
use Rattle.repo_wire.specs.declared.messages.Reply.{Reply}
use Rattle.repo_world.specs.Flows.{Flow, messages_in, seat_at, spoken}
use Rattle.repo_world.specs.Seats.{nothing}
use Rattle.repo_world.specs.World.{World, Message, Asked, Said, IsOneOf}
use Rattle.repo_world.specs.declared.messages.Message as written
use Rattle.repo_play.specs.Steps.{HasClient, IsLast}
use Rattle.repo_play.proofs.Growing.{has_got, last_there}

-- no request of the client is among the last messages, of which there are so many
abbrev pub NoneAfter : List Message → ℕ → ℕ → Type 0
NoneAfter messages k after = (later : ℕ) (other : Request) → slice_get messages later ≡ Some (Asked k other) → later + after < length messages

-- a request of the client stands here
abbrev pub IsAsked : List Message → ℕ → ℕ → Type 0
IsAsked messages k place = (request : Request) × (slice_get messages place ≡ Some (Asked k request))

pub none_first : (messages : List Message) (k : ℕ) → NoneAfter messages k 0
none_first messages k = λ later other e. omega (arith, slice_get_within messages later (Asked k other) e)

pub none_more : (messages : List Message) (k after place : ℕ) → place + after + 1 ≡ length messages → ¬ IsAsked messages k place → NoneAfter messages k after → NoneAfter messages k (after + 1)
none_more messages k after place at none h = λ later other e.
    let apart : later ≢ place = λ q. none (other, subst (λ i. slice_get messages i ≡ Some (Asked k other)) q e) in
    let before : later + after < length messages = h later other e in
    omega arith

pub last_found : (messages : List Message) (k after place : ℕ) → place + after + 1 ≡ length messages → IsAsked messages k place → NoneAfter messages k after → IsLast messages k place
last_found messages k after place at here h = record {
  request = here.0;
  is = here.1;
  last = λ later other e. (let before : later + after < length messages = h later other e in omega arith);
}

pub none_there : (messages : List Message) (k after : ℕ) → length messages ≤ after → NoneAfter messages k after → ¬ ((request : Request) × IsOneOf messages (Asked k request))
none_there messages k after all h there =
    let place = has_got messages (Asked k there.0) there.1 in
    let before : place.0 + after < length messages = h place.0 there.0 place.1 in
    absurd (omega arith)

-- ---- the messages of a world in code

-- there are as many
pub as_many : (flow : Flow) → length flow.messages ≡ length (messages_in flow)
as_many flow = sym (length-map flow.messages (spoken flow.seats))

-- the one of a number stands for this
spoken_at : (flow : Flow) (place : ℕ) (o : Option written.Message) → slice_get flow.messages place ≡ o → slice_get (messages_in flow) place ≡ option_map (spoken flow.seats) o
spoken_at flow place o e = slice_get-map (spoken flow.seats) flow.messages place ∙ ap (option_map (spoken flow.seats)) e

-- a request of this client
pub asked_here : (flow : Flow) (place k request : ℕ) → slice_get flow.messages place ≡ Some (written.Message.Asked k request) → IsAsked (messages_in flow) k place
asked_here flow place k request e = (slice_index_or (seat_at flow.seats k).requests request nothing, spoken_at flow place (Some (written.Message.Asked k request)) e)

-- of no other
pub asked_by : (flow : Flow) (place asker request k : ℕ) → slice_get flow.messages place ≡ Some (written.Message.Asked asker request) → IsAsked (messages_in flow) k place → asker ≡ k
asked_by flow place asker request k e there = same_asker (same_Some _ _ (sym (spoken_at flow place (Some (written.Message.Asked asker request)) e) ∙ there.1))
  where
    same_asker : {a b : ℕ} {x y : Request} → Asked a x ≡ Asked b y → a ≡ b
    same_asker {a} e = ap (λ m. elim m [ Asked k r ↦ k | Said k r ↦ a ]) e

-- whether it is of this client
pub asked_tells : (flow : Flow) (place asker request k : ℕ) → slice_get flow.messages place ≡ Some (written.Message.Asked asker request)
    → (IsTrue (eqb asker k) → IsAsked (messages_in flow) k place) × (IsAsked (messages_in flow) k place → IsTrue (eqb asker k))
asked_tells flow place asker request k e = (
  λ same. subst (λ n. IsAsked (messages_in flow) n place) (eqb-true asker k same) (asked_here flow place asker request e),
  λ there. eq-eqb asker k (asked_by flow place asker request k e there),
)

-- a reply is no request
pub said_here : (flow : Flow) (place k reply l : ℕ) → slice_get flow.messages place ≡ Some (written.Message.Said k reply) → ¬ IsAsked (messages_in flow) l place
said_here flow place k reply l e there = not_both (same_Some _ _ (sym (spoken_at flow place (Some (written.Message.Said k reply)) e) ∙ there.1))
  where
    not_both : {a b : ℕ} {x : Reply} {y : Request} → Said a x ≡ Asked b y → ⊥
    not_both e = absurd (cc)

-- and none is none
pub none_here : (flow : Flow) (place l : ℕ) → slice_get flow.messages place ≡ None → ¬ IsAsked (messages_in flow) l place
none_here flow place l e there = absurd (none-some _ (sym (spoken_at flow place None e) ∙ there.1))

-- a client whose last request stands somewhere is there
pub there_by : (w : World) (k : ℕ) (o : Option ℕ) → is_some o ≡ true → MatchOption o (¬ HasClient w k) (λ place. IsLast w.messages k place) → HasClient w k
there_by w k (Some place) e h = last_there w.messages k place h
there_by w k None e h = absurd (cc)
