-- Requests among the first messages, one by one.
use Rattle.std.proofs.Common.{◌≡◌, ◌<◌, ◌+◌, ◌++◌, ◌∷◌, [], refl, ℕ, zero, suc, List, length, take, Some, ap, subst, sym, ◌∙◌, slice_get, arith}
use Rattle.std.proofs.lemmas.Option.{none-some}
use Rattle.repo_wire.specs.declared.messages.Request.{Request}
use Rattle.repo_world.specs.Events.{Happens}
use Rattle.repo_world.specs.World.{World, Message, Asked, Said}
use Rattle.repo_world.specs.declared.events.Applied.{Applied}
use Rattle.repo_world.specs.declared.events.Event.{Event}
use Rattle.repo_play.specs.Steps.{AllHappen, deliveries}
use Rattle.repo_play.proofs.Growing.{Grows, all_more, happens_grows, grows_on, one_happens}

-- a request stands here
abbrev pub IsRequest : List Message → ℕ → Type 0
IsRequest messages place = (k : ℕ) × (request : Request) × (slice_get messages place ≡ Some (Asked k request))

next_asked : (n : ℕ) (messages : List Message) (place k : ℕ) (request : Request) → slice_get messages place ≡ Some (Asked k request)
    → deliveries n (take (suc place) messages) ≡ deliveries n (take place messages) ++ Event.Deliver (n + place) ∷ []
next_asked n [] place k request e = absurd (none-some (Asked k request) e)
next_asked n (Asked a b ∷ messages) zero k request e = ap (λ m. Event.Deliver m ∷ []) (omega arith)
next_asked n (Said a b ∷ messages) zero k request e = absurd (cc)
next_asked n (Asked a b ∷ messages) (suc i) k request e =
    ap (λ es. Event.Deliver n ∷ es) (next_asked (n + 1) messages i k request e ∙ ap (λ m. deliveries (n + 1) (take i messages) ++ Event.Deliver m ∷ []) (omega arith))
next_asked n (Said a b ∷ messages) (suc i) k request e =
    next_asked (n + 1) messages i k request e ∙ ap (λ m. deliveries (n + 1) (take i messages) ++ Event.Deliver m ∷ []) (omega arith)

next_said : (n : ℕ) (messages : List Message) (place : ℕ) → place < length messages → ¬ IsRequest messages place → deliveries n (take (suc place) messages) ≡ deliveries n (take place messages)
next_said n [] place h none = absurd (omega arith)
next_said n (Asked a b ∷ messages) zero h none = absurd (none (a, b, refl))
next_said n (Said a b ∷ messages) zero h none = refl
next_said n (Asked a b ∷ messages) (suc i) h none = ap (λ es. Event.Deliver n ∷ es) (next_said (n + 1) messages i (omega arith) none)
next_said n (Said a b ∷ messages) (suc i) h none = next_said (n + 1) messages i (omega arith) none

same_left : (xs ys : List Message) (i : ℕ) → i < length xs → slice_get (xs ++ ys) i ≡ slice_get xs i
same_left [] ys i h = absurd (omega arith)
same_left (x ∷ xs) ys zero h = refl
same_left (x ∷ xs) ys (suc i) h = same_left xs ys i (omega arith)

-- the message of a place was there from the first
was_there : (w u : World) (place : ℕ) → place < length w.messages → Grows w u → slice_get u.messages place ≡ slice_get w.messages place
was_there w u place h g = ap (λ m. slice_get m place) g.1 ∙ same_left w.messages g.0 place h

pub replayed : (w u : World) (place : ℕ) (a : Applied) (v : World) → place < length w.messages → Grows w u → AllHappen w (deliveries 0 (take place w.messages)) u
    → IsRequest u.messages place → Happens ⊥ u (Event.Deliver place) a v → AllHappen w (deliveries 0 (take (place + 1) w.messages)) v
replayed w u place a v h g all asked happens =
    let next : place + 1 ≡ suc place = omega arith in
    let here : 0 + place ≡ place = omega arith in
    let es : deliveries 0 (take (place + 1) w.messages) ≡ deliveries 0 (take place w.messages) ++ Event.Deliver place ∷ [] =
    ap (λ n. deliveries 0 (take n w.messages)) next ∙ next_asked 0 w.messages place asked.0 asked.1 (sym (was_there w u place h g) ∙ asked.2)
    ∙ ap (λ n. deliveries 0 (take place w.messages) ++ Event.Deliver n ∷ []) here in
    subst (λ (l : List Event). AllHappen w l v) (sym es) (all_more w (deliveries 0 (take place w.messages)) u (Event.Deliver place ∷ []) v all (one_happens u (Event.Deliver place) a v happens))

pub passed_over : (w u : World) (place : ℕ) → place < length w.messages → Grows w u → AllHappen w (deliveries 0 (take place w.messages)) u → ¬ IsRequest u.messages place
    → AllHappen w (deliveries 0 (take (place + 1) w.messages)) u
passed_over w u place h g all none =
    let apart = λ (r : IsRequest w.messages place). none (r.0, r.1, was_there w u place h g ∙ r.2) in
    let next : place + 1 ≡ suc place = omega arith in
    subst (λ (l : List Event). AllHappen w l u) (sym (ap (λ n. deliveries 0 (take n w.messages)) next ∙ next_said 0 w.messages place h apart)) all

pub grown : (w u : World) (e : Event) (a : Applied) (v : World) → Grows w u → Happens ⊥ u e a v → Grows w v
grown w u e a v g h = grows_on w u v g (happens_grows ⊥ u e a v h)

-- the requests among so many messages were delivered, and messages only became more
abbrev pub IsReplayed : World → ℕ → World → Type 0
IsReplayed w place u = Grows w u × AllHappen w (deliveries 0 (take place w.messages)) u
