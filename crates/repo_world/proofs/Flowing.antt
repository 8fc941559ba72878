-- What a flow stands for, as its seats change.
use Rattle.std.proofs.Common.{◌≡◌, ◌∙◌, ◌⊎◌, ◌↔◌, Option, Some, None, IsSome, option_map, slice_get, inl, inr, ⊎_elim, ◌<◌, ◌++◌, ◌∷◌, [], ℕ, zero, suc, List, length, map, slice_set, slice_index_or, refl, sym, ap, subst, arith, append-nil, length-append, Contains}
use Rattle.std.proofs.lemmas.List.{get_or_append_left, map-append}
use Rattle.std.proofs.lemmas.Option.{slice_get_cases, slice_get_within}
use Rattle.std.proofs.lemmas.List.Elements.{Contains-append_left, Contains-append_right}
use Rattle.std.proofs.Math.ListN.{get_or-map as get_or-map-at}
use Rattle.repo_name.proofs.Containing.{contained_or, first_contained, none_contained}
use Rattle.repo_wire.specs.declared.messages.Reply.{Reply}
use Rattle.repo_wire.specs.declared.messages.Request.{Request}
use Rattle.repo_world.specs.Flows.{EachIsThere, FlowStands, IsThere, seat_at, spoken}
use Rattle.repo_world.specs.Seats.{Seated, empty_seat, nothing, silence}
use Rattle.repo_world.specs.World as world
use Rattle.repo_world.specs.World.{client_at}
use Rattle.repo_world.specs.declared.messages.Message.{Message}
use Rattle.repo_world.proofs.Seating.{each_end}

-- ---- seats by their numbers

pub at_set : (seats : List Seated) (k : ℕ) (s : Seated) → k < length seats → (j : ℕ) → ((j ≡ k) × (seat_at (slice_set seats k s) j ≡ s)) ⊎ (seat_at (slice_set seats k s) j ≡ seat_at seats j)
at_set [] k s h j = absurd (omega (arith, h))
at_set (x ∷ seats) zero s h zero = inl (refl, refl)
at_set (x ∷ seats) zero s h (suc j) = inr refl
at_set (x ∷ seats) (suc k) s h zero = inr refl
at_set (x ∷ seats) (suc k) s h (suc j) = ⊎_elim (λ e. inl (ap suc e.0, e.1)) inr (at_set seats k s (by_arith h) j) where
  by_arith : suc k < suc (length seats) → k < length seats
  by_arith less = omega (arith, less)

pub at_end : (seats : List Seated) (s : Seated) (j : ℕ) → ((j ≡ length seats) × (seat_at (seats ++ s ∷ []) j ≡ s) × (seat_at seats j ≡ empty_seat)) ⊎ (seat_at (seats ++ s ∷ []) j ≡ seat_at seats j)
at_end [] s zero = inl (refl, refl, refl)
at_end [] s (suc j) = inr refl
at_end (x ∷ seats) s zero = inr refl
at_end (x ∷ seats) s (suc j) = ⊎_elim (λ e. inl (ap suc e.0, e.1, e.2)) inr (at_end seats s j)

pub client_there : (seats : List Seated) (k : ℕ) → client_at (map (λ (s : Seated). s.client) seats) k ≡ (seat_at seats k).client
client_there seats k = get_or-map-at (λ (s : Seated). s.client) seats k empty_seat

-- a seat that has something is one of the seats
pub within_requests : (seats : List Seated) (k n : ℕ) → n < length (seat_at seats k).requests → k < length seats
within_requests [] k n h = absurd (omega (arith, h))
within_requests (x ∷ seats) zero n h = omega (arith)
within_requests (x ∷ seats) (suc k) n h = let less = within_requests seats k n h in omega (arith, less)

pub within_replies : (seats : List Seated) (k n : ℕ) → n < length (seat_at seats k).replies → k < length seats
within_replies [] k n h = absurd (omega (arith, h))
within_replies (x ∷ seats) zero n h = omega (arith)
within_replies (x ∷ seats) (suc k) n h = let less = within_replies seats k n h in omega (arith, less)

-- ---- each seat has what it had, and maybe more

-- a list goes on with more
abbrev pub GoesOn : {A : Type 0} → List A → List A → Type 0
GoesOn {A} old new = (more : List A) × (new ≡ old ++ more)

pub goes_same : {A : Type 0} (xs ys : List A) → ys ≡ xs → GoesOn xs ys
goes_same xs ys e = ([], e ∙ sym (append-nil xs))

goes_empty : {A : Type 0} (xs ys : List A) → xs ≡ [] → GoesOn xs ys
goes_empty xs ys e = (ys, ap (λ l. l ++ ys) (sym e))

pub record Grows (old new : List Seated) : Type 0 where
  pub requests : (k : ℕ) → GoesOn (seat_at old k).requests (seat_at new k).requests
  pub replies : (k : ℕ) → GoesOn (seat_at old k).replies (seat_at new k).replies

pub grows_set : (seats : List Seated) (k : ℕ) (s : Seated) → k < length seats → GoesOn (seat_at seats k).requests s.requests → GoesOn (seat_at seats k).replies s.replies → Grows seats (slice_set seats k s)
grows_set seats k s less q r = record { requests = requests; replies = replies }
  where
    requests : (j : ℕ) → GoesOn (seat_at seats j).requests (seat_at (slice_set seats k s) j).requests
    requests j = go (at_set seats k s less j) where
      go : ((j ≡ k) × (seat_at (slice_set seats k s) j ≡ s)) ⊎ (seat_at (slice_set seats k s) j ≡ seat_at seats j) → GoesOn (seat_at seats j).requests (seat_at (slice_set seats k s) j).requests
      go (inl e) = subst (λ (x : Seated). GoesOn (seat_at seats j).requests x.requests) (sym e.1) (subst (λ i. GoesOn (seat_at seats i).requests s.requests) (sym e.0) q)
      go (inr e) = goes_same _ _ (ap (λ (x : Seated). x.requests) e)

    replies : (j : ℕ) → GoesOn (seat_at seats j).replies (seat_at (slice_set seats k s) j).replies
    replies j = go (at_set seats k s less j) where
      go : ((j ≡ k) × (seat_at (slice_set seats k s) j ≡ s)) ⊎ (seat_at (slice_set seats k s) j ≡ seat_at seats j) → GoesOn (seat_at seats j).replies (seat_at (slice_set seats k s) j).replies
      go (inl e) = subst (λ (x : Seated). GoesOn (seat_at seats j).replies x.replies) (sym e.1) (subst (λ i. GoesOn (seat_at seats i).replies s.replies) (sym e.0) r)
      go (inr e) = goes_same _ _ (ap (λ (x : Seated). x.replies) e)

pub grows_end : (seats : List Seated) (s : Seated) → Grows seats (seats ++ s ∷ [])
grows_end seats s = record {
  requests = λ j. ⊎_elim (λ e. goes_empty _ _ (ap (λ (x : Seated). x.requests) e.2)) (λ e. goes_same _ _ (ap (λ (x : Seated). x.requests) e)) (at_end seats s j);
  replies = λ j. ⊎_elim (λ e. goes_empty _ _ (ap (λ (x : Seated). x.replies) e.2)) (λ e. goes_same _ _ (ap (λ (x : Seated). x.replies) e)) (at_end seats s j);
}

-- ---- so each message stands for what it stood for

longer : {A : Type 0} (xs ys : List A) (n : ℕ) → GoesOn xs ys → n < length xs → n < length ys
longer xs ys n g h = let len : length ys ≡ length (xs ++ g.0) = ap length g.1 in omega (arith, len, length-append xs g.0, h)

same_at : {A : Type 0} (xs ys : List A) (d : A) (n : ℕ) → GoesOn xs ys → n < length xs → slice_index_or ys n d ≡ slice_index_or xs n d
same_at xs ys d n g h = ap (λ l. slice_index_or l n d) g.1 ∙ get_or_append_left xs g.0 d n h

spoken_same : (old new : List Seated) → Grows old new → (m : Message) → IsThere old m → spoken new m ≡ spoken old m
spoken_same old new g (Message.Asked k n) h = ap (world.Asked k) (same_at _ _ nothing n (g.requests k) h)
spoken_same old new g (Message.Said k n) h = ap (world.Said k) (same_at _ _ silence n (g.replies k) h)

there_same : (old new : List Seated) → Grows old new → (m : Message) → IsThere old m → IsThere new m
there_same old new g (Message.Asked k n) h = longer _ _ n (g.requests k) h
there_same old new g (Message.Said k n) h = longer _ _ n (g.replies k) h

pub messages_same : (old new : List Seated) → Grows old new → (ms : List Message) → EachIsThere old ms → map (spoken new) ms ≡ map (spoken old) ms
messages_same old new g [] h = refl
messages_same old new g (m ∷ ms) h = λ i. spoken_same old new g m h.0 i ∷ messages_same old new g ms h.1 i

pub all_there : (old new : List Seated) → Grows old new → (ms : List Message) → EachIsThere old ms → EachIsThere new ms
all_there old new g [] h = h
all_there old new g (m ∷ ms) h = (there_same old new g m h.0, all_there old new g ms h.1)

pub there_more : (old new : List Seated) → Grows old new → (ms : List Message) → EachIsThere old ms → (m : Message) → IsThere new m → EachIsThere new (ms ++ m ∷ [])
there_more old new g ms h m t = each_end (IsThere new) ms m (all_there old new g ms h) t

pub messages_more : (old new : List Seated) → Grows old new → (ms : List Message) → EachIsThere old ms → (m : Message) (x : world.Message) → spoken new m ≡ x → map (spoken new) (ms ++ m ∷ []) ≡ map (spoken old) ms ++ x ∷ []
messages_more old new g ms h m x e = map-append (spoken new) ms (m ∷ []) ∙ (λ i. messages_same old new g ms h i ++ e i ∷ [])

-- ---- and what is there has a message

-- one seat was set: what it has now, it had, or it has a message among more
pub all_set : (seats : List Seated) (k : ℕ) (s : Seated) → k < length seats → (messages : List Message) → ((message : Message) → IsThere seats message → Contains messages message)
    → (more : List Message) → ((place : ℕ) → place < length s.requests → (place < length (seat_at seats k).requests) ⊎ Contains more (Message.Asked k place))
    → ((place : ℕ) → place < length s.replies → (place < length (seat_at seats k).replies) ⊎ Contains more (Message.Said k place))
    → (message : Message) → IsThere (slice_set seats k s) message → Contains (messages ++ more) message
all_set seats k s less messages all more requests replies (Message.Asked j place) there = ⊎_elim
    (λ (e : (j ≡ k) × (seat_at (slice_set seats k s) j ≡ s)).
    let C : ℕ → Type 0 = λ i. Contains (messages ++ more) (Message.Asked i place) in
    subst C (sym e.0) (⊎_elim (λ old. Contains-append_left messages more (Message.Asked k place) (all (Message.Asked k place) old)) (λ new. Contains-append_right messages more (Message.Asked k place) new)
    (requests place (subst (λ (x : Seated). place < length x.requests) e.1 there))))
    (λ e. Contains-append_left messages more (Message.Asked j place) (all (Message.Asked j place) (subst (λ (x : Seated). place < length x.requests) e there)))
    (at_set seats k s less j)
all_set seats k s less messages all more requests replies (Message.Said j place) there = ⊎_elim
    (λ (e : (j ≡ k) × (seat_at (slice_set seats k s) j ≡ s)).
    let C : ℕ → Type 0 = λ i. Contains (messages ++ more) (Message.Said i place) in
    subst C (sym e.0) (⊎_elim (λ old. Contains-append_left messages more (Message.Said k place) (all (Message.Said k place) old)) (λ new. Contains-append_right messages more (Message.Said k place) new)
    (replies place (subst (λ (x : Seated). place < length x.replies) e.1 there))))
    (λ e. Contains-append_left messages more (Message.Said j place) (all (Message.Said j place) (subst (λ (x : Seated). place < length x.replies) e there)))
    (at_set seats k s less j)

-- nothing more was said
pub all_kept : (seats : List Seated) (k : ℕ) (s : Seated) → k < length seats → (messages : List Message) → ((message : Message) → IsThere seats message → Contains messages message)
    → s.requests ≡ (seat_at seats k).requests → s.replies ≡ (seat_at seats k).replies → (message : Message) → IsThere (slice_set seats k s) message → Contains messages message
all_kept seats k s less messages all requests replies message there = subst (λ l. Contains l message) (append-nil messages)
    (all_set seats k s less messages all [] (λ place within. inl (subst (λ l. place < length l) requests within)) (λ place within. inl (subst (λ l. place < length l) replies within)) message there)

-- a place within one more is within, or the last
within_one : (n m : ℕ) → n < suc m → (n < m) ⊎ (n ≡ m)
within_one zero zero h = inr refl
within_one zero (suc m) h = inl (omega arith)
within_one (suc n) zero h = absurd (omega (arith, h))
within_one (suc n) (suc m) h = ⊎_elim (λ less. inl (omega (arith, less))) (λ same. inr (ap suc same)) (within_one n m (omega (arith, h)))

-- a place of a list with one more at its end is one of the list, or its last
pub within_end : {A : Type 0} (old new : List A) (a : A) → new ≡ old ++ a ∷ [] → (place : ℕ) → place < length new → (place < length old) ⊎ (place ≡ length old)
within_end old new a is place within =
    let len : length new ≡ length (old ++ a ∷ []) = ap length is in
    let count = length-append old (a ∷ []) in
    within_one place (length old) (omega (arith, within, len, count))

-- one seat more, which sent its first request
pub all_started : (seats : List Seated) (s : Seated) (messages : List Message) → ((message : Message) → IsThere seats message → Contains messages message) → length s.requests ≡ 1 → s.replies ≡ []
    → (message : Message) → IsThere (seats ++ s ∷ []) message → Contains (messages ++ Message.Asked (length seats) 0 ∷ []) message
all_started seats s messages all one none (Message.Asked j place) there = ⊎_elim
    (λ (e : (j ≡ length seats) × (seat_at (seats ++ s ∷ []) j ≡ s) × (seat_at seats j ≡ empty_seat)).
    let within : place < length s.requests = subst (λ (x : Seated). place < length x.requests) e.1 there in
    let first : 0 ≡ place = omega (arith, within, one) in
    let more = Message.Asked (length seats) 0 ∷ [] in
    let C : ℕ → Type 0 = λ i. Contains (messages ++ more) (Message.Asked i place) in
    let D : ℕ → Type 0 = λ n. Contains (messages ++ more) (Message.Asked (length seats) n) in
    subst C (sym e.0) (subst D first (Contains-append_right messages more (Message.Asked (length seats) 0) (first_contained (Message.Asked (length seats) 0) []))))
    (λ e. Contains-append_left messages (Message.Asked (length seats) 0 ∷ []) (Message.Asked j place) (all (Message.Asked j place) (subst (λ (x : Seated). place < length x.requests) e there)))
    (at_end seats s j)
all_started seats s messages all one none (Message.Said j place) there = ⊎_elim
    (λ (e : (j ≡ length seats) × (seat_at (seats ++ s ∷ []) j ≡ s) × (seat_at seats j ≡ empty_seat)).
    let within : place < length s.replies = subst (λ (x : Seated). place < length x.replies) e.1 there in
    let empty : length s.replies ≡ 0 = ap length none in
    absurd (omega (arith, within, empty)))
    (λ e. Contains-append_left messages (Message.Asked (length seats) 0 ∷ []) (Message.Said j place) (all (Message.Said j place) (subst (λ (x : Seated). place < length x.replies) e there)))
    (at_end seats s j)

-- ---- just what is there has a message

-- an element of a list is there, or its place is past the end
is_there : {A B : Type 0} (f : A → B) (o : Option A) (xs : List B) (place : ℕ) → option_map f o ≡ slice_get xs place → IsSome o → place < length xs
is_there f None xs place e some = absurd (cc some)
is_there f (Some a) xs place e some = slice_get_within xs place (f a) (sym e)

there_is : {A B : Type 0} (f : A → B) (o : Option A) (xs : List B) (place : ℕ) → option_map f o ≡ slice_get xs place → place < length xs → IsSome o
there_is f (Some a) xs place e within = refl
there_is f None xs place e within = elim (slice_get_cases xs place).1 [
  | inl found ↦ (let q : None ≡ Some found.0 = e ∙ found.2 in absurd (cc))
  | inr past ↦ (let p = past.0 in absurd (omega (arith, within, p)))
]

each_there : (seats : List Seated) (messages : List Message) (message : Message) → EachIsThere seats messages → Contains messages message → IsThere seats message
each_there seats [] message h among = absurd (none_contained message among)
each_there seats (m ∷ messages) message h among = elim (contained_or m messages message among) [
  | inl same ↦ subst (IsThere seats) same h.0
  | inr more ↦ each_there seats messages message h.1 more
]

pub asked_named : {A : Type 0} (f : A → Request) (seats : List Seated) (messages : List Message) → FlowStands seats messages → (k place : ℕ) (o : Option A) → option_map f o ≡ slice_get (seat_at seats k).requests place
    → IsSome o ↔ Contains messages (Message.Asked k place)
asked_named f seats messages stands k place o is = (
  λ some. stands.all (Message.Asked k place) (is_there f o (seat_at seats k).requests place is some),
  λ among. there_is f o (seat_at seats k).requests place is (each_there seats messages (Message.Asked k place) stands.there among),
)

pub said_named : {A : Type 0} (f : A → Reply) (seats : List Seated) (messages : List Message) → FlowStands seats messages → (k place : ℕ) (o : Option A) → option_map f o ≡ slice_get (seat_at seats k).replies place
    → IsSome o ↔ Contains messages (Message.Said k place)
said_named f seats messages stands k place o is = (
  λ some. stands.all (Message.Said k place) (is_there f o (seat_at seats k).replies place is some),
  λ among. there_is f o (seat_at seats k).replies place is (each_there seats messages (Message.Said k place) stands.there among),
)
