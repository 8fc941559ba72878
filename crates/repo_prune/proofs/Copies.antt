-- The copies of a blob that moves, one of which is awaited.
use Rattle.std.proofs.Common.{arith, Vec, Global, ◌+◌, ◌≡◌, ◌≢◌, ◌++◌, ◌∷◌, [], ℕ, List, length, take, get_or, refl, sym, ap, subst, inl, inr, Contains}
use Rattle.std.specs.declared.cmp.Ordering.TheVariants.{Less}
use Rattle.std.proofs.lemmas.Cmp.{tied_itself}
use Rattle.std.proofs.lemmas.List.{length-append}
use Rattle.std.proofs.lemmas.List.Elements.{Contains-get_or, Contains-append_left, Contains-append_right, Contains-append_cases}
use Rattle.std.proofs.lemmas.List.Quantifiers.{all_pairs_push}
use Rattle.repo_name.proofs.Containing.{none_contained, contained_or, first_contained}
use Rattle.repo_name.specs.declared.kinds.BlobKind.TheVariants.{Tree}
use Rattle.repo_pack.specs.declared.places.Place.{Place}
use Rattle.repo_index.specs.IndexText.{fact_of}
use Rattle.repo_index.specs.Order.{place_cmp, places_total}
use Rattle.repo_index.specs.declared.facts.Fact.{Fact}
use Rattle.repo_wire.specs.declared.messages.Say.{Say}
use Rattle.repo_session.specs.Blobs.{range_of, IsBadBlob}
use Rattle.repo_session.specs.Traces.{Exchange, Trace, ReadFact}
use Rattle.repo_session.proofs.Cataloguing.{fact_stays}
use Rattle.repo_session.proofs.Descending.{received_grows}
use Rattle.repo_writing.specs.Blobs.{HasFact}
use Rattle.repo_prune.specs.PruneStates.{AreReceived, AwaitsCopy, HaveCome, IsTriedBefore}
use Rattle.repo_prune.specs.Pruning.{AreBadCopies, AreFewParts, WasBad, parts_in}
use Rattle.repo_prune.specs.declared.moving.Moving.{Moving}

-- ---- what stays over an exchange

pub received_later : (e : Exchange) (es : Trace) (facts : List Fact) → AreReceived es facts → AreReceived (e ∷ es) facts
received_later e es facts h fact among = let was = h fact among in (was.0, received_grows e es fact.kind was.0 was.1, was.2)

-- no more parts of packs
pub few_later : (e : Exchange) (es : Trace) (i j : ℕ) → parts_in e.ask + i ≡ j → AreFewParts es i → AreFewParts (e ∷ es) j
few_later e es i j more h = record {
  trees = h.trees;
  received = λ x among. received_grows e es Tree x (h.received x among);
  read = h.read;
  apart = h.apart;
  few = (let few = h.few in omega (arith, few, more));
}

pub was_bad : (e : Exchange) (es : Trace) (copies : List Fact) → ((copy : Fact) → Contains copies copy → WasBad es copy) → (copy : Fact) → Contains copies copy → WasBad (e ∷ es) copy
was_bad e es copies h copy among = let was = h copy among in (fact_stays e es copy was.0, (was.1.0, inr was.1.1, was.1.2))

pub bad_later : (e : Exchange) (es : Trace) (facts copies : List Fact) → AreBadCopies es facts copies → AreBadCopies (e ∷ es) facts copies
bad_later e es facts copies h = record { of = h.of; bad = was_bad e es copies h.bad; apart = h.apart }

-- ---- a copy is awaited

-- the first one
pub awaits_first : (es : Trace) (moves : List Fact) (count : ℕ) (awaited : Fact) → HaveCome es moves count → AwaitsCopy es moves count awaited
awaits_first es moves count awaited h = record {
  received = h.received;
  copies = h.bad;
  of = λ copy among. inl (h.tried.of copy among);
  bad = h.tried.bad;
  apart = h.tried.apart;
  parts = h.parts;
}

-- by the same blobs that move, up to the same place
pub awaits_as : (m n : Moving) (i j : ℕ) (awaited : Fact) (es : Trace) → n.moves ≡ m.moves → j ≡ i → AwaitsCopy es m.moves.items i awaited → AwaitsCopy es n.moves.items j awaited
awaits_as m n i j awaited es moves same h =
    subst (λ (v : Vec Fact Global). AwaitsCopy es v.items j awaited) (sym moves) (subst (λ (l : ℕ). AwaitsCopy es m.moves.items l awaited) (sym same) h)

-- no place is before itself
not_before_itself : (p : Place) → place_cmp p p ≡ Less → ⊥
not_before_itself p less = let e = tied_itself places_total p in absurd (cc)

-- a copy that was tried isn't the one that is awaited
tried_other : (before : List Fact) (awaited copy : Fact) → ¬ HasFact before awaited.kind awaited.name → IsTriedBefore before awaited copy → copy ≢ awaited
tried_other before awaited copy first (inl has) same = first (subst (λ (f : Fact). HasFact before f.kind f.name) same has)
tried_other before awaited copy first (inr (kind, name, less)) same = not_before_itself awaited.place (subst (λ (f : Fact). place_cmp f.place awaited.place ≡ Less) same less)

-- it was tried before the next one, too
tried_on : (before : List Fact) (awaited copy : Fact) (place : Place) → place_cmp awaited.place place ≡ Less → IsTriedBefore before awaited copy → IsTriedBefore before (fact_of awaited.kind awaited.name place) copy
tried_on before awaited copy place behind (inl has) = inl has
tried_on before awaited copy place behind (inr (kind, name, less)) = inr (kind, name, places_total.trans copy.place awaited.place place less behind)

-- it came bad, and the next one is awaited
pub awaits_next : (e : Exchange) (es : Trace) (moves : List Fact) (count : ℕ) (awaited : Fact) (place : Place) (x : List ℕ) → ReadFact es awaited → e.ask ≡ range_of awaited → e.say ≡ Say.Bytes x → IsBadBlob awaited x
    → ¬ HasFact (take count moves) awaited.kind awaited.name → place_cmp awaited.place place ≡ Less → AwaitsCopy es moves count awaited → AwaitsCopy (e ∷ es) moves count (fact_of awaited.kind awaited.name place)
awaits_next e es moves count awaited place x read is said bad first behind h =
    let before : List Fact = take count moves in
    let next : Fact = fact_of awaited.kind awaited.name place in
    let now : WasBad (e ∷ es) awaited = (fact_stays e es awaited read, (x, inl (is, said), bad)) in
    let one : parts_in e.ask ≡ 1 = ap parts_in is in
    let long = length-append h.copies (awaited ∷ []) in
    let more : parts_in e.ask + (count + length h.copies) ≡ count + length (h.copies ++ awaited ∷ []) = omega (arith, one, long) in
    record {
      received = received_later e es before h.received;
      copies = h.copies ++ awaited ∷ [];
      of = λ copy among. elim (Contains-append_cases h.copies (awaited ∷ []) copy among) [
        | inl old ↦ tried_on before awaited copy place behind (h.of copy old)
        | inr last ↦ elim (contained_or awaited [] copy last) [
          | inl same ↦ subst (IsTriedBefore before next) same (inr (refl, refl, behind))
          | inr none ↦ absurd (none_contained copy none)
        ]
      ];
      bad = λ copy among. elim (Contains-append_cases h.copies (awaited ∷ []) copy among) [
        | inl old ↦ was_bad e es h.copies h.bad copy old
        | inr last ↦ elim (contained_or awaited [] copy last) [ inl same ↦ subst (WasBad (e ∷ es)) same now | inr none ↦ absurd (none_contained copy none) ]
      ];
      apart = all_pairs_push (λ (a b : Fact). a ≢ b) h.copies awaited h.apart (λ i d within. (
          let copy : Fact = get_or h.copies i d in
          tried_other before awaited copy first (h.of copy (Contains-get_or h.copies i d within))));
      parts = few_later e es (count + length h.copies) (count + length (h.copies ++ awaited ∷ [])) more h.parts;
    }

-- it came, and those that came bad are of the blobs up to its own
pub copies_tried : (e : Exchange) (es : Trace) (moves : List Fact) (count : ℕ) (fact awaited : Fact) → fact.kind ≡ awaited.kind → fact.name ≡ awaited.name → (h : AwaitsCopy es moves count awaited)
    → AreBadCopies (e ∷ es) (take count moves ++ fact ∷ []) h.copies
copies_tried e es moves count fact awaited kind name h = record {
  of = λ copy among. of_one copy (h.of copy among);
  bad = was_bad e es h.copies h.bad;
  apart = h.apart;
}
  where
    before : List Fact
    before = take count moves

    of_one : (copy : Fact) → IsTriedBefore before awaited copy → HasFact (before ++ fact ∷ []) copy.kind copy.name
    of_one copy (inl has) = (has.0, Contains-append_left before (fact ∷ []) (fact_of copy.kind copy.name has.0) has.1)
    of_one copy (inr (k, n, less)) =
        let of_kind : fact.kind ≡ copy.kind = cc (kind, k) in
        let of_name : fact.name ≡ copy.name = cc (name, n) in
        let is : fact ≡ fact_of copy.kind copy.name fact.place = λ i. record { kind = of_kind i; name = of_name i; place = fact.place } in
        (fact.place, subst (Contains (before ++ fact ∷ [])) is (Contains-append_right before (fact ∷ []) fact (first_contained fact [])))
