-- An index that lists the items of a pack is exact for it.
use Rattle.std.proofs.Common.{◌≡◌, ◌≢◌, ◌++◌, ◌∷◌, [], ℕ, zero, suc, List, length, Some, refl, ap, sym, ◌∙◌, subst, inl, inr, Contains, arith}
use Rattle.std.specs.Prelude.{slice_get}
use Rattle.std.proofs.lemmas.List.Elements.{All-contains, Contains-append_left, Contains-append_right, Contains-append_cases}
use Rattle.std.specs.List.{All}
use Rattle.repo_name.specs.declared.names.Name.{Name}
use Rattle.repo_pack.specs.PackLayout.{Item, IsWithin}
use Rattle.repo_index.specs.IndexText.{facts_in}
use Rattle.repo_index.specs.Exactness.{fact_at, AreFactsAt, IsExactFor, ListsItems}
use Rattle.repo_index.specs.IndexWriting.{AreLawful}
use Rattle.repo_index.specs.declared.facts.Fact.{Fact}
use Rattle.repo_index.specs.declared.facts.PackFacts.{PackFacts}
use Rattle.repo_index.proofs.LookupLemmas.{facts_split}
use Rattle.repo_name.proofs.Containing.{contains_got, stands_at, flat_contains, contains_flat}

-- a list of the same length has something there too
get_both : {X Y : Type 0} (xs : List X) (ys : List Y) (k : ℕ) (x : X) → length xs ≡ length ys → slice_get xs k ≡ Some x → (y : Y) × (slice_get ys k ≡ Some y)
get_both [] ys zero x e h = cc h
get_both [] ys (suc k) x e h = cc h
get_both (z ∷ xs) [] k x e h = absurd (omega (arith, e))
get_both (z ∷ xs) (y ∷ ys) zero x e h = (y, refl)
get_both (z ∷ xs) (y ∷ ys) (suc k) x e h = let f : length xs ≡ length ys = omega (arith, e) in get_both xs ys k x f h

pub listed_exact : (before after : List PackFacts) (pack : Name) (items : List Item) (facts : List Fact) → AreFactsAt pack items facts
    → ((fact : Fact) → Contains (facts_in before ++ facts_in after) fact → fact.place.pack ≢ pack)
    → IsExactFor (before ++ record { pack = pack; facts = facts } ∷ after) pack items
listed_exact before after pack items facts are others fact =
    let all : facts_in (before ++ record { pack = pack; facts = facts } ∷ after) ≡ facts_in before ++ (facts ++ facts_in after) =
    facts_split before (record { pack = pack; facts = facts } ∷ after) in (
      λ h. elim (Contains-append_cases (facts_in before) (facts ++ facts_in after) fact (subst (λ (fs : List Fact). Contains fs fact) all h.0)) [
        | inl first ↦ absurd (others fact (Contains-append_left (facts_in before) (facts_in after) fact first) h.1)
        | inr rest ↦ elim (Contains-append_cases facts (facts_in after) fact rest) [
          | inl own ↦
              let k = stands_at facts fact own in
              let item = get_both facts items k.0 fact are.count k.1 in
              let there = are.each k.0 item.0 item.1 in
              let same : fact ≡ fact_at pack items k.0 item.0 = cc (k.1, there) in
              (k.0, item.0, item.1, same)
          | inr last ↦ absurd (others fact (Contains-append_right (facts_in before) (facts_in after) fact last) h.1)
        ]
      ],
      λ h.
          let there = contains_got facts h.0 (fact_at pack items h.0 h.1) (are.each h.0 h.1 h.2) in
          let own = subst (Contains facts) (sym h.3) there in (
            subst (λ (fs : List Fact). Contains fs fact) (sym all)
                (Contains-append_right (facts_in before) (facts ++ facts_in after) fact (Contains-append_left facts (facts_in after) fact own)),
            ap (λ (f : Fact). f.place.pack) h.3,
          ),
    )

-- a fact at an item's place is one of the facts of the items, and each of these is at one
pub fact_there : (pack : Name) (items : List Item) (facts : List Fact) (k : ℕ) (item : Item) → AreFactsAt pack items facts
    → slice_get items k ≡ Some item → Contains facts (fact_at pack items k item)
fact_there pack items facts k item are h = contains_got facts k (fact_at pack items k item) (are.each k item h)

pub item_there : (pack : Name) (items : List Item) (facts : List Fact) (fact : Fact) → AreFactsAt pack items facts → Contains facts fact
    → (k : ℕ) × (item : Item) × (slice_get items k ≡ Some item) × (fact ≡ fact_at pack items k item)
item_there pack items facts fact are h =
    let k = stands_at facts fact h in
    let item = get_both facts items k.0 fact are.count k.1 in
    let there = are.each k.0 item.0 item.1 in
    let same : fact ≡ fact_at pack items k.0 item.0 = cc (k.1, there) in
    (k.0, item.0, item.1, same)

pub each_listed_exact : (packs : List PackFacts) (pack : Name) (items : List Item) → AreLawful packs → ListsItems packs pack items → IsExactFor packs pack items
each_listed_exact packs pack items lawful lists fact = (
  λ h.
      let listing = flat_contains (λ p. p.facts) packs fact h.0 in
      let own = All-contains (λ (p : PackFacts). All (λ f. (f.place.pack ≡ p.pack) × IsWithin f.place.offset f.place.length) p.facts) packs listing.0 lawful listing.1 in
      let is = All-contains (λ (f : Fact). (f.place.pack ≡ listing.0.pack) × IsWithin f.place.offset f.place.length) listing.0.facts fact own listing.2 in
      item_there pack items listing.0.facts fact (lists.each listing.0 listing.1 (sym is.0 ∙ h.1)) listing.2,
  λ h.
      let are = lists.each lists.some.0 lists.some.1 lists.some.2 in
      let there = subst (Contains lists.some.0.facts) (sym h.3) (fact_there pack items lists.some.0.facts h.0 h.1 are h.2) in
      (contains_flat (λ p. p.facts) packs lists.some.0 fact lists.some.1 there, ap (λ (f : Fact). f.place.pack) h.3),
)
