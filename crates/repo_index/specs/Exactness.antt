-- An index, and the items of a pack.
use Rattle.std.specs.Prelude.{◌≡◌, ◌≢◌, ◌↔◌, ◌++◌, ◌∷◌, [], ℕ, List, length, slice_get, Some, Contains}
use Rattle.std.specs.List.{All}
use Rattle.repo_name.specs.declared.names.Name.{Name}
use Rattle.repo_pack.specs.PackLayout.{Item, IsItem, offset_of}
use Rattle.repo_pack.specs.PackWriting.{place_of}
use Rattle.repo_pack.specs.declared.places.PlacedBlob.{PlacedBlob}
use Rattle.repo_index.specs.IndexText.{fact_of, facts_in}
use Rattle.repo_index.specs.IndexWriting.{AreLawful}
use Rattle.repo_index.specs.Lookups.{Joins, AreFactsOf}
use Rattle.repo_index.specs.declared.facts.Fact.{Fact}
use Rattle.repo_index.specs.declared.facts.PackFacts.{PackFacts}

-- the fact of an item that stands at this index among the items of a pack
abbrev pub fact_at : Name → List Item → ℕ → Item → Fact
fact_at pack items k item = fact_of item.kind item.name (place_of pack (offset_of items k) item)

-- the fact of a blob that is placed
abbrev pub fact_in : PlacedBlob → Fact
fact_in blob = fact_of blob.kind blob.name blob.place

-- an index is exact for a pack: its facts of the pack are exactly those of these items
abbrev pub IsExactFor : List PackFacts → Name → List Item → Type 0
IsExactFor packs pack items = (fact : Fact) → (Contains (facts_in packs) fact × (fact.place.pack ≡ pack))
    ↔ ((k : ℕ) × (item : Item) × (slice_get items k ≡ Some item) × (fact ≡ fact_at pack items k item))

-- these are the facts of a pack of these items, in the items' order
pub record AreFactsAt (pack : Name) (items : List Item) (facts : List Fact) : Type 0 where
  pub count : length facts ≡ length items
  pub each : (k : ℕ) (item : Item) → slice_get items k ≡ Some item → slice_get facts k ≡ Some (fact_at pack items k item)

-- an index that lists a pack with the facts of its items, and has no other fact of it, is exact for it
abbrev pub ListedIsExact : Type 0
ListedIsExact = (before after : List PackFacts) (pack : Name) (items : List Item) (facts : List Fact) → AreFactsAt pack items facts
    → ((fact : Fact) → Contains (facts_in before ++ facts_in after) fact → fact.place.pack ≢ pack)
    → IsExactFor (before ++ record { pack = pack; facts = facts } ∷ after) pack items

-- an index lists a pack, once or more, and each time the facts of these items
pub record ListsItems (packs : List PackFacts) (pack : Name) (items : List Item) : Type 0 where
  pub some : (listed : PackFacts) × Contains packs listed × (listed.pack ≡ pack)
  pub each : (listed : PackFacts) → Contains packs listed → listed.pack ≡ pack → AreFactsAt pack items listed.facts

-- an index whose facts are of the packs that list them, and that lists a pack with the facts of its items, is exact for it
abbrev pub EachListedIsExact : Type 0
EachListedIsExact = (packs : List PackFacts) (pack : Name) (items : List Item) → AreLawful packs → ListsItems packs pack items → IsExactFor packs pack items

-- An index is exact for a pack just where two lists are one: the facts of the pack that a look-up gives which holds this
-- index alone, and the facts of the pack's items in their order.
abbrev pub ExactIsSame : Type 0
ExactIsSame = (packs : List PackFacts) (facts : List Fact) (pack : Name) (items : List Item) (own listed : List Fact)
    → Joins [] (facts_in packs) facts → AreFactsOf facts pack own → AreFactsAt pack items listed → All IsItem items
    → IsExactFor packs pack items ↔ (own ≡ listed)
