-- The text that is written of an index.
use Rattle.std.specs.Prelude.{◌≡◌, ◌≢◌, ◌≤◌, ◌∷◌, [], ℕ, List, length, codes, All}
use Rattle.serde_json.specs.Data.{Data, string, number, unsigned, array, object, Items, no_items, item, member, no_members}
use Rattle.serde_json.specs.Written.{compact_text}
use Rattle.repo_name.specs.Naming.{hex_of, IsName}
use Rattle.repo_pack.specs.PackLayout.{IsWithin}
use Rattle.repo_index.specs.IndexText.{type_text, IsFact, facts_in}
use Rattle.repo_index.specs.declared.facts.Fact.{Fact}
use Rattle.repo_index.specs.declared.facts.PackFacts.{PackFacts}

-- the object of a blob: its members in the order of their keys
abbrev pub fact_data : Fact → Data
fact_data f = object (member (codes "id") (string (hex_of f.name)) (member (codes "length") (number (unsigned f.place.length))
    (member (codes "offset") (number (unsigned f.place.offset)) (member (codes "type") (string (type_text f.kind)) no_members))))

-- the objects of some blobs
abbrev pub fact_items : List Fact → Items
fact_items [] = no_items
fact_items (f ∷ fs) = item (fact_data f) (fact_items fs)

-- the object of a pack
abbrev pub pack_data : PackFacts → Data
pack_data p = object (member (codes "blobs") (array (fact_items p.facts)) (member (codes "id") (string (hex_of p.pack)) no_members))

-- the objects of some packs
abbrev pub pack_items : List PackFacts → Items
pack_items [] = no_items
pack_items (p ∷ ps) = item (pack_data p) (pack_items ps)

-- the object of an index, which says of none that it supersedes it
abbrev pub index_data : List PackFacts → Data
index_data packs = object (member (codes "packs") (array (pack_items packs)) (member (codes "supersedes") (array no_items) no_members))

-- its text, with no spaces
abbrev pub index_text : List PackFacts → List ℕ
index_text packs = compact_text (index_data packs)

-- each fact is of the pack that lists it, and within range
abbrev pub AreLawful : List PackFacts → Type 0
AreLawful packs = All (λ p. All (λ f. (f.place.pack ≡ p.pack) × IsWithin f.place.offset f.place.length) p.facts) packs

-- at most 24,095 facts, and no pack without one
pub record AreFew (packs : List PackFacts) : Type 0 where
  pub few : length (facts_in packs) ≤ 24_095
  pub each : All (λ p. p.facts ≢ []) packs

-- packs as programs make them
abbrev pub ArePacks : List PackFacts → Type 0
ArePacks packs = All (λ p. IsName p.pack × All IsFact p.facts) packs
