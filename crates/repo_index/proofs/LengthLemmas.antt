-- How long the text of an index is at most.
use Rattle.std.proofs.Common.{◌≡◌, ◌≢◌, ◌≤◌, ◌<◌, ◌+◌, ◌*◌, ◌^◌, ◌∷◌, [], ℕ, Bool, true, false, List, length, arith, length-append, lit≤, refl, codes, All}
use Rattle.std.proofs.lemmas.Fmt.{length-decimal-le}
use Rattle.std.proofs.lemmas.List.Elements.{All-head, All-tail}
use Rattle.std.specs.Prelude.{decimal}
use Rattle.serde_json.specs.Data.{string, number, unsigned, array, no_items, Members, no_members, member}
use Rattle.serde_json.specs.Written.{compact_text, items_text}
use Rattle.repo_name.specs.Limits.{index_limit}
use Rattle.repo_name.specs.Naming.{hex_of, IsName}
use Rattle.repo_name.specs.declared.kinds.BlobKind.{BlobKind}
use Rattle.repo_name.specs.declared.kinds.BlobKind.TheVariants.{Content, Tree}
use Rattle.repo_json.proofs.LengthLemmas.{plain_length, name_length, member_length, first_length, item_length}
use Rattle.repo_index.specs.IndexText.{type_text, IsFact, facts_in}
use Rattle.repo_index.specs.IndexWriting.{fact_data, fact_items, pack_data, pack_items, index_text, AreFew, ArePacks}
use Rattle.repo_index.specs.declared.facts.Fact.{Fact}
use Rattle.repo_index.specs.declared.facts.PackFacts.{PackFacts}

decimal_short : (n : ℕ) → n < 2 ^ 32 → length (decimal n) ≤ 10
decimal_short n h = length-decimal-le 10 n (omega arith) (omega arith) (omega arith)

type_length : (k : BlobKind) → length (compact_text (string (type_text k))) ≡ 6
type_length Content = plain_length (codes "data") refl
type_length Tree = plain_length (codes "tree") refl

fact_length : (f : Fact) → IsFact f → length (compact_text (fact_data f)) ≤ 127
fact_length f is =
    let fourth : Members = member (codes "type") (string (type_text f.kind)) no_members in
    let third : Members = member (codes "offset") (number (unsigned f.place.offset)) fourth in
    let second : Members = member (codes "length") (number (unsigned f.place.length)) third in
    let a = first_length (codes "id") (string (hex_of f.name)) second refl in
    let b = member_length true (codes "length") (number (unsigned f.place.length)) third refl in
    let c = member_length true (codes "offset") (number (unsigned f.place.offset)) fourth refl in
    let d = member_length true (codes "type") (string (type_text f.kind)) no_members refl in
    omega (arith, a, b, c, d, name_length f.name is.name, decimal_short f.place.length is.place.length, decimal_short f.place.offset is.place.offset, type_length f.kind)

facts_length : (later : Bool) (fs : List Fact) → All IsFact fs → length (items_text later (fact_items fs)) ≤ 1 + 128 * length fs
facts_length later [] is = lit≤ tt
facts_length later (f ∷ fs) is =
    let a = item_length later (fact_data f) (fact_items fs) in
    omega (arith, a, fact_length f (All-head IsFact f fs is), facts_length true fs (All-tail IsFact f fs is))

pack_length : (p : PackFacts) → IsName p.pack → All IsFact p.facts → length (compact_text (pack_data p)) ≤ 127 + 128 * length p.facts
pack_length p named is =
    let second : Members = member (codes "id") (string (hex_of p.pack)) no_members in
    let a = first_length (codes "blobs") (array (fact_items p.facts)) second refl in
    let b = member_length true (codes "id") (string (hex_of p.pack)) no_members refl in
    omega (arith, a, b, name_length p.pack named, facts_length false p.facts is)

packs_length : (later : Bool) (ps : List PackFacts) → ArePacks ps → length (items_text later (pack_items ps)) ≤ 1 + 128 * (length (facts_in ps) + length ps)
packs_length later [] is = lit≤ tt
packs_length later (p ∷ ps) is =
    let M : PackFacts → Type 0 = λ q. IsName q.pack × All IsFact q.facts in
    let first : M p = All-head M p ps is in
    let a = item_length later (pack_data p) (pack_items ps) in
    omega (arith, a, pack_length p first.0 first.1, packs_length true ps (All-tail M p ps is), length-append p.facts (facts_in ps))

-- each fact and each pack adds at most 128 bytes
pub index_length : (packs : List PackFacts) → ArePacks packs → length (index_text packs) ≤ 28 + 128 * (length (facts_in packs) + length packs)
index_length packs is =
    let second : Members = member (codes "supersedes") (array no_items) no_members in
    let a = first_length (codes "packs") (array (pack_items packs)) second refl in
    let b = member_length true (codes "supersedes") (array no_items) no_members refl in
    omega (arith, a, b, packs_length false packs is)

some_facts : (fs : List Fact) → fs ≢ [] → 1 ≤ length fs
some_facts [] h = absurd (h refl)
some_facts (f ∷ fs) h = omega arith

-- where each pack has facts there are as many facts as packs
pub packs_few : (packs : List PackFacts) → All (λ p. p.facts ≢ []) packs → length packs ≤ length (facts_in packs)
packs_few [] each = lit≤ tt
packs_few (p ∷ ps) each =
    let P : PackFacts → Type 0 = λ q. q.facts ≢ [] in
    omega (arith, some_facts p.facts (All-head P p ps each), packs_few ps (All-tail P p ps each), length-append p.facts (facts_in ps))

pub few_short : (packs : List PackFacts) → ArePacks packs → AreFew packs → length (index_text packs) ≤ index_limit
few_short packs is few = omega (arith, index_length packs is, packs_few packs few.each, few.few)
