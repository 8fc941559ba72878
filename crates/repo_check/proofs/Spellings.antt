-- What stands in a pack, what stands at a path, and what nodes spell together.
use Rattle.std.proofs.Common.{◌≡◌, ◌++◌, ◌∷◌, [], ℕ, zero, suc, List, Option, Some, length, slice_get, refl, sym, ap, subst, ◌∙◌, Contains}
use Rattle.std.proofs.lemmas.Option.{slice_get_within, get_or_from_slice_get}
use Rattle.std.specs.List.{All}
use Rattle.repo_name.specs.Naming as naming
use Rattle.repo_name.specs.Ranges.{range}
use Rattle.repo_name.specs.declared.names.Name.{Name}
use Rattle.repo_pack.specs.PackLayout.{Item, IsNamed, IsTruePack, offset_of}
use Rattle.repo_pack.proofs.Offsets.{range_is}
use Rattle.repo_index.specs.declared.facts.Fact.{Fact}
use Rattle.repo_index.specs.declared.facts.PackFacts.{PackFacts}
use Rattle.repo_index.specs.Exactness.{IsExactFor}
use Rattle.repo_index.specs.IndexText.{facts_in}
use Rattle.repo_tree.specs.Parts.{Blobs, IsPart, IsPartBy, IsTree, ListsBy}
use Rattle.repo_tree.specs.Spelling.{NodeSpells, NodesSpell}
use Rattle.repo_tree.specs.declared.entries.Entry.{Entry}
use Rattle.repo_tree.specs.declared.nodes.Node.{Node}
use Rattle.repo_tree.specs.declared.nodes.NodeKind.{NodeKind}
use Rattle.repo_name.proofs.Containing.{first_contained, later_contained}
use Rattle.repo_session.specs.Trees.{Under}

named_at : (items : List Item) (k : ℕ) (item : Item) → All IsNamed items → slice_get items k ≡ Some item → IsNamed item
named_at items k item each at = subst IsNamed (get_or_from_slice_get items k item item at) (each k item (slice_get_within items k item at))

-- the blob that a fact names, in a pack
pub record BlobAt (pack : List ℕ) (fact : Fact) : Type 0 where
  pub bytes : List ℕ
  pub stands : range pack fact.place.offset fact.place.length ≡ Some bytes
  pub named : naming.name bytes ≡ fact.name
  pub len : length bytes ≡ fact.place.length

-- it is there, where an index is exact for the pack
pub blob_at : (pack : List ℕ) (items : List Item) (packs : List PackFacts) (fact : Fact) → IsTruePack pack items → IsExactFor packs fact.place.pack items → Contains (facts_in packs) fact → BlobAt pack fact
blob_at pack items packs fact true_pack exact among =
    let at = (exact fact).0 (among, refl) in
    let item = at.1 in
    let place : range pack (offset_of items at.0) (length item.bytes) ≡ Some item.bytes = range_is pack items at.0 item true_pack.pack at.2 in
    let offset : fact.place.offset ≡ offset_of items at.0 = ap (λ (f : Fact). f.place.offset) at.3 in
    let len : fact.place.length ≡ length item.bytes = ap (λ (f : Fact). f.place.length) at.3 in
    let name : fact.name ≡ item.name = ap (λ (f : Fact). f.name) at.3 in
    record {
      bytes = item.bytes;
      stands = (ap (λ o. range pack o fact.place.length) offset ∙ ap (λ l. range pack (offset_of items at.0) l) len) ∙ place;
      named = sym (named_at items at.0 item true_pack.named at.2) ∙ sym name;
      len = sym len;
    }

-- a tree of the directory of a tree that a tree lists
pub under_step : (version : ℕ) (B : Blobs) (root : Name) (path : List (List ℕ)) (above : Name) (nodes : List Node) (name : List ℕ) (sub t : Name) → Under version B root path above → ListsBy version B above nodes
    → Contains nodes (record { name = name; what = NodeKind.Dir sub }) → IsPartBy version B sub t → Under version B root (path ++ name ∷ []) t
under_step version B root [] above nodes name sub t under lists among belongs = (sub, record { part = above; own = nodes; belongs = under; lists = lists; among = among }, belongs)
under_step version B root (first ∷ path) above nodes name sub t under lists among belongs = (under.0, under.1, under_step version B under.0 path above nodes name sub t under.2 lists among belongs)

-- a part's text is a tree's
part_is_tree : (B : Blobs) (t : Name) (nodes : List Node) (next : Option Name) → IsPart B t nodes next → IsTree B t nodes
part_is_tree B t nodes next h = record { text = h.text; among = h.among; named = h.named; reads = record { root = h.reads.root; json = h.reads.json; tree = h.reads.tree } }

of_part : (B : Blobs) (t : Name) (nodes : List Node) → ListsBy 2 B t nodes → IsTree B t nodes
of_part B t nodes h = part_is_tree B t nodes h.0 h.1

of_tree_alone : (B : Blobs) (t : Name) (nodes : List Node) → IsTree B t nodes → IsTree B t nodes
of_tree_alone B t nodes h = h

pub lists_tree : (version : ℕ) (B : Blobs) (t : Name) (nodes : List Node) → ListsBy version B t nodes → IsTree B t nodes
lists_tree (suc (suc zero)) = of_part
lists_tree _ = of_tree_alone

-- each node spells something, so they all do
pub each_spelled : (H : Blobs) (Sub : Name → List (List ℕ) → List Entry → Type 0) (path : List (List ℕ)) (nodes : List Node)
    → ((node : Node) → Contains nodes node → (entries : List Entry) × NodeSpells H Sub (path ++ node.name ∷ []) node.what entries) → (entries : List Entry) × NodesSpell H Sub path nodes entries
each_spelled H Sub path [] f = ([], refl)
each_spelled H Sub path (node ∷ nodes) f =
    let a = f node (first_contained node nodes) in
    let r = each_spelled H Sub path nodes (λ m c. f m (later_contained node nodes m c)) in
    (a.0 ++ r.0, (a.0, r.0, a.1, r.1, refl))
