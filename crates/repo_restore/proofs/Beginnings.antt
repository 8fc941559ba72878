-- What trees spell first.
use Rattle.std.proofs.Common.{arith, ◌≡◌, ◌≤◌, ◌<◌, ◌-◌, ◌++◌, ◌∷◌, [], ℕ, zero, suc, Bool, false, List, Option, Some, None, length, take, refl, sym, subst, inl, inr, length-append, ◌∙◌}
use Rattle.std.proofs.lemmas.List.{append-nil}
use Rattle.repo_name.specs.declared.kinds.BlobKind.{BlobKind}
use Rattle.repo_name.specs.declared.names.Name.{Name}
use Rattle.repo_tree.specs.declared.entries.Entry.{Entry}
use Rattle.repo_tree.specs.declared.nodes.Node.{Node}
use Rattle.repo_tree.specs.declared.nodes.NodeKind.{NodeKind}
use Rattle.repo_tree.specs.Laws.{Grows}
use Rattle.repo_tree.specs.Parts.{Blobs, IsTree, IsPart, Chain, IsDirectory}
use Rattle.repo_tree.specs.Spelling.{NodesSpell, Spells, greatest_depth}
use Rattle.repo_tree.specs.TreeText.{AreInOrder}
use Rattle.repo_tree.proofs.SpellingLemmas.{deepest_empty, has_nodes, joined_move, nodes_grown}
use Rattle.repo_session.specs.declared.emissions.Emission.{Emission}
use Rattle.repo_restore.specs.Beginnings.{FirstChain, HasFirstNodes, NodeSpellsFirst, NextSpellsFirst, SpellsFirstTo, SpellsFirst, IsBeginning}

-- nothing
none_to : (version depth : ℕ) (B : Blobs) (t : Name) (path : List (List ℕ)) → SpellsFirstTo version depth B t path false []
none_to version zero B t path = (refl, refl)
none_to version (suc depth) B t path = inl (refl, refl)

pub first_none : (version : ℕ) (B : Blobs) (t : Name) (path : List (List ℕ)) → SpellsFirst version B t path false []
first_none version B t path = none_to version (greatest_depth - length path) B t path

-- how far a node of a directory is from the greatest depth
pub one_deeper : (path : List (List ℕ)) (c : List ℕ) → length path < greatest_depth → greatest_depth - length (path ++ c ∷ []) ≡ greatest_depth - length path - 1
one_deeper path c lt = omega (arith, length-append path (c ∷ []))

-- some first nodes
pub first_nodes : (version : ℕ) (B : Blobs) (t : Name) (path : List (List ℕ)) (nodes : List Node) (entries : List Entry) → length path < greatest_depth → HasFirstNodes version B t nodes → NodesSpell B (Spells version B) path nodes entries
    → SpellsFirst version B t path false entries
first_nodes version B t path nodes entries lt has spelled =
    let depth : ℕ = greatest_depth - length path - 1 in
    let all : suc depth ≡ greatest_depth - length path = omega arith in
    subst (λ (n : ℕ). SpellsFirstTo version n B t path false entries) all (inr (inl (refl, (nodes, has, spelled))))

-- and of the next one what it spells first
node_to : (version : ℕ) (B : Blobs) (path : List (List ℕ)) (c : List ℕ) (what : NodeKind) (within : Bool) (entries : List Entry) → length path < greatest_depth → NodeSpellsFirst B (SpellsFirst version B) (path ++ c ∷ []) what within entries
    → NodeSpellsFirst B (SpellsFirstTo version (greatest_depth - length path - 1) B) (path ++ c ∷ []) what within entries
node_to version B path c (NodeKind.Dir subtree) within entries lt h = (h.0, subst (λ (n : ℕ). SpellsFirstTo version n B subtree (path ++ c ∷ []) within h.0) (one_deeper path c lt) h.1, h.2)
node_to version B path c (NodeKind.File size content) within entries lt h = h

pub first_next : (version : ℕ) (B : Blobs) (t : Name) (path : List (List ℕ)) (nodes : List Node) (next : Node) (within : Bool) (before own : List Entry) → length path < greatest_depth → HasFirstNodes version B t (nodes ++ next ∷ [])
    → NodesSpell B (Spells version B) path nodes before → NodeSpellsFirst B (SpellsFirst version B) (path ++ next.name ∷ []) next.what within own → SpellsFirst version B t path within (before ++ own)
first_next version B t path nodes next within before own lt has spelled begun =
    let depth : ℕ = greatest_depth - length path - 1 in
    let all : suc depth ≡ greatest_depth - length path = omega arith in
    let h : NextSpellsFirst version B (SpellsFirstTo version depth B) t path within (before ++ own) = record {
      nodes = nodes;
      next = next;
      before = before;
      own = own;
      has = has;
      spelled = spelled;
      begun = node_to version B path next.name next.what within own lt begun;
      whole = refl;
    } in
    subst (λ (n : ℕ). SpellsFirstTo version n B t path within (before ++ own)) all (inr (inr h))

-- ---- all that it spells

chain_begins : (B : Blobs) (t : Name) (first : List Node) (more : List (List Node)) → Chain B t first more → FirstChain B t first more
chain_begins B t first [] h = (None, h)
chain_begins B t first (second ∷ more) h = (h.0, h.1, h.2, chain_begins B h.0 second more h.3)

all_first : (version : ℕ) (B : Blobs) (t : Name) (nodes : List Node) → IsDirectory version B t nodes → HasFirstNodes version B t nodes
all_first (suc (suc zero)) B t nodes h =
    (h.first, h.more, [], chain_begins B t h.first h.more h.chain, sym h.joined ∙ sym (append-nil nodes), subst AreInOrder (sym (append-nil nodes)) h.ordered)
all_first _ B t nodes h = ([], subst (λ (ns : List Node). IsTree B t ns) (sym (append-nil nodes)) h)

all_by : (left version : ℕ) (B : Blobs) (t : Name) (path : List (List ℕ)) (entries : List Entry) → left ≡ greatest_depth - length path → Spells version B t path entries → SpellsFirst version B t path false entries
all_by zero version B t path entries is h =
    let deep : greatest_depth ≤ length path = omega (arith, is) in
    subst (λ (es : List Entry). SpellsFirst version B t path false es) (sym (deepest_empty version B t path entries deep h).1) (first_none version B t path)
all_by (suc left) version B t path entries is h =
    let lt : length path < greatest_depth = omega (arith, is) in
    let s = has_nodes version B t path entries lt h in
    first_nodes version B t path s.0 entries lt (all_first version B t s.0 s.1) s.2

pub all_spelled : (version : ℕ) (B : Blobs) (t : Name) (path : List (List ℕ)) (entries : List Entry) → Spells version B t path entries → SpellsFirst version B t path false entries
all_spelled version B t path entries h = all_by (greatest_depth - length path) version B t path entries refl h

-- ---- in a set that grew

tree_grows : (B C : Blobs) → Grows B C → (t : Name) (nodes : List Node) → IsTree B t nodes → IsTree C t nodes
tree_grows B C grows t nodes h = record { text = h.text; among = grows BlobKind.Tree h.text h.among; named = h.named; reads = h.reads }

part_grows : (B C : Blobs) → Grows B C → (t : Name) (nodes : List Node) (next : Option Name) → IsPart B t nodes next → IsPart C t nodes next
part_grows B C grows t nodes next h = record { text = h.text; among = grows BlobKind.Tree h.text h.among; named = h.named; reads = h.reads }

chain_grows : (B C : Blobs) → Grows B C → (t : Name) (first : List Node) (more : List (List Node)) → FirstChain B t first more → FirstChain C t first more
chain_grows B C grows t first [] h = (h.0, part_grows B C grows t first h.0 h.1)
chain_grows B C grows t first (second ∷ more) h = (h.0, part_grows B C grows t first (Some h.0) h.1, h.2, chain_grows B C grows h.0 second more h.3)

has_grows : (version : ℕ) (B C : Blobs) → Grows B C → (t : Name) (nodes : List Node) → HasFirstNodes version B t nodes → HasFirstNodes version C t nodes
has_grows (suc (suc zero)) B C grows t nodes h = (h.0, h.1, h.2, chain_grows B C grows t h.0 h.1 h.3, h.4, h.5)
has_grows _ B C grows t nodes h = (h.0, tree_grows B C grows t (nodes ++ h.0) h.1)

node_grows : (version depth : ℕ) (B C : Blobs) → Grows B C → (path : List (List ℕ)) (what : NodeKind) (within : Bool) (entries : List Entry)
    → ((t : Name) (inside : List Entry) → SpellsFirstTo version depth B t path within inside → SpellsFirstTo version depth C t path within inside)
    → NodeSpellsFirst B (SpellsFirstTo version depth B) path what within entries → NodeSpellsFirst C (SpellsFirstTo version depth C) path what within entries
node_grows version depth B C grows path (NodeKind.Dir subtree) within entries sub h = (h.0, sub subtree h.0 h.1, h.2)
node_grows version depth B C grows path (NodeKind.File size content) within entries sub h =
    (h.0, h.1, h.2, joined_move B C (take h.1 content) h.2 h.3 (λ n is x b same. grows BlobKind.Content x b), h.4, h.5)

first_to_grows : (version depth : ℕ) (B C : Blobs) → Grows B C → (t : Name) (path : List (List ℕ)) (within : Bool) (entries : List Entry) → SpellsFirstTo version depth B t path within entries → SpellsFirstTo version depth C t path within entries
first_to_grows version zero B C grows t path within entries h = h
first_to_grows version (suc depth) B C grows t path within entries (inl none) = inl none
first_to_grows version (suc depth) B C grows t path within entries (inr (inl some)) =
    inr (inl (some.0, (some.1.0, has_grows version B C grows t some.1.0 some.1.1, nodes_grown version B C grows path some.1.0 entries some.1.2)))
first_to_grows version (suc depth) B C grows t path within entries (inr (inr h)) = inr (inr (record {
  nodes = h.nodes;
  next = h.next;
  before = h.before;
  own = h.own;
  has = has_grows version B C grows t (h.nodes ++ h.next ∷ []) h.has;
  spelled = nodes_grown version B C grows path h.nodes h.before h.spelled;
  begun = node_grows version depth B C grows (path ++ h.next.name ∷ []) h.next.what within h.own (λ u inside s. first_to_grows version depth B C grows u (path ++ h.next.name ∷ []) within inside s) h.begun;
  whole = h.whole;
}))

pub beginning_grows : (version : ℕ) (B C : Blobs) → Grows B C → (root : Name) (emitted : List Emission) → IsBeginning version B root emitted → IsBeginning version C root emitted
beginning_grows version B C grows root emitted h = (h.0, h.1, first_to_grows version (greatest_depth - length {A = List ℕ} []) B C grows root [] h.0 _ h.2)
