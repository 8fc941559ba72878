-- What a tree spells first is the first of all that it spells.
use Rattle.std.proofs.Common.{arith, ◌≡◌, ◌<◌, ◌-◌, ◌++◌, ◌∷◌, [], ℕ, zero, suc, Bool, true, false, List, Some, None, length, take, flat_map, refl, sym, ap, subst, inl, inr, append_assoc, ◌∙◌}
use Rattle.std.proofs.lemmas.List.{append-nil}
use Rattle.repo_name.specs.declared.kinds.BlobKind.{BlobKind}
use Rattle.repo_name.specs.declared.names.Name.{Name}
use Rattle.repo_tree.specs.declared.entries.Entry.{Entry}
use Rattle.repo_tree.specs.declared.nodes.Node.{Node}
use Rattle.repo_tree.specs.declared.nodes.NodeKind.{NodeKind}
use Rattle.repo_tree.specs.Laws.{Agree}
use Rattle.repo_tree.specs.Parts.{Blobs, Chain, IsDirectory}
use Rattle.repo_tree.specs.Spelling.{Joined, NodeSpells, NodesSpell, Spells, greatest_depth, dir_entry, file_entry}
use Rattle.repo_tree.proofs.DirectoryLemmas.{part_once, tree_once}
use Rattle.repo_tree.proofs.SpellingLemmas.{has_nodes, spells_once}
use Rattle.repo_restore.specs.Beginnings.{FirstChain, HasFirstNodes, NodeSpellsFirst, SpellsFirstTo}
use Rattle.repo_restore.specs.Laws.{AreFirstOf, FirstIsOfAll}
use Rattle.repo_restore.proofs.Beginnings.{one_deeper}

-- ---- bytes

joined_once : (B C : Blobs) → Agree B C → (names : List Name) (x y : List ℕ) → Joined B names x → Joined C names y → x ≡ y
joined_once B C agree [] x y h g = h ∙ sym g
joined_once B C agree (n ∷ names) x y h g =
    let first : h.0 ≡ g.0 = agree BlobKind.Content h.0 g.0 h.2 g.2 (h.3 ∙ sym g.3) in
    let rest : h.1 ≡ g.1 = joined_once B C agree names h.1 g.1 h.4 g.4 in
    h.5 ∙ ap (λ xs. xs ++ h.1) first ∙ ap (λ xs. g.0 ++ xs) rest ∙ sym g.5

joined_first : (B C : Blobs) → Agree B C → (names : List Name) (sent : ℕ) (x y : List ℕ) → Joined B (take sent names) x → Joined C names y → (more : List ℕ) × (y ≡ x ++ more)
joined_first B C agree [] zero x y h g = (y, ap (λ xs. xs ++ y) (sym h))
joined_first B C agree [] (suc sent) x y h g = (y, ap (λ xs. xs ++ y) (sym h))
joined_first B C agree (n ∷ names) zero x y h g = (y, ap (λ xs. xs ++ y) (sym h))
joined_first B C agree (n ∷ names) (suc sent) x y h g =
    let first : h.0 ≡ g.0 = agree BlobKind.Content h.0 g.0 h.2 g.2 (h.3 ∙ sym g.3) in
    let rest = joined_first B C agree names sent h.1 g.1 h.4 g.4 in
    (rest.0, g.5 ∙ ap (λ xs. xs ++ g.1) (sym first) ∙ ap (λ xs. h.0 ++ xs) rest.1 ∙ sym (append_assoc h.0 h.1 rest.0) ∙ ap (λ xs. xs ++ rest.0) (sym h.5))

-- ---- nodes

abbrev joined : List (List Node) → List Node
joined parts = flat_map (λ part. part) parts

same_next : (n m : Name) → Some n ≡ Some m → n ≡ m
same_next n m h = cc

chain_first : (B C : Blobs) → Agree B C → (t : Name) (f g : List Node) (fs gs : List (List Node)) → FirstChain B t f fs → Chain C t g gs → (others : List Node) × (g ++ joined gs ≡ (f ++ joined fs) ++ others)
chain_first B C agree t f g [] [] h k =
    let same : f ≡ g = (part_once B C agree t f g h.0 None h.1 k).0 in
    ([], ap (λ ns. ns ++ []) (sym same) ∙ ap (λ ns. f ++ ns) refl ∙ sym (append_assoc f [] []))
chain_first B C agree t f g [] (s ∷ gs) h k =
    let same : f ≡ g = (part_once B C agree t f g h.0 (Some k.0) h.1 k.1).0 in
    (joined (s ∷ gs), ap (λ ns. ns ++ joined (s ∷ gs)) (sym same) ∙ sym (append_assoc f [] (joined (s ∷ gs))))
chain_first B C agree t f g (r ∷ fs) [] h k = let e = (part_once B C agree t f g (Some h.0) None h.1 k).1 in absurd (cc)
chain_first B C agree t f g (r ∷ fs) (s ∷ gs) h k =
    let here = part_once B C agree t f g (Some h.0) (Some k.0) h.1 k.1 in
    let on : k.0 ≡ h.0 = sym (same_next h.0 k.0 here.1) in
    let rest = chain_first B C agree h.0 r s fs gs h.3 (subst (λ u. Chain C u s gs) on k.3) in
    (rest.0, ap (λ ns. ns ++ joined (s ∷ gs)) (sym here.0) ∙ ap (λ ns. f ++ ns) rest.1 ∙ sym (append_assoc f (joined (r ∷ fs)) rest.0))

has_first : (version : ℕ) (B C : Blobs) → Agree B C → (t : Name) (nodes all : List Node) → HasFirstNodes version B t nodes → IsDirectory version C t all → (others : List Node) × (all ≡ nodes ++ others)
has_first (suc (suc zero)) B C agree t nodes all h d =
    let r = chain_first B C agree t h.0 d.first h.1 d.more h.3 d.chain in
    (h.2 ++ r.0, d.joined ∙ r.1 ∙ ap (λ ns. ns ++ r.0) h.4 ∙ append_assoc nodes h.2 r.0)
has_first _ B C agree t nodes all h d = (h.0, sym (tree_once B C agree t (nodes ++ h.0) all h.1 d))

-- ---- entries

node_once : (version : ℕ) (B C : Blobs) → Agree B C → (path : List (List ℕ)) (what : NodeKind) (d e : List Entry) → NodeSpells B (Spells version B) path what d → NodeSpells C (Spells version C) path what e → d ≡ e
node_once version B C agree path (NodeKind.File size content) d e h g = h.3 ∙ ap (λ b. file_entry path b ∷ []) (joined_once B C agree content h.0 g.0 h.1 g.1) ∙ sym g.3
node_once version B C agree path (NodeKind.Dir subtree) d e h g =
    h.2 ∙ ap (λ i. dir_entry path ∷ i) (spells_once version B C agree (greatest_depth - length path) subtree path h.0 g.0 h.1 g.1) ∙ sym g.2

nodes_first : (version : ℕ) (B C : Blobs) → Agree B C → (path : List (List ℕ)) (nodes others : List Node) (d e : List Entry) → NodesSpell B (Spells version B) path nodes d → NodesSpell C (Spells version C) path (nodes ++ others) e
    → (rest : List Entry) × NodesSpell C (Spells version C) path others rest × (e ≡ d ++ rest)
nodes_first version B C agree path [] others d e h g = (e, g, ap (λ es. es ++ e) (sym h))
nodes_first version B C agree path (node ∷ nodes) others d e h g =
    let first : h.0 ≡ g.0 = node_once version B C agree (path ++ node.name ∷ []) node.what h.0 g.0 h.2 g.2 in
    let r = nodes_first version B C agree path nodes others h.1 g.1 h.3 g.3 in
    (r.0, r.1, g.4 ∙ ap (λ es. es ++ g.1) (sym first) ∙ ap (λ es. h.0 ++ es) r.2 ∙ sym (append_assoc h.0 h.1 r.0) ∙ ap (λ es. es ++ r.0) (sym h.4))

-- behind some, and with some behind them
between : (within : Bool) (before own all rest : List Entry) → AreFirstOf within own all → AreFirstOf within (before ++ own) (before ++ (all ++ rest))
between false before own all rest h =
    (h.0 ++ rest, ap (λ es. before ++ (es ++ rest)) h.1 ∙ ap (λ es. before ++ es) (append_assoc own h.0 rest) ∙ sym (append_assoc before own (h.0 ++ rest)))
between true before own all rest (b, path, bytes, more, r, is, of) = (
  before ++ b,
  path,
  bytes,
  more,
  r ++ rest,
  ap (λ es. before ++ es) is ∙ sym (append_assoc before b (file_entry path bytes ∷ [])),
  ap (λ es. before ++ (es ++ rest)) of ∙ ap (λ es. before ++ es) (append_assoc b (file_entry path (bytes ++ more) ∷ r) rest) ∙ sym (append_assoc before b (file_entry path (bytes ++ more) ∷ (r ++ rest))),
)

none_first : (within : Bool) (first all : List Entry) → within ≡ false → first ≡ [] → AreFirstOf within first all
none_first within first all shut none = subst (λ (b : Bool). AreFirstOf b first all) (sym shut) (all, ap (λ es. es ++ all) (sym none))

-- what the next node spells first, where its subtree does so
node_first : (depth version : ℕ) (B C : Blobs) → Agree B C → (path : List (List ℕ)) (what : NodeKind) (within : Bool) (own all : List Entry)
    → ((t : Name) (first entries : List Entry) → SpellsFirstTo version depth B t path within first → Spells version C t path entries → AreFirstOf within first entries) → NodeSpellsFirst B (SpellsFirstTo version depth B) path what within own
    → NodeSpells C (Spells version C) path what all → AreFirstOf within own all
node_first depth version B C agree path (NodeKind.File size content) within own all sub h g =
    let r = joined_first B C agree content h.1 h.2 g.0 h.3 g.1 in
    let here : AreFirstOf true own all = ([], path, h.2, r.0, [], h.5, g.3 ∙ ap (λ b. file_entry path b ∷ []) r.1) in
    subst (λ (b : Bool). AreFirstOf b own all) (sym h.0) here
node_first depth version B C agree path (NodeKind.Dir subtree) within own all sub h g =
    let inside = between within (dir_entry path ∷ []) h.0 g.0 [] (sub subtree h.0 g.0 h.1 g.1) in
    subst (λ es. AreFirstOf within es all) (sym h.2) (subst (λ es. AreFirstOf within (dir_entry path ∷ h.0) es) (ap (λ es. dir_entry path ∷ es) (append-nil g.0) ∙ sym g.2) inside)

first_to : (depth version : ℕ) (B C : Blobs) → Agree B C → (t : Name) (path : List (List ℕ)) (within : Bool) (first all : List Entry) → depth ≡ greatest_depth - length path → SpellsFirstTo version depth B t path within first → Spells version C t path all
    → AreFirstOf within first all
first_to zero version B C agree t path within first all is h s = none_first within first all h.0 h.1
first_to (suc depth) version B C agree t path within first all is (inl none) s = none_first within first all none.0 none.1
first_to (suc depth) version B C agree t path within first all is (inr (inl some)) s =
    let lt : length path < greatest_depth = omega (arith, is) in
    let d = has_nodes version C t path all lt s in
    let others = has_first version B C agree t some.1.0 d.0 some.1.1 d.1 in
    let r = nodes_first version B C agree path some.1.0 others.0 first all some.1.2 (subst (λ ns. NodesSpell C (Spells version C) path ns all) others.1 d.2) in
    subst (λ (b : Bool). AreFirstOf b first all) (sym some.0) (r.0, r.2)
first_to (suc depth) version B C agree t path within first all is (inr (inr h)) s =
    let lt : length path < greatest_depth = omega (arith, is) in
    let d = has_nodes version C t path all lt s in
    let others = has_first version B C agree t (h.nodes ++ h.next ∷ []) d.0 h.has d.1 in
    let nodes : d.0 ≡ h.nodes ++ (h.next ∷ others.0) = others.1 ∙ append_assoc h.nodes (h.next ∷ []) others.0 in
    let r = nodes_first version B C agree path h.nodes (h.next ∷ others.0) h.before all h.spelled (subst (λ ns. NodesSpell C (Spells version C) path ns all) nodes d.2) in
    let to : List (List ℕ) = path ++ h.next.name ∷ [] in
    let left : depth ≡ greatest_depth - length to = omega (arith, is, one_deeper path h.next.name lt) in
    let own = node_first depth version B C agree to h.next.what within h.own r.1.0 (λ u f es p q. first_to depth version B C agree u to within f es left p q) h.begun r.1.2 in
    let both = between within h.before h.own r.1.0 r.1.1 own in
    subst (λ es. AreFirstOf within es all) (sym h.whole) (subst (λ es. AreFirstOf within (h.before ++ h.own) es) (ap (λ es. h.before ++ es) (sym r.1.4) ∙ sym r.2) both)

pub first_is_of_all : (B C : Blobs) → FirstIsOfAll B C
first_is_of_all B C version agree t path within first all h s = first_to (greatest_depth - length path) version B C agree t path within first all refl h s
