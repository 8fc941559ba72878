-- To which trees roots lead is what they reach; and how they lead on along a directory's parts.
use Rattle.std.proofs.Common.{◌≡◌, ◌⊎◌, inl, inr, ◌<◌, ◌≤◌, ◌+◌, ◌++◌, ◌∷◌, [], ℕ, zero, suc, Bool, true, List, Some, refl, sym, subst, arith, Contains}
use Rattle.repo_name.specs.declared.kinds.BlobKind.{BlobKind}
use Rattle.repo_name.specs.declared.kinds.BlobKind.TheVariants.{Content, Tree}
use Rattle.repo_name.specs.declared.names.Name.{Name}
use Rattle.repo_name.proofs.Containing.{flat_contains, contains_flat, first_contained, none_contained, contained_or}
use Rattle.repo_tree.specs.Laws.{Grows}
use Rattle.repo_tree.specs.declared.nodes.Node.{Node}
use Rattle.repo_tree.specs.declared.nodes.NodeKind.{NodeKind}
use Rattle.repo_tree.specs.declared.nodes.NodeKind.TheVariants.{File, Dir}
use Rattle.repo_tree.specs.Parts.{Blobs, IsPart, IsPartBy, ListsBy, GoesOn}
use Rattle.repo_tree.specs.Spelling.{ReachTo, NodeReaches}
use Rattle.repo_tree.specs.Versions.{greatest_version, IsKnownTo}
use Rattle.repo_tree.proofs.DirectoryLemmas.{lists_grow, part_grows}
use Rattle.repo_reach.specs.Collected.{tree_blobs, follows_in, version_by, LeadsTo}
use Rattle.repo_reach.specs.Links.{trees_in, content_in, trees_of, content_of}
use Rattle.repo_reach.specs.declared.roots.Root.{Root}

-- what the trees to which roots lead give: themselves; and those above the greatest depth the content that they list
abbrev pub IsGiven : List (List ℕ) → List Root → Bool → ℕ → BlobKind → Name → Type 0
IsGiven texts roots follows total Tree n = (depth : ℕ) × (depth ≤ total) × LeadsTo texts roots follows depth n
IsGiven texts roots follows total Content n = (depth : ℕ) × (t : Name) × (nodes : List Node) × (depth < total) × LeadsTo texts roots follows depth t × ListsBy (version_by follows) (tree_blobs texts) t nodes × Contains (content_of nodes) n

-- a root of this way reaches the pair
abbrev pub IsReachedTo : List (List ℕ) → List Root → Bool → ℕ → BlobKind → Name → Type 0
IsReachedTo texts roots follows total k n = (top : Name) × Contains roots (record { tree = top; follows = follows }) × ReachTo (version_by follows) total (tree_blobs texts) top k n

-- a directory begins in its own tree
pub part_self : (version : ℕ) (B : Blobs) (t : Name) → IsPartBy version B t t
part_self (suc (suc zero)) B t = ([], refl)
part_self _ B t = refl

module _ (texts : List (List ℕ)) (roots : List Root) (follows : Bool) where
  abbrev version : ℕ
  version = version_by follows

  abbrev B : Blobs
  B = tree_blobs texts

  -- what a tree gives by itself where so much depth is left
  abbrev Gives : ℕ → Name → BlobKind → Name → Type 0
  Gives zero t k n = (k ≡ Tree) × (n ≡ t)
  Gives (suc e) t k n = ((k ≡ Tree) × (n ≡ t)) ⊎ ((own : List Node) × (node : Node) × ListsBy version B t own × Contains own node × NodeReaches (ReachTo version e B) node.what k n)

  -- its directory reaches that
  directory_reaches : (e : ℕ) (top t : Name) (k : BlobKind) (n : Name) → IsPartBy version B top t → Gives e t k n → ReachTo version e B top k n
  directory_reaches zero top t k n belongs g = (g.0, subst (IsPartBy version B top) (sym g.1) belongs)
  directory_reaches (suc e) top t k n belongs (inl g) = inl (g.0, subst (IsPartBy version B top) (sym g.1) belongs)
  directory_reaches (suc e) top t k n belongs (inr (own, node, lists, among, reaches)) = inr (node, record { part = t; own = own; belongs = belongs; lists = lists; among = among }, reaches)

  dir_reaches : (e : ℕ) (what : NodeKind) (subtree : Name) (k : BlobKind) (n : Name) → Contains (trees_in what) subtree → ReachTo version e B subtree k n → NodeReaches (ReachTo version e B) what k n
  dir_reaches e (File size content) subtree k n h r = absurd (none_contained subtree h)
  dir_reaches e (Dir other) subtree k n h r = elim (contained_or other [] subtree h) [ inl same ↦ subst (λ m. ReachTo version e B m k n) (sym same) r | inr none ↦ absurd (none_contained subtree none) ]

  up : (d : ℕ) (t : Name) → LeadsTo texts roots follows d t → (e total : ℕ) → d + e ≡ total → (k : BlobKind) (n : Name) → Gives e t k n → IsReachedTo texts roots follows total k n
  up zero t (top, among, belongs) e total sum k n g = let same : e ≡ total = omega (arith, sum) in (top, among, subst (λ m. ReachTo version m B top k n) same (directory_reaches e top t k n belongs g))
  up (suc d) t (above, nodes, subtree, leads, lists, among, belongs) e total sum k n g =
      let node = flat_contains (λ (m : Node). trees_in m.what) nodes subtree among in
      let below : ReachTo version e B subtree k n = directory_reaches e subtree t k n belongs g in
      up d above leads (suc e) total (omega (arith, sum)) k n (inr (nodes, node.0, lists, node.1, dir_reaches e node.0.what subtree k n node.2 below))

  file_reaches : (e : ℕ) (what : NodeKind) (n : Name) → Contains (content_in what) n → NodeReaches (ReachTo version e B) what Content n
  file_reaches e (File size content) n h = (refl, h)
  file_reaches e (Dir subtree) n h = absurd (none_contained n h)

  self_gives : (e : ℕ) (t : Name) → Gives e t Tree t
  self_gives zero t = (refl, refl)
  self_gives (suc e) t = inl (refl, refl)

  more_depth : (d total : ℕ) → d < total → (e : ℕ) × (d + suc e ≡ total)
  more_depth d zero h = absurd (omega (arith, h))
  more_depth zero (suc total) h = (total, omega arith)
  more_depth (suc d) (suc total) h = let r = more_depth d total (omega (arith, h)) in (r.0, omega (arith, r.1))

  some_depth : (d total : ℕ) → d ≤ total → (e : ℕ) × (d + e ≡ total)
  some_depth zero total h = (total, omega arith)
  some_depth (suc d) zero h = absurd (omega (arith, h))
  some_depth (suc d) (suc total) h = let r = some_depth d total (omega (arith, h)) in (r.0, omega (arith, r.1))

  pub given_reached : (total : ℕ) (k : BlobKind) (n : Name) → IsGiven texts roots follows total k n → IsReachedTo texts roots follows total k n
  given_reached total Tree n (d, within, leads) = let e = some_depth d total within in up d n leads e.0 total e.1 Tree n (self_gives e.0 n)
  given_reached total Content n (d, t, nodes, within, leads, lists, among) =
      let e = more_depth d total within in
      let node = flat_contains (λ (m : Node). content_in m.what) nodes n among in
      up d t leads (suc e.0) total e.1 Content n (inr (nodes, node.0, lists, node.1, file_reaches e.0 node.0.what n node.2))

  -- and back
  node_down : (e d total : ℕ) → d + suc e ≡ total → (t : Name) (own : List Node) → LeadsTo texts roots follows d t → ListsBy version B t own → (node : Node) (what : NodeKind) → node.what ≡ what → Contains own node → (k : BlobKind) (n : Name)
      → ((u : Name) → ((v : Name) → IsPartBy version B u v → LeadsTo texts roots follows (suc d) v) → ReachTo version e B u k n → IsGiven texts roots follows total k n) → NodeReaches (ReachTo version e B) what k n → IsGiven texts roots follows total k n
  node_down e d total sum t own leads lists node (File size content) is among k n below (kind, has) =
      subst (λ j. IsGiven texts roots follows total j n) (sym kind) (d, t, own, omega (arith, sum), leads, lists, contains_flat (λ (m : Node). content_in m.what) own node n among (subst (λ w. Contains (content_in w) n) (sym is) has))
  node_down e d total sum t own leads lists node (Dir subtree) is among k n below reaches =
      let listed : Contains (trees_of own) subtree = contains_flat (λ (m : Node). trees_in m.what) own node subtree among (subst (λ w. Contains (trees_in w) subtree) (sym is) (first_contained subtree [])) in
      below subtree (λ u belongs. (t, own, subtree, leads, lists, listed, belongs)) reaches

  down : (e d total : ℕ) → d + e ≡ total → (top : Name) → ((t : Name) → IsPartBy version B top t → LeadsTo texts roots follows d t) → (k : BlobKind) (n : Name) → ReachTo version e B top k n → IsGiven texts roots follows total k n
  down zero d total sum top leads k n (is, belongs) = subst (λ j. IsGiven texts roots follows total j n) (sym is) (d, omega (arith, sum), leads n belongs)
  down (suc e) d total sum top leads k n (inl (is, belongs)) = subst (λ j. IsGiven texts roots follows total j n) (sym is) (d, omega (arith, sum), leads n belongs)
  down (suc e) d total sum top leads k n (inr (node, has, reaches)) =
      node_down e d total sum has.part has.own (leads has.part has.belongs) has.lists node node.what refl has.among k n (λ u more r. down e (suc d) total (omega (arith, sum)) u more k n r) reaches

  pub reached_given : (total : ℕ) (k : BlobKind) (n : Name) → IsReachedTo texts roots follows total k n → IsGiven texts roots follows total k n
  reached_given total k n (top, among, reaches) = down total 0 total (omega arith) top (λ t belongs. (top, among, belongs)) k n reaches

-- the version of a snapshot is that of its root
pub same_version : (v : ℕ) → IsKnownTo greatest_version v → version_by (follows_in v) ≡ v
same_version zero h = let least = h.0 in absurd (omega (arith, least))
same_version (suc zero) h = refl
same_version (suc (suc zero)) h = refl
same_version (suc (suc (suc v))) h = let most = h.1 in absurd (omega (arith, most))

-- ---- along a directory's parts

pub goes_push : (B : Blobs) (t p n : Name) (through : List Name) (nodes : List Node) → GoesOn B t through p → IsPart B p nodes (Some n) → GoesOn B t (through ++ n ∷ []) n
goes_push B t p n [] nodes h part = (nodes, subst (λ m. IsPart B m nodes (Some n)) h part, refl)
goes_push B t p n (next ∷ more) nodes h part = (h.0, h.1, goes_push B next p n more nodes h.2 part)

-- where roots lead to a part that goes on, they lead to the tree in which it does, by as many directories
pub leads_onward : (texts : List (List ℕ)) (roots : List Root) (d : ℕ) (t n : Name) (nodes : List Node) → LeadsTo texts roots true d t → IsPart (tree_blobs texts) t nodes (Some n) → LeadsTo texts roots true d n
leads_onward texts roots zero t n nodes (top, among, belongs) part = (top, among, (belongs.0 ++ n ∷ [], goes_push (tree_blobs texts) top t n belongs.0 nodes belongs.1 part))
leads_onward texts roots (suc d) t n nodes (above, own, subtree, leads, lists, among, belongs) part = (above, own, subtree, leads, lists, among, (belongs.0 ++ n ∷ [], goes_push (tree_blobs texts) subtree t n belongs.0 nodes belongs.1 part))

-- ---- more texts

pub texts_grow : (texts more : List (List ℕ)) → ((x : List ℕ) → Contains texts x → Contains more x) → Grows (tree_blobs texts) (tree_blobs more)
texts_grow texts more has k x h = (h.0, has x h.1)

pub leads_on : (texts more : List (List ℕ)) → ((x : List ℕ) → Contains texts x → Contains more x) → (roots : List Root) (follows : Bool) (depth : ℕ) (n : Name) → LeadsTo texts roots follows depth n → LeadsTo more roots follows depth n
leads_on texts more has roots follows zero n h = (h.0, h.1, part_grows (version_by follows) (tree_blobs texts) (tree_blobs more) (texts_grow texts more has) h.0 n h.2)
leads_on texts more has roots follows (suc depth) n h =
    let grow = texts_grow texts more has in (
      h.0,
      h.1,
      h.2,
      leads_on texts more has roots follows depth h.0 h.3,
      lists_grow (version_by follows) (tree_blobs texts) (tree_blobs more) grow h.0 h.1 h.4,
      h.5,
      part_grows (version_by follows) (tree_blobs texts) (tree_blobs more) grow h.2 n h.6,
    )
