-- What is visited, whether a walk is over or not, is what the snapshots reach in the trees that came.
use Rattle.std.proofs.Common.{arith, ◌≡◌, ◌++◌, ◌∷◌, [], ℕ, Bool, zero, suc, true, false, List, length, Option, Some, None, refl, ap, subst, inl, inr, ◌∙◌, length-append, Contains}
use Rattle.repo_name.specs.declared.kinds.BlobKind.TheVariants.{Content, Tree}
use Rattle.repo_name.specs.declared.kinds.Kind.{Kind}
use Rattle.repo_name.specs.declared.names.Name.{Name}
use Rattle.repo_name.proofs.Containing.{contained_or, flat_contains, none_contained}
use Rattle.repo_reach.specs.Collected.{version_by}
use Rattle.repo_reach.specs.Links.{content_in, trees_in}
use Rattle.repo_reach.specs.Walks.{trees_below}
use Rattle.repo_reach.specs.declared.links.Links.{Links}
use Rattle.repo_session.proofs.Reaching.{file_reached, under_reached}
use Rattle.repo_session.specs.Trees.{IsNodeAt, Under}
use Rattle.repo_session.specs.Traces.{Trace}
use Rattle.repo_tree.specs.Parts.{Blobs, GoesOn, IsPartBy}
use Rattle.repo_tree.specs.Spelling.{Reach, greatest_depth}
use Rattle.repo_tree.specs.declared.nodes.Node.{Node}
use Rattle.repo_tree.specs.declared.nodes.NodeKind.{NodeKind}
use Rattle.repo_check.specs.Answers.{Gathered, GivesRoot, IsReachedBlob, IsDeepest, IsFollowed, TreesOf}
use Rattle.repo_check.specs.Arrivals.{IsIndexOf, IsPackOf, IsRootOf}
use Rattle.repo_check.specs.Checking.{AreGot, AreRangedSoFar}
use Rattle.repo_check.specs.Keeping.{content_within, links_of}
use Rattle.repo_check.specs.Surveys.{RoundsView, objects_in}
use Rattle.repo_check.specs.Visiting.{GoesThrough, IsGiven, IsLedTo, IsPartIn}
use Rattle.repo_check.specs.Walks.{WalkView}
use Rattle.repo_check.specs.declared.visiting.Gift.{Gift}
use Rattle.repo_check.specs.declared.visiting.Visit.{Visit}
use Rattle.repo_check.proofs.Gathered.{HasCome, answers_of, lies_of, root_of}
use Rattle.repo_check.proofs.Rounding.{all_got}
use Rattle.repo_check.proofs.Spellings.{under_step}
use Rattle.repo_check.proofs.KeptReads.{links_lists, next_part}

-- what is listed of a tree is listed by what is kept of it
below_some : (o : Option Links) (n : Name) → Contains (trees_below o) n → (links : Links) × (o ≡ Some links) × Contains links.trees.items n
below_some None n c = absurd (none_contained n c)
below_some (Some links) n c = (links, refl, c)

within_some : (o : Option Links) (n : Name) → Contains (content_within o) n → (links : Links) × (o ≡ Some links) × Contains links.content.items n
within_some None n c = absurd (none_contained n c)
within_some (Some links) n c = (links, refl, c)

-- which node it is that leads to a tree, or has content
dir_among : (nodes : List Node) (node : Node) (what : NodeKind) (n : Name) → node.what ≡ what → Contains nodes node → Contains (trees_in what) n → Contains nodes (record { name = node.name; what = NodeKind.Dir n })
dir_among nodes node (NodeKind.Dir sub) n is among inside =
    let same : sub ≡ n = elim (contained_or sub [] n inside) [ inl same ↦ same | inr none ↦ absurd (none_contained n none) ] in
    let whole : node ≡ record { name = node.name; what = NodeKind.Dir n } = λ i. record { name = node.name; what = (is ∙ ap NodeKind.Dir same) i } in
    subst (λ (z : Node). Contains nodes z) whole among
dir_among nodes node (NodeKind.File size content) n is among inside = absurd (none_contained n inside)

file_among : (nodes : List Node) (node : Node) (what : NodeKind) (n : Name) → node.what ≡ what → Contains nodes node → Contains (content_in what) n
    → (size : ℕ) × (content : List Name) × Contains nodes (record { name = node.name; what = NodeKind.File size content }) × Contains content n
file_among nodes node (NodeKind.Dir sub) n is among inside = absurd (none_contained n inside)
file_among nodes node (NodeKind.File size content) n is among inside =
    let whole : node ≡ record { name = node.name; what = NodeKind.File size content } = λ i. record { name = node.name; what = is i } in
    (size, content, subst (λ (z : Node). Contains nodes z) whole among, inside)

module _ (rounds : RoundsView) (walk : WalkView) (es : Trace) (s : HasCome rounds walk es) where
  abbrev A : Gathered
  A = answers_of s

  abbrev T : Blobs
  T = TreesOf A

  -- a root leads to the tree, through so many directories
  record Path (follows : Bool) (d : ℕ) (t : Name) : Type 0 where
    pub root : Name
    pub rooted : Contains s.roots (record { tree = root; follows = follows })
    pub path : List (List ℕ)
    pub under : Under (version_by follows) T root path t
    pub len : length path ≡ d

  -- a tree that belongs to a directory by what is kept is a part of it
  part_by : (follows : Bool) (top t : Name) → IsPartIn walk.known.kept follows top t → IsPartBy (version_by follows) T top t
  part_by true top t (through, goes) = (through, goes_by top t through goes)
    where
      goes_by : (top t : Name) (through : List Name) → GoesThrough walk.known.kept top through t → GoesOn T top through t
      goes_by top t [] goes = goes
      goes_by top t (n ∷ through) goes = let p = next_part rounds walk es s top n goes.0 in (p.0, p.1, goes_by n t through goes.1)
  part_by false top t same = same

  path_to : (follows : Bool) (d : ℕ) (t : Name) → IsLedTo walk.known.kept s.roots follows d t → Path follows d t
  path_to follows zero t (top, among, belongs) = record { root = top; rooted = among; path = []; under = part_by follows top t belongs; len = refl }
  path_to follows (suc d) t (above, sub, led, below, belongs) =
      let before = path_to follows d above led in
      let links = below_some (links_of (walk.known.kept above) follows) sub below in
      let lists = links_lists rounds walk es s follows above links.0 links.1 in
      let from = flat_contains (λ (node : Node). trees_in node.what) lists.0 sub (subst (λ ns. Contains ns sub) lists.2.trees links.2) in
      let len = before.len in
      record {
        root = before.root;
        rooted = before.rooted;
        path = before.path ++ from.0.name ∷ [];
        under = under_step (version_by follows) T before.root before.path above lists.0 from.0.name sub t before.under lists.1 (dir_among lists.0 from.0 from.0.what sub refl from.1 from.2) (part_by follows sub t belongs);
        len = omega (arith, len, length-append before.path (from.0.name ∷ []));
      }

  path_of : (v : Visit) → Contains walk.visits v → Path v.follows v.depth v.tree
  path_of v c = path_to v.follows v.depth v.tree (s.led v c).0

  pub tree_reached : (v : Visit) → Contains walk.visits v → IsReachedBlob A Tree v.tree
  tree_reached v c =
      let p = path_of v c in
      let few = (s.led v c).1 in
      let len = p.len in
      (version_by v.follows, p.root, root_of rounds walk es s (record { tree = p.root; follows = v.follows }) p.rooted, under_reached (version_by v.follows) T p.root p.path v.tree (omega (arith, few, len)) p.under)

  pub followed_by : (v : Visit) → Contains walk.visits v → v.follows ≡ true → IsFollowed A v.tree
  followed_by v c is =
      let p = path_of v c in
      let few = (s.led v c).1 in
      let len = p.len in
      let two : version_by v.follows ≡ 2 = ap version_by is in (
        p.root,
        subst (λ k. GivesRoot A k p.root) two (root_of rounds walk es s (record { tree = p.root; follows = v.follows }) p.rooted),
        subst (λ k. Reach k T p.root Tree v.tree) two (under_reached (version_by v.follows) T p.root p.path v.tree (omega (arith, few, len)) p.under),
      )

  pub deepest_by : (v : Visit) → Contains walk.visits v → v.depth ≡ greatest_depth → IsDeepest A v.tree
  deepest_by v c is =
      let p = path_of v c in
      (version_by v.follows, p.root, root_of rounds walk es s (record { tree = p.root; follows = v.follows }) p.rooted, (p.path, p.under, p.len ∙ is))

  pub content_reached : (n : Name) → IsGiven Gift.Content walk.known.kept walk.visits n → IsReachedBlob A Content n
  content_reached n (v, c, (less, within)) =
      let p = path_of v c in
      let len = p.len in
      let links = within_some (links_of (walk.known.kept v.tree) v.follows) n within in
      let lists = links_lists rounds walk es s v.follows v.tree links.0 links.1 in
      let from = flat_contains (λ (node : Node). content_in node.what) lists.0 n (subst (λ ns. Contains ns n) lists.2.content links.2) in
      let file = file_among lists.0 from.0 from.0.what n refl from.1 from.2 in
      let long = length-append p.path (from.0.name ∷ []) in
      let node : IsNodeAt (version_by v.follows) T p.root (p.path ++ from.0.name ∷ []) (NodeKind.File file.0 file.1) = record {
        above = p.path;
        name = from.0.name;
        tree = v.tree;
        nodes = lists.0;
        leads = p.under;
        read = lists.1;
        among = file.2;
        joined = refl;
      } in (
        version_by v.follows,
        p.root,
        root_of rounds walk es s (record { tree = p.root; follows = v.follows }) p.rooted,
        file_reached (version_by v.follows) T p.root (p.path ++ from.0.name ∷ []) file.0 file.1 n (omega (arith, len, less, long)) node file.3,
      )

  -- ---- what came

  pub ranged_so_far : AreRangedSoFar es A
  ranged_so_far = record {
    each = λ a c. (let seen = s.reads.seen.each a c in let r = s.reads.reached a c in
        (subst (λ m. IsReachedBlob A Tree m) r.2 (tree_reached r.0 r.1), (seen.place, lies_of rounds walk es s Tree a.name seen.place seen.least, seen.ranged)));
    once = s.reads.seen.once;
    only = λ place say heard. (let there = s.reads.seen.only place say heard in (there.0, there.1, lies_of rounds walk es s Tree there.0.name place there.2, there.3));
  }

  pub got : (k : Kind) → AreGot es k (objects_in s.notes k)
  got Kind.Pack = all_got Kind.Pack IsPackOf rounds.packs es s.objects.packs s.notes.packs
  got Kind.Index = all_got Kind.Index IsIndexOf rounds.indexes es s.objects.indexes s.notes.indexes
  got Kind.Snapshot = all_got Kind.Snapshot IsRootOf rounds.snapshots es s.objects.snapshots s.notes.snapshots
