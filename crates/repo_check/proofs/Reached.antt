-- The visits of a walk that is over are what the snapshots reach.
use Rattle.std.proofs.Common.{arith, ◌≡◌, ◌≤◌, ◌<◌, ◌+◌, ◌∷◌, [], ℕ, Bool, zero, suc, true, false, List, length, Option, Some, refl, sym, subst, inl, inr, Contains}
use Rattle.std.specs.Prelude.{⊤}
use Rattle.repo_name.specs.declared.kinds.BlobKind.{BlobKind}
use Rattle.repo_name.specs.declared.kinds.BlobKind.TheVariants.{Content, Tree}
use Rattle.repo_name.specs.declared.names.Name.{Name}
use Rattle.repo_name.proofs.Containing.{contains_flat, first_contained}
use Rattle.repo_pack.specs.declared.places.Place.{Place}
use Rattle.repo_index.specs.IndexText.{fact_of}
use Rattle.repo_reach.specs.Collected.{version_by}
use Rattle.repo_reach.specs.Links.{LeadTo, content_in, content_of, trees_in, trees_of}
use Rattle.repo_reach.specs.Walks.{trees_below}
use Rattle.repo_reach.specs.declared.links.Links.{Links}
use Rattle.repo_session.specs.Trees.{Under}
use Rattle.repo_session.specs.Traces.{Trace}
use Rattle.repo_tree.specs.Parts.{Blobs, GoesOn, IsPartBy, ListsBy}
use Rattle.repo_tree.specs.Spelling.{NodeReaches, ReachTo, greatest_depth}
use Rattle.repo_tree.specs.declared.nodes.Node.{Node}
use Rattle.repo_tree.specs.declared.nodes.NodeKind.{NodeKind}
use Rattle.repo_check.specs.Answers.{Answer, Gathered, IsReachedBlob, IsDeepest, IsFollowed, LiesAt, TreesOf}
use Rattle.repo_check.specs.Checking.{AreRanged}
use Rattle.repo_check.specs.Keeping.{content_within, links_of}
use Rattle.repo_check.specs.Surveys.{ContentIsReached, IsSurveyed, IsVisited, RoundsView, SurveyedIsReceived, VisitsAreReached, answers_in}
use Rattle.repo_check.specs.Visiting.{IsGiven, visit_at}
use Rattle.repo_check.specs.Walks.{IsSettled, WalkView}
use Rattle.repo_check.specs.declared.visiting.Gift.{Gift}
use Rattle.repo_check.specs.declared.visiting.Visit.{Visit}
use Rattle.repo_check.proofs.Gathered.{HasCome, came_in, contains_of, of_root}
use Rattle.repo_check.proofs.Led.{content_reached, deepest_by, followed_by, got, ranged_so_far, tree_reached}
use Rattle.repo_check.proofs.KeptReads.{lists_links, part_next}

-- what is listed is among what is kept
listed_below : (o : Option Links) (links : Links) (nodes : List Node) (n : Name) → o ≡ Some links → LeadTo nodes links → Contains (trees_of nodes) n → Contains (trees_below o) n
listed_below o links nodes n is lead c = subst (λ p. Contains (trees_below p) n) (sym is) (subst (λ ns. Contains ns n) (sym lead.trees) c)

listed_within : (o : Option Links) (links : Links) (nodes : List Node) (n : Name) → o ≡ Some links → LeadTo nodes links → Contains (content_of nodes) n → Contains (content_within o) n
listed_within o links nodes n is lead c = subst (λ p. Contains (content_within p) n) (sym is) (subst (λ ns. Contains ns n) (sym lead.content) c)

module _ (rounds : RoundsView) (walk : WalkView) (es : Trace) (s : IsSurveyed rounds walk es) where
  abbrev A : Gathered
  A = answers_in s

  abbrev T : Blobs
  T = TreesOf A

  abbrev visits : List Visit
  visits = walk.visits

  abbrev came : HasCome rounds walk es
  came = came_in s

  -- ---- what the roots reach, is visited

  module _ (follows : Bool) where
    abbrev version : ℕ
    version = version_by follows

    abbrev at : ℕ → Name → Visit
    at d n = visit_at follows d n

    -- the trees of a directory are all visited at its depth
    abbrev AllStand : ℕ → Name → Type 0
    AllStand d top = (t : Name) → IsPartBy version T top t → Contains visits (at d t)

    stands_next : (d : ℕ) (t : Name) (nodes : List Node) (name : List ℕ) (sub : Name) → d < greatest_depth → Contains visits (at d t) → ListsBy version T t nodes → Contains nodes (record { name = name; what = NodeKind.Dir sub }) → Contains visits (at (suc d) sub)
    stands_next d t nodes name sub less stands lists among =
        let links = lists_links rounds walk es came follows t nodes lists in
        let node : Node = record { name = name; what = NodeKind.Dir sub } in
        let listed : Contains (trees_of nodes) sub = contains_flat (λ (z : Node). trees_in z.what) nodes node sub among (first_contained sub []) in
        (s.over.made (at d t) stands).1 (at (suc d) sub) (inl (less, (sub, listed_below (links_of (walk.known.kept t) follows) links.0 nodes sub links.1 links.2 listed, refl)))

  -- a part leads on to the next one at its own depth
  goes_stand : (d : ℕ) (top t : Name) (through : List Name) → GoesOn T top through t → Contains visits (visit_at true d top) → Contains visits (visit_at true d t)
  goes_stand d top t [] goes stands = subst (λ m. Contains visits (visit_at true d m)) (sym goes) stands
  goes_stand d top t (n ∷ through) goes stands =
      goes_stand d n t through goes.2 ((s.over.made (visit_at true d top) stands).1 (visit_at true d n) (inr (n, part_next rounds walk es came top n goes.0 goes.1, refl)))

  all_stand : (follows : Bool) (d : ℕ) (top : Name) → Contains visits (visit_at follows d top) → AllStand follows d top
  all_stand true d top stands t (through, goes) = goes_stand d top t through goes stands
  all_stand false d top stands t same = subst (λ m. Contains visits (visit_at false d m)) (sym same) stands

  abbrev Found : BlobKind → Name → Type 0
  Found Tree n = IsVisited visits (λ v. ⊤) n
  Found Content n = IsGiven Gift.Content walk.known.kept visits n

  abbrev Down : Bool → ℕ → Type 0
  Down follows e = (d : ℕ) → d + e ≡ greatest_depth → (top : Name) → Contains visits (visit_at follows d top) → (k : BlobKind) (n : Name) → ReachTo (version_by follows) e T top k n → Found k n

  here : (follows : Bool) (d : ℕ) (top : Name) (k : BlobKind) (n : Name) → Contains visits (visit_at follows d top) → k ≡ Tree → IsPartBy (version_by follows) T top n → Found k n
  here follows d top k n stands is belongs = subst (λ j. Found j n) (sym is) (visit_at follows d n, all_stand follows d top stands n belongs, refl, tt)

  through_node : (follows : Bool) (e : ℕ) → Down follows e → (d : ℕ) → d + suc e ≡ greatest_depth → (t : Name) (nodes : List Node) → Contains visits (visit_at follows d t) → ListsBy (version_by follows) T t nodes → (name : List ℕ) (what : NodeKind)
      → Contains nodes (record { name = name; what = what }) → (k : BlobKind) (n : Name) → NodeReaches (ReachTo (version_by follows) e T) what k n → Found k n
  through_node follows e deeper d sum t nodes stands lists name (NodeKind.File size content) among k n h =
      let links = lists_links rounds walk es came follows t nodes lists in
      let node : Node = record { name = name; what = NodeKind.File size content } in
      let listed : Contains (content_of nodes) n = contains_flat (λ (z : Node). content_in z.what) nodes node n among h.1 in
      subst (λ j. Found j n) (sym h.0) (visit_at follows d t, stands, (omega (arith, sum), listed_within (links_of (walk.known.kept t) follows) links.0 nodes n links.1 links.2 listed))
  through_node follows e deeper d sum t nodes stands lists name (NodeKind.Dir sub) among k n h =
      deeper (suc d) (omega (arith, sum)) sub (stands_next follows d t nodes name sub (omega (arith, sum)) stands lists among) k n h

  down : (follows : Bool) (e : ℕ) → Down follows e
  down follows zero d sum top stands k n h = here follows d top k n stands h.0 h.1
  down follows (suc e) d sum top stands k n (inl h) = here follows d top k n stands h.0 h.1
  down follows (suc e) d sum top stands k n (inr h) =
      let has = h.1 in
      through_node follows e (down follows e) d sum has.part has.own (all_stand follows d top stands has.part has.belongs) has.lists h.0.name h.0.what has.among k n h.2

  root_stands : (follows : Bool) (n : Name) → Contains s.roots (record { tree = n; follows = follows }) → Contains visits (visit_at follows 0 n)
  root_stands follows n c = s.over.begun (record { tree = n; follows = follows }) c

  pub found_of : (k : BlobKind) (n : Name) → IsReachedBlob A k n → Found k n
  found_of k n h =
      let root = of_root rounds walk es came h.0 h.1 h.2 in
      down root.0 greatest_depth 0 (omega arith) h.1 (root_stands root.0 h.1 root.2) k n (subst (λ v. ReachTo v greatest_depth T h.1 k n) (sym root.1) h.3)

  -- ---- the deepest, and those that are followed

  under_stands : (follows : Bool) (path : List (List ℕ)) (d : ℕ) (top n : Name) → d + length path ≤ greatest_depth → Contains visits (visit_at follows d top) → Under (version_by follows) T top path n → Contains visits (visit_at follows (d + length path) n)
  under_stands follows [] d top n few stands under =
      let same : d ≡ d + 0 = omega arith in
      subst (λ i. Contains visits (visit_at follows i n)) same (all_stand follows d top stands n under)
  under_stands follows (name ∷ path) d top n few stands (sub, has, under) =
      let next = stands_next follows d has.part has.own name sub (omega (arith, few)) (all_stand follows d top stands has.part has.belongs) has.lists has.among in
      let same : suc d + length path ≡ d + suc (length path) = omega arith in
      subst (λ i. Contains visits (visit_at follows i n)) same (under_stands follows path (suc d) sub n (omega (arith, few)) next under)

  pub of_deepest : (n : Name) → IsDeepest A n → IsVisited visits (λ v. v.depth ≡ greatest_depth) n
  of_deepest n h =
      let root = of_root rounds walk es came h.0 h.1 h.2 in
      let path = h.3.0 in
      let len = h.3.2 in
      let sum : 0 + length path ≡ greatest_depth = omega (arith, len) in
      let under = subst (λ v. Under v T h.1 path n) (sym root.1) h.3.1 in
      (visit_at root.0 (0 + length path) n, under_stands root.0 path 0 h.1 n (omega (arith, len)) (root_stands root.0 h.1 root.2) under, refl, sum)

  -- the depth and the way of a visit
  abbrev StandsSo : Bool → Name → Type 0
  StandsSo follows n = (d : ℕ) × Contains visits (visit_at follows d n)

  so_through : (follows : Bool) (e : ℕ) → ((d : ℕ) → d + e ≡ greatest_depth → (top n : Name) → Contains visits (visit_at follows d top) → ReachTo (version_by follows) e T top Tree n → StandsSo follows n) → (d : ℕ) → d + suc e ≡ greatest_depth → (t n : Name) (nodes : List Node)
      → Contains visits (visit_at follows d t) → ListsBy (version_by follows) T t nodes → (name : List ℕ) (what : NodeKind) → Contains nodes (record { name = name; what = what }) → NodeReaches (ReachTo (version_by follows) e T) what Tree n → StandsSo follows n
  so_through follows e deeper d sum t n nodes stands lists name (NodeKind.File size content) among h = absurd (let is = h.0 in cc is)
  so_through follows e deeper d sum t n nodes stands lists name (NodeKind.Dir sub) among h = deeper (suc d) (omega (arith, sum)) sub n (stands_next follows d t nodes name sub (omega (arith, sum)) stands lists among) h

  so_down : (follows : Bool) (e d : ℕ) → d + e ≡ greatest_depth → (top n : Name) → Contains visits (visit_at follows d top) → ReachTo (version_by follows) e T top Tree n → StandsSo follows n
  so_down follows zero d sum top n stands h = (d, all_stand follows d top stands n h.1)
  so_down follows (suc e) d sum top n stands (inl h) = (d, all_stand follows d top stands n h.1)
  so_down follows (suc e) d sum top n stands (inr h) =
      let has = h.1 in
      so_through follows e (λ k more u m c r. so_down follows e k more u m c r) d sum has.part n has.own (all_stand follows d top stands has.part has.belongs) has.lists h.0.name h.0.what has.among h.2

  two_follows : (follows : Bool) → version_by follows ≡ 2 → follows ≡ true
  two_follows true h = refl
  two_follows false h = absurd (omega (arith, h))

  pub of_followed : (n : Name) → IsFollowed A n → IsVisited visits (λ v. v.follows ≡ true) n
  of_followed n (root, gives, reach) =
      let from = of_root rounds walk es came 2 root gives in
      let is = two_follows from.0 from.1 in
      let stands = so_down from.0 greatest_depth 0 (omega arith) root n (root_stands from.0 root from.2) (subst (λ v. ReachTo v greatest_depth T root Tree n) (sym from.1) reach) in
      (visit_at from.0 stands.0 n, stands.1, refl, is)

  -- ---- what was received

  pub settled : (n : Name) → Found Tree n → IsSettled walk.known n
  settled n (v, c, is, t) = subst (λ m. IsSettled walk.known m) is (s.over.made v c).0

  asked : (n : Name) (place : Place) → LiesAt A Tree n place → IsSettled walk.known n → (a : Answer) × Contains s.answers a × (a.name ≡ n)
  asked n place lies (inl read) = s.reads.seen.kept n read.0 read.1
  asked n place lies (inr (inl faulty)) = s.reads.seen.faults n faulty.0 faulty.1
  asked n place lies (inr (inr nowhere)) = absurd (nowhere place (contains_of rounds walk es came (fact_of Tree n place) lies.given))

  ranged : AreRanged es A
  ranged = record { so_far = ranged_so_far rounds walk es came; all = λ n place reached lies. asked n place lies (settled n (found_of Tree n reached)) }

pub surveyed_is_received : SurveyedIsReceived
surveyed_is_received rounds walk es s = record { objects = got rounds walk es (came_in s); trees = ranged rounds walk es s }

pub visits_are_reached : VisitsAreReached
visits_are_reached rounds walk es s n = (
  (found_of rounds walk es s Tree n, λ h. subst (λ m. IsReachedBlob (answers_in s) Tree m) h.2 (tree_reached rounds walk es (came_in s) h.0 h.1)),
  (of_deepest rounds walk es s n, λ h. subst (λ m. IsDeepest (answers_in s) m) h.2 (deepest_by rounds walk es (came_in s) h.0 h.1 h.3)),
  (of_followed rounds walk es s n, λ h. subst (λ m. IsFollowed (answers_in s) m) h.2 (followed_by rounds walk es (came_in s) h.0 h.1 h.3)),
)

pub content_is_reached : ContentIsReached
content_is_reached rounds walk es s n = (found_of rounds walk es s Content n, content_reached rounds walk es (came_in s) n)
