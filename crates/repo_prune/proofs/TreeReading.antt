-- The reading of the trees that snapshots reach.
use Rattle.std.proofs.Common.{arith, Result, Ok, Err, OnErr, zero, suc, ◌≡◌, ◌≤◌, ◌++◌, ◌∷◌, [], ℕ, Bool, true, false, List, Some, None, slice_get, length, refl, sym, ap, subst, inl, inr, ⊎_elim, ◌∙◌, Contains}
use Rattle.std.proofs.lemmas.List.{length-append}
use Rattle.std.proofs.lemmas.List.Elements.{Contains-append_left, Contains-append_right}
use Rattle.repo_name.specs.Naming as naming
use Rattle.repo_name.specs.declared.kinds.BlobKind.TheVariants.{Tree}
use Rattle.repo_name.specs.declared.kinds.Thing.{Thing}
use Rattle.repo_name.specs.declared.names.Name.{Name}
use Rattle.repo_wire.specs.declared.messages.Say.{Say}
use Rattle.repo_index.specs.declared.facts.Fact.{Fact}
use Rattle.repo_tree.specs.Laws.{Grows}
use Rattle.repo_tree.specs.Parts.{Blobs, IsPart, IsPartBy, ListsBy}
use Rattle.repo_tree.specs.Spelling.{greatest_depth}
use Rattle.repo_tree.specs.TreeText.{IsTreeText}
use Rattle.repo_tree.specs.declared.nodes.Node.{Node}
use Rattle.repo_tree.specs.declared.nodes.NodeKind.{NodeKind}
use Rattle.repo_name.proofs.Containing.{none_contained, first_contained, contained_or, flat_contains}
use Rattle.repo_session.proofs.Descending.{under_grows}
use Rattle.repo_session.proofs.Reaching.{under_reached}
use Rattle.repo_session.specs.Trees.{Under, IsNoText, IsBroken}
use Rattle.repo_session.specs.declared.outcomes.End.{End}
use Rattle.repo_reach.proofs.Leading.{goes_push}
use Rattle.repo_reach.proofs.Rewinding.{got_or}
use Rattle.repo_reach.specs.Breaking.{IsTooLow, IsMalformed, IsMisplaced}
use Rattle.repo_reach.specs.Collected.{tree_blobs, version_by, LeadsTo}
use Rattle.repo_reach.specs.Joints.{SaysNext}
use Rattle.repo_reach.specs.Links.{trees_in}
use Rattle.repo_reach.specs.Walks.{HasText, IsWalk, WasAt, StandsAt, IsLedTo, TurnIs, AreSameTrees, IsSameWalk, IsNewTree, HasRead, Adds, IsUnchanged, NoneLooked, BrokenOnes, TellsBroken}
use Rattle.repo_reach.specs.declared.joints.Joint.{Joint}
use Rattle.repo_reach.specs.declared.joints.Next.{Next}
use Rattle.repo_reach.specs.declared.links.Links.{Links}
use Rattle.repo_reach.specs.declared.looks.Seen.{Seen}
use Rattle.repo_reach.specs.declared.roots.Root.{Root}
use Rattle.repo_reach.specs.declared.trees.Trees.{Trees}
use Rattle.repo_reach.specs.declared.trees.Turn.{Turn}
use Rattle.repo_reach.specs.declared.trees.Turn.TheVariants as turn
use Rattle.repo_writing.specs.Blobs.{HasFact}
use Rattle.repo_prune.specs.Reading.{AreFound, AreParts, Walks, WalksTo, Awaits, CannotGoOn, WalksOn, IsPromised, TakesTree}
use Rattle.repo_prune.specs.declared.reading.Walked.{Walked}

-- ---- paths

-- a path from a root of this way to a tree
pub record HasPath (texts : List (List ℕ)) (roots : List Root) (follows : Bool) (depth : ℕ) (t : Name) : Type 0 where
  pub top : Name
  pub among : Contains roots (record { tree = top; follows = follows })
  pub path : List (List ℕ)
  pub long : length path ≡ depth
  pub under : Under (version_by follows) (tree_blobs texts) top path t

dir_of : (what : NodeKind) (t : Name) → Contains (trees_in what) t → what ≡ NodeKind.Dir t
dir_of (NodeKind.Dir s) t h = elim (contained_or s [] t h) [ inl same ↦ ap NodeKind.Dir same | inr none ↦ absurd (none_contained t none) ]
dir_of (NodeKind.File size content) t h = absurd (none_contained t h)

-- a path goes on by a directory, into any tree of it
under_into : (version : ℕ) (B : Blobs) (root : Name) (path : List (List ℕ)) (tree : Name) (nodes : List Node) (name : List ℕ) (subtree part : Name) → Under version B root path tree → ListsBy version B tree nodes
    → Contains nodes (record { name = name; what = NodeKind.Dir subtree }) → IsPartBy version B subtree part → Under version B root (path ++ name ∷ []) part
under_into version B root [] tree nodes name subtree part u lists among belongs = (subtree, record { part = tree; own = nodes; belongs = u; lists = lists; among = among }, belongs)
under_into version B root (n ∷ path) tree nodes name subtree part u lists among belongs = (u.0, u.1, under_into version B u.0 path tree nodes name subtree part u.2 lists among belongs)

-- and into the next one
under_onward : (B : Blobs) (root : Name) (path : List (List ℕ)) (part : Name) (nodes : List Node) (next : Name) → Under 2 B root path part → IsPart B part nodes (Some next) → Under 2 B root path next
under_onward B root [] part nodes next u p = (u.0 ++ next ∷ [], goes_push B root part next u.0 nodes u.1 p)
under_onward B root (n ∷ path) part nodes next u p = (u.0, u.1, under_onward B u.0 path part nodes next u.2 p)

pub path_to : (texts : List (List ℕ)) (roots : List Root) (follows : Bool) (depth : ℕ) (t : Name) → LeadsTo texts roots follows depth t → HasPath texts roots follows depth t
path_to texts roots follows zero t h = record { top = h.0; among = h.1; path = []; long = refl; under = h.2 }
path_to texts roots follows (suc depth) t (above, nodes, subtree, leads, lists, among, belongs) =
    let before = path_to texts roots follows depth above leads in
    let from = flat_contains (λ (node : Node). trees_in node.what) nodes subtree among in
    let what = dir_of from.0.what subtree from.2 in
    let node : from.0 ≡ record { name = from.0.name; what = NodeKind.Dir subtree } = λ i. record { name = from.0.name; what = what i } in
    let more = length-append before.path (from.0.name ∷ []) in
    let long = before.long in
    record {
      top = before.top;
      among = before.among;
      path = before.path ++ from.0.name ∷ [];
      long = omega (arith, more, long);
      under = under_into (version_by follows) (tree_blobs texts) before.top before.path above nodes from.0.name subtree t before.under lists (subst (Contains nodes) node from.1) belongs;
    }

texts_grow : (texts : List (List ℕ)) (text : List ℕ) → Grows (tree_blobs texts) (tree_blobs (texts ++ text ∷ []))
texts_grow texts text k x h = (h.0, Contains-append_left texts (text ∷ []) x h.1)

-- ---- what comes next

module _ (facts : List Fact) (texts : List (List ℕ)) (trees : Trees) where
  abbrev B : Blobs
  B = tree_blobs texts

  abbrev roots : List Root
  roots = trees.roots.items

  bad : (follows : Bool) (top tree : Name) (path : List (List ℕ)) → Contains roots (record { tree = top; follows = follows }) → length path ≤ greatest_depth → Under (version_by follows) B top path tree → IsBroken (version_by follows) B top path tree
      → CannotGoOn facts B roots (End.BadObject Thing.Tree tree)
  bad follows top tree path among shallow under broken = (refl, (record { tree = top; follows = follows }, among, (path, shallow, under, broken)))

  too_low : (n : Name) → IsTooLow texts roots n → CannotGoOn facts B roots (End.BadObject Thing.Tree n)
  too_low n h =
      let p = path_to texts roots h.follows greatest_depth n h.leads in
      let long = p.long in
      bad h.follows p.top n p.path p.among (omega (arith, long)) p.under (inr (inl (h.nodes, h.lists, h.some, omega (arith, long))))

  malformed : (n : Name) → IsMalformed texts roots n → CannotGoOn facts B roots (End.BadObject Thing.Tree n)
  malformed n h = let p = path_to texts roots true h.depth n h.leads in bad true p.top n p.path p.among (subst (λ d. d ≤ greatest_depth) (sym p.long) h.within) p.under (inl (h.text, (refl, h.among), h.called, h.no_part))

  misplaced : (n : Name) → IsMisplaced texts roots n → CannotGoOn facts B roots (End.BadObject Thing.Tree n)
  misplaced n h =
      let p = path_to texts roots true h.depth h.part h.leads in
      bad true p.top n p.path p.among (subst (λ d. d ≤ greatest_depth) (sym p.long) h.within) (under_onward B p.top p.path h.part h.nodes n p.under h.before) (inr (inr (h.part, p.under, (h.nodes, h.behind, h.next, h.before, h.after, h.wrong))))

  pub asked : (fact : Fact) → Walks facts texts trees → TurnIs facts texts trees (turn.Ask fact) → WalksOn facts texts trees (Walked.Ask fact)
  asked fact w h = record { walks = w; next = h }

  pub was_missing : (n : Name) → Walks facts texts trees → TurnIs facts texts trees (turn.Missing n) → WalksOn facts texts trees (Walked.Ended (End.Missing Thing.Tree n))
  was_missing n w h =
      let p = path_to texts roots h.2.0 h.2.1 n h.2.3 in
      ((Tree, refl, h.0, (record { tree = p.top; follows = h.2.0 }, p.among, under_reached (version_by h.2.0) B p.top p.path n (subst (λ d. d ≤ greatest_depth) (sym p.long) h.2.2) p.under)), w)

  pub was_broken : (n : Name) → TurnIs facts texts trees (turn.Broken n) → WalksOn facts texts trees (Walked.Ended (End.BadObject Thing.Tree n))
  was_broken n (inl h) = (too_low n h, tt)
  was_broken n (inr (inl h)) = (malformed n h, tt)
  was_broken n (inr (inr h)) = (misplaced n h, tt)

  pub was_done : Walks facts texts trees → TurnIs facts texts trees turn.Done → WalksOn facts texts trees Walked.Done
  was_done w h = (w, record { waiting = h.0; roots = h.1; read = λ i seen there. (w.found i seen there).0 })

-- ---- what stays

pub found_stays : (facts : List Fact) (old new : List Seen) → AreSameTrees old new → AreFound facts old → AreFound facts new
found_stays facts old new same found i seen there =
    let b = same.back i seen there in
    let f = found i b.0 b.1 in
    ((f.0.0, b.2.links ∙ f.0.1), subst (HasFact facts Tree) (sym b.2.name) f.1)

-- where no other tree breaks, each is a part still
pub parts_stay : (old new : List Seen) → AreSameTrees old new → BrokenOnes (λ n. ⊥) old new → AreParts old → AreParts new
parts_stay old new same broken parts i seen depth there was malformed =
    let b = same.back i seen there in
    let before = ⊎_elim (λ h. h) (λ none. absurd none) (broken i b.0 seen true depth seen.name b.1 there was (inl (inr (refl, malformed), refl))) in
    parts i b.0 depth b.1 before (ap (λ (j : Joint). j.next) (sym b.2.joint) ∙ malformed)

pub none_parts : (all : List Seen) → NoneLooked all → AreParts all
none_parts all never i seen depth there was = absurd (never i seen true depth there was)

pub walks_stay : (facts : List Fact) (texts : List (List ℕ)) (old new : Trees) → IsSameWalk old new → IsWalk texts new → BrokenOnes (λ n. ⊥) old.seen.items new.seen.items → Walks facts texts old → Walks facts texts new
walks_stay facts texts old new same walk broken w = record {
  walk = walk;
  found = found_stays facts old.seen.items new.seen.items same.trees w.found;
  parts = parts_stay old.seen.items new.seen.items same.trees broken w.parts;
}

-- what is known where a turn was taken
pub walks_to : (facts : List Fact) (texts : List (List ℕ)) (old new : Trees) (next : Turn) → IsSameWalk old new → IsWalk texts new → TellsBroken old.seen.items new.seen.items next → Walks facts texts old → WalksTo facts texts new next
walks_to facts texts old new (turn.Broken n) same walk tells w = tt
walks_to facts texts old new (turn.Ask fact) same walk tells w = walks_stay facts texts old new same walk tells w
walks_to facts texts old new (turn.Missing n) same walk tells w = walks_stay facts texts old new same walk tells w
walks_to facts texts old new turn.Done same walk tells w = walks_stay facts texts old new same walk tells w

none_stands : (old new : List Seen) (n : Name) → AreSameTrees old new → StandsAt old n None → StandsAt new n None
none_stands old new n same none i seen there named = let b = same.back i seen there in none i b.0 b.1 (sym b.2.name ∙ named)

-- what was awaited is awaited, over the same trees
pub awaits_stay : (facts : List Fact) (texts : List (List ℕ)) (old new : Trees) (fact : Fact) → AreSameTrees old.seen.items new.seen.items → new.roots ≡ old.roots → IsWalk texts new → AreParts new.seen.items → Awaits facts texts old fact → Awaits facts texts new fact
awaits_stay facts texts old new fact same roots walk parts a = record {
  walks = record { walk = walk; found = found_stays facts old.seen.items new.seen.items same a.walks.found; parts = parts };
  next = (
    a.next.0,
    a.next.1,
    none_stands old.seen.items new.seen.items fact.name same a.next.2,
    subst (λ (rs : List Root). IsLedTo texts rs fact.name) (ap (λ rs. rs.items) (sym roots)) a.next.3,
  );
}

same_trees : (all : List Seen) → AreSameTrees all all
same_trees all = record { back = λ i seen there. (seen, there, record { name = refl; links = refl; joint = refl; flags = λ f. refl }); on = λ i seen there. (seen, there, record { name = refl; links = refl; joint = refl; flags = λ f. refl }) }

pub unchanged_trees : (old new : Trees) → IsUnchanged old new → AreSameTrees old.seen.items new.seen.items
unchanged_trees old new h = subst (AreSameTrees old.seen.items) (sym h.seen) (same_trees old.seen.items)

pub unchanged_parts : (old new : Trees) → IsUnchanged old new → AreParts old.seen.items → AreParts new.seen.items
unchanged_parts old new h parts = subst AreParts (sym h.seen) parts

-- ---- a tree more

pub parts_more : (old new : Trees) (name : Name) (seen : Seen) → IsNewTree name seen → Adds old seen new → AreParts old.seen.items → AreParts new.seen.items
parts_more old new name seen new_one adds parts i s depth there was = elim (got_or old.seen.items seen i s (subst (λ (all : List Seen). slice_get all i ≡ Some s) adds.seen there)) [
  | inl before ↦ parts i s depth before was
  | inr last ↦ absurd (new_one.never true depth (subst (λ (z : Seen). WasAt z true depth) (sym last.1) was))
]

pub found_more : (facts : List Fact) (texts : List (List ℕ)) (old new : Trees) (fact : Fact) (name : Name) (nodes : List Node) (next : Next) (seen : Seen) → Awaits facts texts old fact → fact.name ≡ name → IsNewTree name seen → HasRead nodes next seen → Adds old seen new → AreFound facts new.seen.items
found_more facts texts old new fact name nodes next seen a is new_one read adds i s there = elim (got_or old.seen.items seen i s (subst (λ (all : List Seen). slice_get all i ≡ Some s) adds.seen there)) [
  | inl was ↦ a.walks.found i s was
  | inr last ↦ subst (λ (z : Seen). ((links : Links) × (z.links ≡ Some links)) × HasFact facts Tree z.name) last.1 ((read.0, read.1), subst (HasFact facts Tree) (is ∙ sym new_one.name) given)
]
  where
    given : HasFact facts Tree fact.name
    given = (fact.place, a.next.1.among)

-- bytes that are no tree's text, are none however they are read
no_text : (follows : Bool) (x : List ℕ) → ((nodes : List Node) → ¬ IsTreeText x nodes) → IsNoText (version_by follows) x
no_text true x none = λ nodes next part. none nodes (record { root = part.root; json = part.json; tree = part.tree })
no_text false x none = none

pub no_tree : (facts : List Fact) (texts : List (List ℕ)) (trees : Trees) (fact : Fact) (name : Name) (x : List ℕ) → Awaits facts texts trees fact → fact.name ≡ name → naming.name x ≡ name → ((nodes : List Node) → ¬ IsTreeText x nodes)
    → WalksOn facts (texts ++ x ∷ []) trees (Walked.Ended (End.BadObject Thing.Tree name))
no_tree facts texts trees fact name x a is named none =
    let follows = a.next.3.0 in
    let p = path_to texts trees.roots.items follows a.next.3.1 fact.name a.next.3.3 in
    let more = texts ++ x ∷ [] in
    let under = under_grows (version_by follows) (tree_blobs texts) (tree_blobs more) (texts_grow texts x) p.top p.path fact.name p.under in (
      bad facts more trees follows p.top name p.path p.among (subst (λ d. d ≤ greatest_depth) (sym p.long) a.next.3.2) (subst (Under (version_by follows) (tree_blobs more) p.top p.path) is under)
          (inl (x, (refl, Contains-append_right texts (x ∷ []) x (first_contained x [])), named, no_text follows x none)),
      tt,
    )

-- ---- what was read

says_tree : (x : List ℕ) (nodes : List Node) (next : Next) → SaysNext x nodes next → IsTreeText x nodes
says_tree x nodes Next.Absent h = record { root = h.root; json = h.json; tree = h.tree }
says_tree x nodes (Next.Tree n) h = record { root = h.root; json = h.json; tree = h.tree }
says_tree x nodes Next.Malformed h = h.0

-- each text of a walk reads
pub walk_reads : (facts : List Fact) (texts : List (List ℕ)) (trees : Trees) → Walks facts texts trees → (x : List ℕ) → Contains texts x → (nodes : List Node) × IsTreeText x nodes
walk_reads facts texts trees w x among =
    let known = w.walk.seen.known x among in
    let seen : Seen = known.1 in
    let links = (w.found known.0 seen known.2).0 in
    let has : HasText texts seen.name seen.joint (Some links.0) = subst (HasText texts seen.name seen.joint) links.1 (w.walk.seen.each known.0 seen known.2).text in
    let one : has.0 ≡ x = w.walk.seen.one has.0 x has.2 among (has.3 ∙ known.3) in
    (has.1, says_tree x has.1 seen.joint.next (subst (λ (y : List ℕ). SaysNext y has.1 seen.joint.next) one has.4))

-- what comes of the promised bytes
pub promised : (facts : List Fact) (texts : List (List ℕ)) (fact : Fact) (say : Say) (trees : Trees) (x : List ℕ) → IsPromised fact say x → (walked : Walked) → WalksOn facts (texts ++ x ∷ []) trees walked → TakesTree facts texts fact say trees walked
promised facts texts fact say trees x p (Walked.Ask next) h = (x, p, h)
promised facts texts fact say trees x p (Walked.Ended end) h = inr (x, p, h)
promised facts texts fact say trees x p Walked.Done h = (x, p, h)
promised facts texts fact say trees x p Walked.Away h = absurd h

-- what holds anyway, holds on an error
pub on_any : {T E P : Type 0} (r : Result T E) → P → OnErr r P
on_any (Ok x) p = tt
on_any (Err y) p = p
