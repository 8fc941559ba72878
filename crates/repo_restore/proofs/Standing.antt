-- Where a walk stands, all that it gave out is a beginning of what the root spells.
use Rattle.std.proofs.Common.{arith, ◌≡◌, ◌≢◌, ◌≤◌, ◌<◌, ◌+◌, ◌++◌, ◌∷◌, [], ℕ, zero, suc, Bool, true, false, List, Option, Some, length, take, drop, slice_get, refl, sym, ap, subst, inl, inr, ◌⊎◌, append_assoc, take-append-drop, ◌∙◌}
use Rattle.std.proofs.lemmas.List.{append-nil}
use Rattle.repo_name.specs.declared.kinds.BlobKind.{BlobKind}
use Rattle.repo_name.specs.declared.names.Name.{Name}
use Rattle.repo_index.specs.declared.facts.Fact.{Fact}
use Rattle.repo_tree.specs.declared.entries.Entry.{Entry}
use Rattle.repo_tree.specs.declared.nodes.Node.{Node}
use Rattle.repo_tree.specs.declared.nodes.NodeKind.{NodeKind}
use Rattle.repo_tree.specs.Parts.{Blobs, IsPart, IsTree}
use Rattle.repo_tree.specs.Spelling.{NodesSpell, Spells, greatest_depth, dir_entry, file_entry}
use Rattle.repo_tree.specs.TreeText.{AreInOrder}
use Rattle.repo_tree.proofs.OnwardLemmas.{joined_push}
use Rattle.repo_session.specs.declared.emissions.Emission.{Emission}
use Rattle.repo_session.specs.Rebuilding.{rebuilt}
use Rattle.repo_session.specs.Traces.{Each}
use Rattle.repo_restore.specs.declared.nodes.Level.{Level}
use Rattle.repo_restore.specs.declared.walks.Turn.{Turn}
use Rattle.repo_restore.specs.Beginnings.{FirstChain, HasFirstNodes, NodeSpellsFirst, SpellsFirst, IsBeginning}
use Rattle.repo_restore.specs.Walking.{LevelEnds, TreeWaitsBy, WaitsByKind, WalkWaits, TurnGives}
use Rattle.repo_restore.specs.Positions.{LeadsThrough, ComesBehind, HaveNodes, LaterHaveNodes, nodes_in}
use Rattle.repo_restore.specs.Walks.{PartIs, IsOpenLevel, DirectoryIsBegun, IsFile, IsWriting, LeadsOn, WalkGives, WalkStopped, is_open}
use Rattle.repo_restore.proofs.Beginnings.{first_none, first_nodes, first_next, all_spelled}
use Rattle.repo_restore.proofs.Rebuilds.{writing_open}
use Rattle.repo_restore.proofs.Summing.{one_more}

-- ---- the first nodes of an open directory

chain_on : (B : Blobs) (t tree : Name) (first : List Node) (parts : List (List Node)) (nodes : List Node) (next : Option Name) → ((onto : Name) × IsPart B t first (Some onto) × LeadsThrough B onto parts tree) → HaveNodes parts → nodes ≢ []
    → IsPart B tree nodes next → FirstChain B t first (parts ++ nodes ∷ [])
chain_on B t tree first [] nodes next h full some part = (h.0, h.1, some, (next, subst (λ n. IsPart B n nodes next) h.2 part))
chain_on B t tree first (second ∷ parts) nodes next h full some part = (h.0, h.1, full.0, chain_on B h.0 tree second parts nodes next h.2 full.1 some part)

-- those that were begun, and all others
with_others : (before nodes : List Node) (n : ℕ) → (before ++ take n nodes) ++ drop n nodes ≡ before ++ nodes
with_others before nodes n = append_assoc before (take n nodes) (drop n nodes) ∙ ap (λ ns. before ++ ns) (take-append-drop n nodes)

parts_first : (B : Blobs) (first tree : Name) (parts : List (List Node)) (nodes : List Node) (next : Option Name) (n : ℕ) → LeadsThrough B first parts tree → LaterHaveNodes parts → (parts ≢ [] → nodes ≢ []) → IsPart B tree nodes next
    → AreInOrder (nodes_in parts ++ nodes) → HasFirstNodes 2 B first (nodes_in parts ++ take n nodes)
parts_first B first tree [] nodes next n behind later full part ordered =
    (nodes, [], drop n nodes, (next, subst (λ t. IsPart B t nodes next) behind part), append-nil nodes ∙ sym (with_others [] nodes n), subst AreInOrder (sym (with_others [] nodes n)) ordered)
parts_first B first tree (own ∷ parts) nodes next n behind later full part ordered =
    let all = with_others (nodes_in (own ∷ parts)) nodes n in (
      own,
      parts ++ nodes ∷ [],
      drop n nodes,
      chain_on B first tree own parts nodes next behind later (full (λ e. absurd (cc))) part,
      ap (λ ns. own ++ ns) (joined_push parts nodes) ∙ sym (append_assoc own (nodes_in parts) nodes) ∙ sym all,
      subst AreInOrder (sym all) ordered,
    )

tree_first : (B : Blobs) (first tree : Name) (parts : List (List Node)) (nodes : List Node) (n : ℕ) → tree ≡ first → parts ≡ [] → IsTree B tree nodes → IsTree B first ((nodes_in parts ++ take n nodes) ++ drop n nodes)
tree_first B first tree parts nodes n same none read =
    subst (λ ps. IsTree B first ((nodes_in ps ++ take n nodes) ++ drop n nodes)) (sym none) (subst (λ ns. IsTree B first ns) (sym (with_others [] nodes n)) (subst (λ t. IsTree B t nodes) same read))

by_version : (version : ℕ) (B : Blobs) (first tree : Name) (parts : List (List Node)) (nodes : List Node) (next : Option Name) (n : ℕ) → ComesBehind version B first parts tree → LaterHaveNodes parts → (parts ≢ [] → nodes ≢ [])
    → PartIs version B tree nodes next → AreInOrder (nodes_in parts ++ nodes) → HasFirstNodes version B first (nodes_in parts ++ take n nodes)
by_version (suc (suc zero)) B first tree parts nodes next n behind later full part ordered = parts_first B first tree parts nodes next n behind later full part ordered
by_version _ B first tree parts nodes next n behind later full part ordered = (drop n nodes, tree_first B first tree parts nodes n behind.0 behind.1 part.0)

open_first : (version : ℕ) (B : Blobs) (root first tree : Name) (path : List (List ℕ)) (nodes : List Node) (next : Option Name) (begun : ℕ) (inside : List Entry) (h : IsOpenLevel version B root first tree path nodes next begun inside) (n : ℕ)
    → HasFirstNodes version B first (nodes_in h.parts ++ take n nodes)
open_first version B root first tree path nodes next begun inside h n = by_version version B first tree h.parts nodes next n h.behind h.later h.full h.read h.ordered

take_none : (n : ℕ) → take {A = Node} n [] ≡ []
take_none zero = refl
take_none (suc n) = refl

none_begun : (before nodes : List Node) (n : ℕ) → before ++ nodes ≡ [] → before ++ take n nodes ≡ []
none_begun [] nodes n h = ap (λ ns. take n ns) h ∙ take_none n
none_begun (node ∷ before) nodes n h = absurd (cc)

-- what an open directory's first nodes spell, it spells first
pub level_first : (version : ℕ) (B : Blobs) (root first tree : Name) (path : List (List ℕ)) (nodes : List Node) (next : Option Name) (begun : ℕ) (inside : List Entry) → IsOpenLevel version B root first tree path nodes next begun inside
    → SpellsFirst version B first path false inside
level_first version B root first tree path nodes next begun inside h = by h.shallow
  where
    by : (length path < greatest_depth) ⊎ (nodes_in h.parts ++ nodes ≡ []) → SpellsFirst version B first path false inside
    by (inl lt) = first_nodes version B first path (nodes_in h.parts ++ take begun nodes) inside lt (open_first version B root first tree path nodes next begun inside h begun) h.spelled
    by (inr none) =
        let nothing : inside ≡ [] = subst (λ ns. NodesSpell B (Spells version B) path ns inside) (none_begun (nodes_in h.parts) nodes begun none) h.spelled in
        subst (λ (es : List Entry). SpellsFirst version B first path false es) (sym nothing) (first_none version B first path)

-- those up to a node
pub node_next : (version : ℕ) (B : Blobs) (root first tree : Name) (path : List (List ℕ)) (nodes : List Node) (next : Option Name) (at : ℕ) (inside : List Entry) (node : Node) (h : IsOpenLevel version B root first tree path nodes next at inside)
    → slice_get nodes at ≡ Some node → HasFirstNodes version B first ((nodes_in h.parts ++ take at nodes) ++ node ∷ [])
node_next version B root first tree path nodes next at inside node h p = subst (λ ns. HasFirstNodes version B first ns) (ap (λ ns. nodes_in h.parts ++ ns) (one_more nodes at node p) ∙ sym (append_assoc (nodes_in h.parts) (take at nodes) (node ∷ [])))
    (open_first version B root first tree path nodes next at inside h (at + 1))

no_node : (before nodes : List Node) (at : ℕ) (node : Node) → before ++ nodes ≡ [] → slice_get nodes at ≡ Some node → ⊥
no_node [] [] at node h p = absurd (cc)
no_node [] (n ∷ nodes) at node h p = absurd (cc)
no_node (n ∷ before) nodes at node h p = absurd (cc)

-- and then what the next one spells first
pub next_first : (version : ℕ) (B : Blobs) (root first tree : Name) (path : List (List ℕ)) (nodes : List Node) (next : Option Name) (at : ℕ) (inside : List Entry) (node : Node) (within : Bool) (own : List Entry)
    → IsOpenLevel version B root first tree path nodes next at inside → slice_get nodes at ≡ Some node → NodeSpellsFirst B (SpellsFirst version B) (path ++ node.name ∷ []) node.what within own → SpellsFirst version B first path within (inside ++ own)
next_first version B root first tree path nodes next at inside node within own h p begun = by h.shallow
  where
    has : HasFirstNodes version B first ((nodes_in h.parts ++ take at nodes) ++ node ∷ [])
    has = node_next version B root first tree path nodes next at inside node h p

    by : (length path < greatest_depth) ⊎ (nodes_in h.parts ++ nodes ≡ []) → SpellsFirst version B first path within (inside ++ own)
    by (inl lt) = first_next version B first path (nodes_in h.parts ++ take at nodes) node within inside own lt has h.spelled begun
    by (inr none) = absurd (no_node (nodes_in h.parts) nodes at node none p)

-- ---- from a directory up to the one from which the open ones lead to it

pub leads_first : (version : ℕ) (B : Blobs) (root from : Name) (path : List (List ℕ)) (outer : List Entry) (levels : List Level) (tree : Name) (last : List (List ℕ)) (all : List Entry) (within : Bool) (more : List Entry)
    → LeadsOn version B root from path outer levels tree last all → SpellsFirst version B tree last within more → (own : List Entry) × (all ++ more ≡ outer ++ own) × SpellsFirst version B from path within own
leads_first version B root from path outer [] tree last all within more h s =
    (more, ap (λ es. es ++ more) h.2, subst (λ t. SpellsFirst version B t path within more) h.0 (subst (λ p. SpellsFirst version B tree p within more) h.1 s))
leads_first version B root from path outer (level ∷ levels) tree last all within more h s =
    let inside = h.0 in
    let node = h.1 in
    let begun = h.4 in
    let to : List (List ℕ) = path ++ node.name ∷ [] in
    let r = leads_first version B root h.2 to (outer ++ inside ++ dir_entry to ∷ []) levels tree last all within more h.6 s in
    let P : List (List ℕ) → Type 0 = λ p. SpellsFirst version B h.2 (p ++ node.name ∷ []) within r.0 in
    let own : List Entry = dir_entry (level.path ++ node.name ∷ []) ∷ r.0 in
    let N : NodeKind → Type 0 = λ what. NodeSpellsFirst B (SpellsFirst version B) (level.path ++ node.name ∷ []) what within own in
    let spells = next_first version B root from level.tree level.path level.nodes.items level.next begun.at inside node within own begun.opened begun.node_is (subst N (sym h.5) (r.0, subst P (sym h.3) r.2, refl)) in
    let same : dir_entry to ∷ r.0 ≡ own = ap (λ p. dir_entry (p ++ node.name ∷ []) ∷ r.0) (sym h.3) in (
      inside ++ own,
      r.1 ∙ append_assoc (outer ++ inside) (dir_entry to ∷ []) r.0 ∙ append_assoc outer inside (dir_entry to ∷ r.0) ∙ ap (λ es. outer ++ (inside ++ es)) same,
      subst (λ p. SpellsFirst version B from p within (inside ++ own)) h.3 spells,
    )

-- from the root
pub root_first : (version : ℕ) (B : Blobs) (root : Name) (levels : List Level) (tree : Name) (last : List (List ℕ)) (all entries : List Entry) (within : Bool) (more : List Entry) → LeadsOn version B root root [] [] levels tree last all
    → SpellsFirst version B tree last within more → entries ≡ all ++ more → SpellsFirst version B root [] within entries
root_first version B root levels tree last all entries within more h s is =
    let r = leads_first version B root root [] [] levels tree last all within more h s in
    subst (λ es. SpellsFirst version B root [] within es) (sym (is ∙ r.1)) r.2

-- ---- where a walk waits

-- with a file open
pub file_first : (facts : List Fact) (version : ℕ) (B : Blobs) (root first : Name) (above : List Level) (level : Level) (before inside : List Entry) (node : Node) (size sent : ℕ) (content : List Name) (bytes : List ℕ) (emitted : List Emission)
    → LeadsOn version B root root [] [] above first level.path before → DirectoryIsBegun version B root first level inside node → node.what ≡ NodeKind.File size content → IsFile facts B size content sent bytes
    → IsWriting emitted (before ++ inside) (level.path ++ node.name ∷ []) bytes → SpellsFirst version B root [] true (rebuilt emitted)
file_first facts version B root first above level before inside node size sent content bytes emitted leads begun file part writing =
    let path : List (List ℕ) = level.path ++ node.name ∷ [] in
    let own : List Entry = file_entry path bytes ∷ [] in
    let few : length bytes ≤ size = omega (arith, part.even) in
    let N : NodeKind → Type 0 = λ what. NodeSpellsFirst B (SpellsFirst version B) path what true own in
    let here = next_first version B root first level.tree level.path level.nodes.items level.next begun.at inside node true own begun.opened begun.node_is (subst N (sym file) (refl, sent, bytes, part.joined, few, refl)) in
    root_first version B root above first level.path before (rebuilt emitted) true (inside ++ own) leads here (writing_open emitted (before ++ inside) path bytes writing ∙ append_assoc before inside own)

tree_waits_first : (onward : Bool) (version : ℕ) (B : Blobs) (root : Name) (levels : List Level) (fact : Fact) (emitted : List Emission) → TreeWaitsBy onward version B root levels fact emitted → SpellsFirst version B root [] false (rebuilt emitted)
tree_waits_first true version B root levels fact emitted h =
    let here = level_first version B root h.first h.level.tree h.level.path h.level.nodes.items h.level.next (length h.level.nodes.items) h.inside h.opened in
    root_first version B root h.above h.first h.level.path h.before (rebuilt emitted) false h.inside h.leads here h.whole
tree_waits_first false version B root levels fact emitted h =
    root_first version B root levels fact.name h.0 (rebuilt emitted) (rebuilt emitted) false [] h.1 (first_none version B fact.name h.0) (sym (append-nil (rebuilt emitted)))

kind_first : (kind : BlobKind) (facts : List Fact) (version : ℕ) (B : Blobs) (root : Name) (levels : List Level) (sent : ℕ) (onward : Bool) (fact : Fact) (emitted : List Emission) → WaitsByKind kind facts version B root levels sent onward fact emitted
    → SpellsFirst version B root [] (is_open kind) (rebuilt emitted)
kind_first BlobKind.Content facts version B root levels sent onward fact emitted h =
    file_first facts version B root h.first h.above h.level h.before h.inside h.node h.size sent h.content h.bytes emitted h.leads h.begun h.file h.part h.writing
kind_first BlobKind.Tree facts version B root levels sent onward fact emitted h = tree_waits_first onward version B root levels fact emitted h

pub waits_beginning : (facts : List Fact) (version : ℕ) (B : Blobs) (root : Name) (levels : List Level) (sent : ℕ) (onward : Bool) (entries : ℕ) (fact : Fact) (emitted : List Emission)
    → WalkWaits facts version B root levels sent onward entries fact emitted → IsBeginning version B root emitted
waits_beginning facts version B root levels sent onward entries fact emitted h = (is_open fact.kind, h.order, kind_first fact.kind facts version B root levels sent onward fact emitted h.waits)

-- ---- what comes of a step

-- nothing more was given out where it ends
pub stopped_none : (facts : List Fact) (version : ℕ) (B : Blobs) (root : Name) (levels : List Level) (sent : ℕ) (onward : Bool) (entries : ℕ) (fact : Fact) (old out : List Emission) → out ≡ []
    → WalkWaits facts version B root levels sent onward entries fact old → WalkStopped facts version B root old out
stopped_none facts version B root levels sent onward entries fact old out none h = record {
  each = subst (λ e. Each (WalkGives facts version B root) e) (sym none) tt;
  begins = subst (λ e. IsBeginning version B root e) (sym (ap (λ e. old ++ e) none ∙ append-nil old)) (waits_beginning facts version B root levels sent onward entries fact old h);
}

-- nor before
pub stopped_first : (facts : List Fact) (version : ℕ) (B : Blobs) (root : Name) → WalkStopped facts version B root [] []
stopped_first facts version B root = record { each = tt; begins = (false, refl, first_none version B root []) }

-- it ends at a level
pub level_stopped : (facts : List Fact) (version : ℕ) (B : Blobs) (root first : Name) (levels : List Level) (level : Level) (before : List Entry) (old out : List Emission) → LeadsOn version B root root [] [] levels first level.path before
    → LevelEnds facts version B root first level before old out → WalkStopped facts version B root old out
level_stopped facts version B root first levels level before old out leads h =
    record { each = h.given.each; begins = (false, h.given.order, root_first version B root levels first level.path before (rebuilt (old ++ out)) false h.inside leads h.begins h.whole) }

-- whatever comes of it, all that was given out is a beginning
pub turn_beginning : (came : Option Name) (facts : List Fact) (version : ℕ) (B : Blobs) (root : Name) (levels : List Level) (sent : ℕ) (onward : Bool) (entries : ℕ) (old out : List Emission) (turn : Turn) → TurnGives came facts version B root levels sent onward entries old out turn
    → IsBeginning version B root (old ++ out)
turn_beginning came facts version B root levels sent onward entries old out (Turn.Ask fact) h = waits_beginning facts version B root levels sent onward entries fact (old ++ out) h.0
turn_beginning came facts version B root levels sent onward entries old out (Turn.Complete count) h = (false, h.2.order, all_spelled version B root [] (rebuilt (old ++ out)) h.0)
turn_beginning came facts version B root levels sent onward entries old out (Turn.Ended end) h = h.1.begins
