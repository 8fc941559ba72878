-- What a walk waits for comes next behind what was given out.
use Rattle.std.proofs.Common.{arith, ◌≡◌, ◌≢◌, ◌≤◌, ◌<◌, ◌⊎◌, ◌+◌, ◌++◌, ◌∷◌, [], ℕ, Bool, true, false, List, Option, Some, length, take, drop, slice_get, inl, inr, refl, sym, ap, subst, append_assoc, ◌∙◌}
use Rattle.std.proofs.lemmas.List.{append-nil, take_all}
use Rattle.repo_name.specs.declared.kinds.BlobKind.{BlobKind}
use Rattle.repo_name.specs.declared.names.Name.{Name}
use Rattle.repo_index.specs.declared.facts.Fact.{Fact}
use Rattle.repo_tree.specs.declared.entries.Entry.{Entry}
use Rattle.repo_tree.specs.declared.nodes.Node.{Node}
use Rattle.repo_tree.specs.declared.nodes.NodeKind.{NodeKind}
use Rattle.repo_tree.specs.Parts.{Blobs}
use Rattle.repo_tree.specs.Spelling.{NodesSpell, Spells, greatest_depth, dir_entry}
use Rattle.repo_tree.specs.TreeText.{AreInOrder}
use Rattle.repo_session.specs.declared.emissions.Emission.{Emission}
use Rattle.repo_session.specs.Rebuilding.{rebuilt, Follow}
use Rattle.repo_restore.specs.declared.nodes.Level.{Level}
use Rattle.repo_restore.specs.Positions.{nodes_in, IsNextNode, LeadsDown, IsOwnTree, IsFurtherTree, IsNextContent, IsNextFile, IsNextBlob}
use Rattle.repo_restore.specs.Walking.{FileWaits, TreeWaits, PartWaits, TreeWaitsBy, WaitsByKind, WalkWaits}
use Rattle.repo_restore.specs.Walks.{PartIs, IsOpenLevel, LeadsOn, is_open}
use Rattle.repo_restore.proofs.Flows.{follow_split}
use Rattle.repo_restore.proofs.Passing.{behind_push, later_push, nodes_push_part}
use Rattle.repo_restore.proofs.Standing.{node_next}
use Rattle.repo_restore.proofs.Summing.{around}
use Rattle.repo_restore.proofs.Trees.{open_shallow}

-- the node of an open directory that is begun comes next
next_node : (version : ℕ) (B : Blobs) (root first tree : Name) (path : List (List ℕ)) (nodes : List Node) (next : Option Name) (at : ℕ) (inside : List Entry) (node : Node) (what : NodeKind) (to : List (List ℕ))
    → IsOpenLevel version B root first tree path nodes next at inside → slice_get nodes at ≡ Some node → node.what ≡ what → path ≡ to → IsNextNode version B first to inside (record { name = node.name; what = what })
next_node version B root first tree path nodes next at inside node what to h p is same =
    let here : IsNextNode version B first path inside node = record { nodes = nodes_in h.parts ++ take at nodes; has = node_next version B root first tree path nodes next at inside node h p; spelled = h.spelled } in
    subst (λ q. IsNextNode version B first q inside (record { name = node.name; what = what })) same (subst (λ w. IsNextNode version B first path inside (record { name = node.name; what = w })) is here)

-- the names of the open directories lead down
pub record Down (version : ℕ) (B : Blobs) (from : Name) (path : List (List ℕ)) (outer : List Entry) (tree : Name) (last : List (List ℕ)) (all : List Entry) : Type 0 where
  pub names : List (List ℕ)
  pub entries : List Entry
  pub leads : LeadsDown version B from path names tree entries
  pub whole : all ≡ outer ++ entries
  pub below : last ≡ path ++ names

leads_down : (version : ℕ) (B : Blobs) (root from : Name) (path : List (List ℕ)) (outer : List Entry) (levels : List Level) (tree : Name) (last : List (List ℕ)) (all : List Entry) → LeadsOn version B root from path outer levels tree last all
    → Down version B from path outer tree last all
leads_down version B root from path outer [] tree last all h = record { names = []; entries = []; leads = (h.0, refl); whole = h.2 ∙ sym (append-nil outer); below = h.1 ∙ sym (append-nil path) }
leads_down version B root from path outer (level ∷ levels) tree last all h =
    let inside : List Entry = h.0 in
    let node : Node = h.1 in
    let begun = h.4 in
    let to : List (List ℕ) = path ++ node.name ∷ [] in
    let r = leads_down version B root h.2 to (outer ++ inside ++ dir_entry to ∷ []) levels tree last all h.6 in
    let next = next_node version B root from level.tree level.path level.nodes.items level.next begun.at inside node (NodeKind.Dir h.2) path begun.opened begun.node_is h.5 h.3 in
    record {
      names = node.name ∷ r.names;
      entries = inside ++ dir_entry to ∷ r.entries;
      leads = (h.2, inside, r.entries, next, r.leads, refl);
      whole = r.whole ∙ append_assoc (outer ++ inside) (dir_entry to ∷ []) r.entries ∙ append_assoc outer inside (dir_entry to ∷ r.entries);
      below = r.below ∙ append_assoc path (node.name ∷ []) r.names;
    }

-- no file was open where one begins
whole_before : (emitted first last : List Emission) (path : List (List ℕ)) (after : Bool) → emitted ≡ first ++ Emission.File path ∷ last → Follow false emitted after → Follow false first false
whole_before emitted first last path after is order =
    let r = follow_split false after first (Emission.File path ∷ last) (subst (λ e. Follow false e after) is order) in
    subst (λ b. Follow false first b) r.2.1.0 r.1

some_parts : (parts : List (List Node)) (nodes : List Node) → parts ++ nodes ∷ [] ≢ []
some_parts [] nodes = λ h. absurd (cc)
some_parts (part ∷ parts) nodes = λ h. absurd (cc)

-- ---- where the open directories lead

module _ (version : ℕ) (B : Blobs) (root : Name) (emitted : List Emission) where
  -- to a tree, the directory's own comes next
  pub own_at : (levels : List Level) (name : Name) (path : List (List ℕ)) → LeadsOn version B root root [] [] levels name path (rebuilt emitted) → length path ≤ greatest_depth → Follow false emitted false → IsOwnTree version B root emitted name
  own_at levels name path leads few order =
      let d = leads_down version B root root [] [] levels name path (rebuilt emitted) leads in
      record {
        path = d.names;
        leads = subst (λ all. LeadsDown version B root [] d.names name all) (sym d.whole) d.leads;
        shallow = subst (λ (p : List (List ℕ)). length p ≤ greatest_depth) d.below few;
        whole = order;
      }

  pub own_path : (levels : List Level) (name : Name) (path : List (List ℕ)) (leads : LeadsOn version B root root [] [] levels name path (rebuilt emitted)) (few : length path ≤ greatest_depth) (order : Follow false emitted false) → (own_at levels name path leads few order).path ≡ path
  unfolding own_at
  own_path levels name path leads few order = sym (leads_down version B root root [] [] levels name path (rebuilt emitted) leads).below

  module _ (levels : List Level) (level : Level) (first : Name) (before inside : List Entry) (leads : LeadsOn version B root root [] [] levels first level.path before) (order : Follow false emitted false) where
    -- to a part, the next one comes behind it
    pub further_at : (name : Name) → IsOpenLevel version B root first level.tree level.path level.nodes.items level.next (length level.nodes.items) inside → level.next ≡ Some name → rebuilt emitted ≡ before ++ inside
        → IsFurtherTree version B root emitted name
    further_at name o on whole =
        let own : List Node = level.nodes.items in
        let part = subst (λ n. PartIs version B level.tree own n) on o.read in
        let d = leads_down version B root root [] [] levels first level.path before leads in
        let all : nodes_in (o.parts ++ own ∷ []) ≡ nodes_in o.parts ++ own = nodes_push_part o.parts own in
        let spelled = subst (λ ns. NodesSpell B (Spells version B) level.path ns inside) (ap (λ ns. nodes_in o.parts ++ ns) (take_all (length own) own (omega arith)) ∙ sym all) o.spelled in
        record {
          path = d.names;
          first = first;
          before = d.entries;
          parts = o.parts ++ own ∷ [];
          inside = inside;
          leads = d.leads;
          shallow = subst (λ (p : List (List ℕ)). length p ≤ greatest_depth) d.below o.within;
          some = some_parts o.parts own;
          behind = behind_push version B first o.parts level.tree name own o.behind part;
          later = later_push o.parts own o.later o.full;
          ordered = subst AreInOrder (sym all) o.ordered;
          spelled = subst (λ p. NodesSpell B (Spells version B) p (nodes_in (o.parts ++ own ∷ [])) inside) d.below spelled;
          given = whole ∙ ap (λ b. b ++ inside) d.whole;
          whole = order;
        }

    pub further_path : (name : Name) (o : IsOpenLevel version B root first level.tree level.path level.nodes.items level.next (length level.nodes.items) inside) (on : level.next ≡ Some name) (whole : rebuilt emitted ≡ before ++ inside)
        → (further_at name o on whole).path ≡ level.path
    unfolding further_at
    further_path name o on whole = sym (leads_down version B root root [] [] levels first level.path before leads).below

    pub further_nodes : (name : Name) (o : IsOpenLevel version B root first level.tree level.path level.nodes.items level.next (length level.nodes.items) inside) (on : level.next ≡ Some name) (whole : rebuilt emitted ≡ before ++ inside)
        → nodes_in (further_at name o on whole).parts ≡ nodes_in o.parts ++ level.nodes.items
    unfolding further_at
    further_nodes name o on whole = nodes_push_part o.parts level.nodes.items

    -- to a file that is next of a part
    pub file_at : (at size : ℕ) (content : List Name) (node : Node) → IsOpenLevel version B root first level.tree level.path level.nodes.items level.next at inside → slice_get level.nodes.items at ≡ Some node → node.what ≡ NodeKind.File size content
        → rebuilt emitted ≡ before ++ inside → IsNextFile version B root emitted first node.name size content
    file_at at size content node o p is whole =
        let d = leads_down version B root root [] [] levels first level.path before leads in
        record {
          path = d.names;
          before = d.entries;
          inside = inside;
          leads = d.leads;
          shallow = subst (λ (p : List (List ℕ)). length p < greatest_depth) d.below (open_shallow version B root first level.tree level.path level.nodes.items level.next at at inside node o p);
          next = next_node version B root first level.tree level.path level.nodes.items level.next at inside node (NodeKind.File size content) d.names o p is d.below;
          given = whole ∙ ap (λ b. b ++ inside) d.whole;
          whole = order;
        }

-- ---- what a walk waits for

module _ (facts : List Fact) (version : ℕ) (B : Blobs) (root : Name) (levels : List Level) (sent : ℕ) (fact : Fact) (emitted : List Emission) where
  pub own_next : TreeWaits version B root levels fact emitted → Follow false emitted false → IsOwnTree version B root emitted fact.name
  own_next w order = own_at version B root emitted levels fact.name w.0 w.1 w.3 order

  pub further_next : PartWaits version B root levels fact emitted → Follow false emitted false → IsFurtherTree version B root emitted fact.name
  further_next w order = further_at version B root emitted w.above w.level w.first w.before w.inside w.leads order fact.name w.opened w.goes_on w.whole

  tree_next : (onward : Bool) → TreeWaitsBy onward version B root levels fact emitted → Follow false emitted false → IsOwnTree version B root emitted fact.name ⊎ IsFurtherTree version B root emitted fact.name
  tree_next true w order = inr (further_next w order)
  tree_next false w order = inl (own_next w order)

  content_next : FileWaits facts version B root levels sent fact emitted → Follow false emitted true → IsNextContent version B root emitted fact.name
  content_next w order =
      let d = leads_down version B root root [] [] w.above w.first w.level.path w.before w.leads in
      let begun = w.begun in
      let is : w.node.what ≡ NodeKind.File w.size (take sent w.content ++ fact.name ∷ drop (sent + 1) w.content) = w.file ∙ ap (λ ns. NodeKind.File w.size ns) (around w.content sent fact.name w.asked) in
      let few = open_shallow version B root w.first w.level.tree w.level.path w.level.nodes.items w.level.next begun.at begun.at w.inside w.node begun.opened begun.node_is in
      record {
        path = d.names;
        directory = w.first;
        before = d.entries;
        inside = w.inside;
        file = w.node.name;
        size = w.size;
        sent = take sent w.content;
        later = drop (sent + 1) w.content;
        leads = d.leads;
        shallow = subst (λ (p : List (List ℕ)). length p < greatest_depth) d.below few;
        next = next_node version B root w.first w.level.tree w.level.path w.level.nodes.items w.level.next begun.at w.inside w.node (NodeKind.File w.size (take sent w.content ++ fact.name ∷ drop (sent + 1) w.content)) d.names begun.opened begun.node_is is d.below;
        first = w.writing.first;
        last = w.writing.last;
        split = w.writing.split ∙ ap (λ p. w.writing.first ++ Emission.File (p ++ w.node.name ∷ []) ∷ w.writing.last) d.below;
        whole = whole_before emitted w.writing.first w.writing.last (w.level.path ++ w.node.name ∷ []) true w.writing.split order;
        given = w.writing.entries ∙ ap (λ b. b ++ w.inside) d.whole;
        pieces = w.pieces;
      }

  next_by : (kind : BlobKind) (onward : Bool) → WaitsByKind kind facts version B root levels sent onward fact emitted → Follow false emitted (is_open kind) → IsNextBlob version B root emitted kind fact.name
  next_by BlobKind.Tree onward w order = tree_next onward w order
  next_by BlobKind.Content onward w order = content_next w order

  pub waits_next : (onward : Bool) (entries : ℕ) → WalkWaits facts version B root levels sent onward entries fact emitted → IsNextBlob version B root emitted fact.kind fact.name
  waits_next onward entries h = next_by fact.kind onward h.waits h.order
