-- What open directories spell.
use Rattle.std.proofs.Common.{arith, ◌≡◌, ◌≢◌, ◌≤◌, ◌<◌, ◌+◌, ◌++◌, ◌∷◌, [], ℕ, zero, suc, List, Option, None, length, take, slice_get, Some, refl, sym, ap, subst, inl, inr, ◌⊎◌, ⊎_elim, append_assoc, length-append, ◌∙◌}
use Rattle.std.proofs.lemmas.List.{take_all}
use Rattle.std.proofs.lemmas.Option.{slice_get_within}
use Rattle.repo_name.proofs.Containing.{contains_got}
use Rattle.repo_name.specs.declared.names.Name.{Name}
use Rattle.repo_tree.specs.declared.entries.Entry.{Entry}
use Rattle.repo_tree.specs.declared.nodes.Node.{Node}
use Rattle.repo_tree.specs.declared.nodes.NodeKind.{NodeKind}
use Rattle.repo_tree.specs.Parts.{Blobs, IsTree, IsPart, IsPartBy, GoesOn, IsDirectory, ListsBy}
use Rattle.repo_tree.specs.Spelling.{NodeSpells, NodesSpell, Spells, greatest_depth, dir_entry}
use Rattle.repo_name.specs.Naming.{name}
use Rattle.repo_name.specs.declared.kinds.BlobKind.{BlobKind}
use Rattle.repo_tree.specs.TreeText.{AreInOrder, IsTreeText}
use Rattle.repo_restore.specs.Walking.{IsTextBy}
use Rattle.repo_tree.proofs.OnwardLemmas.{Onward, AreLaterFull, onward_end}
use Rattle.repo_tree.proofs.PartLemmas.{AreFull}
use Rattle.repo_tree.proofs.SpellingLemmas.{made_spelled, empty_spelled, nodes_push}
use Rattle.repo_restore.specs.declared.nodes.Level.{Level}
use Rattle.repo_session.specs.Trees.{Under, IsNodeAt, IsNoText}
use Rattle.repo_restore.specs.Positions.{LeadsThrough, ComesBehind, HaveNodes, LaterHaveNodes, nodes_in}
use Rattle.repo_restore.specs.Walks.{PartIs, IsOpenLevel, DirectoryIsBegun, LeadsOn, AtLevel, AtOpen}
use Rattle.repo_restore.proofs.Summing.{one_more}

-- ---- a directory and its parts

-- a part lists its nodes
pub part_lists : (version : ℕ) (B : Blobs) (t : Name) (nodes : List Node) (next : Option Name) → PartIs version B t nodes next → ListsBy version B t nodes
part_lists (suc (suc zero)) B t nodes next h = (next, h)
part_lists _ B t nodes next h = h.0

-- and their names ascend
pub part_ordered : (version : ℕ) (B : Blobs) (t : Name) (nodes : List Node) (next : Option Name) → PartIs version B t nodes next → AreInOrder nodes
part_ordered (suc (suc zero)) B t nodes next h = h.reads.tree.ordered
part_ordered _ B t nodes next h = h.0.reads.tree.ordered

-- a text that was received is a part
pub text_part : (version : ℕ) (B : Blobs) (t : Name) (x : List ℕ) (nodes : List Node) (next : Option Name) → B BlobKind.Tree x → name x ≡ t → IsTextBy version x nodes next → PartIs version B t nodes next
text_part (suc (suc zero)) B t x nodes next among named reads = record { text = x; among = among; named = named; reads = reads }
text_part _ B t x nodes next among named reads = (record { text = x; among = among; named = named; reads = reads.0 }, reads.1)

-- by a version other than 2 a directory goes on in none
pub text_alone : (version : ℕ) (x : List ℕ) (nodes : List Node) → version ≢ 2 → IsTreeText x nodes → IsTextBy version x nodes None
text_alone zero x nodes other h = (h, refl)
text_alone (suc zero) x nodes other h = (h, refl)
text_alone (suc (suc zero)) x nodes other h = absurd (other refl)
text_alone (suc (suc (suc v))) x nodes other h = (h, refl)

pub no_text_alone : (version : ℕ) (x : List ℕ) → version ≢ 2 → ((nodes : List Node) → ¬ IsTreeText x nodes) → IsNoText version x
no_text_alone zero x other h = h
no_text_alone (suc zero) x other h = h
no_text_alone (suc (suc zero)) x other h = absurd (other refl)
no_text_alone (suc (suc (suc v))) x other h = h

to_onward : (B : Blobs) (first : Name) (parts : List (List Node)) (tree : Name) → LeadsThrough B first parts tree → Onward B first parts tree
to_onward B first [] tree h = h
to_onward B first (nodes ∷ parts) tree h = (h.0, h.1, to_onward B h.0 parts tree h.2)

to_full : (parts : List (List Node)) → HaveNodes parts → AreFull parts
to_full [] h = tt
to_full (nodes ∷ parts) h = (h.0, to_full parts h.1)

to_later : (parts : List (List Node)) → LaterHaveNodes parts → AreLaterFull parts
to_later [] h = tt
to_later (first ∷ parts) h = to_full parts h

-- the last part ends it
is_directory : (version : ℕ) (B : Blobs) (first tree : Name) (parts : List (List Node)) (nodes : List Node) → ComesBehind version B first parts tree → LaterHaveNodes parts → (parts ≢ [] → nodes ≢ []) → PartIs version B tree nodes None
    → AreInOrder (nodes_in parts ++ nodes) → IsDirectory version B first (nodes_in parts ++ nodes)
is_directory (suc (suc zero)) B first tree parts nodes behind later full part ordered = onward_end B first tree parts nodes (to_onward B first parts tree behind) (to_later parts later) part full ordered
is_directory _ B first tree parts nodes behind later full part ordered =
    subst (λ ps. IsTree B first (nodes_in ps ++ nodes)) (sym behind.1) (subst (λ n. IsTree B n nodes) behind.0 part.0)

-- ---- paths to parts

goes_push : (B : Blobs) (t p n : Name) (through : List Name) (nodes : List Node) → GoesOn B t through p → IsPart B p nodes (Some n) → GoesOn B t (through ++ n ∷ []) n
goes_push B t p n [] nodes h part = (nodes, subst (λ m. IsPart B m nodes (Some n)) h part, refl)
goes_push B t p n (next ∷ more) nodes h part = (h.0, h.1, goes_push B next p n more nodes h.2 part)

pub no_next : (n : Name) → Some n ≡ None → ⊥
no_next n h = absurd (cc)

belongs_onward : (version : ℕ) (B : Blobs) (t part next : Name) (nodes : List Node) → IsPartBy version B t part → PartIs version B part nodes (Some next) → IsPartBy version B t next
belongs_onward (suc (suc zero)) B t part next nodes b p = (b.0 ++ next ∷ [], goes_push B t part next b.0 nodes b.1 p)
belongs_onward _ B t part next nodes b p = absurd (no_next next p.1)

-- a path that leads to a part leads to the next one
pub under_onward : (version : ℕ) (B : Blobs) (root : Name) (path : List (List ℕ)) (part : Name) (nodes : List Node) (next : Name) → Under version B root path part → PartIs version B part nodes (Some next) → Under version B root path next
under_onward version B root [] part nodes next u p = belongs_onward version B root part next nodes u p
under_onward version B root (n ∷ path) part nodes next u p = (u.0, u.1, under_onward version B u.0 path part nodes next u.2 p)

-- ---- an open one

-- one more node
pub open_more : (version : ℕ) (B : Blobs) (root first tree : Name) (path : List (List ℕ)) (nodes : List Node) (next : Option Name) (at : ℕ) (inside : List Entry) (node : Node) (more : List Entry) → IsOpenLevel version B root first tree path nodes next at inside
    → slice_get nodes at ≡ Some node → NodeSpells B (Spells version B) (path ++ node.name ∷ []) node.what more → IsOpenLevel version B root first tree path nodes next (at + 1) (inside ++ more)
open_more version B root first tree path nodes next at inside node more h p s = record {
  parts = h.parts;
  behind = h.behind;
  later = h.later;
  full = h.full;
  under = h.under;
  within = h.within;
  read = h.read;
  ordered = h.ordered;
  shallow = h.shallow;
  spelled = subst (λ ns. NodesSpell B (Spells version B) path ns (inside ++ more)) (append_assoc (nodes_in h.parts) (take at nodes) (node ∷ []) ∙ ap (λ ns. nodes_in h.parts ++ ns) (sym (one_more nodes at node p)))
      (nodes_push B (Spells version B) path (nodes_in h.parts ++ take at nodes) inside node more h.spelled s);
}

-- past the last node
pub open_all : (version : ℕ) (B : Blobs) (root first tree : Name) (path : List (List ℕ)) (nodes : List Node) (next : Option Name) (at : ℕ) (inside : List Entry) → length nodes ≤ at → IsOpenLevel version B root first tree path nodes next at inside
    → IsOpenLevel version B root first tree path nodes next (length nodes) inside
open_all version B root first tree path nodes next at inside w h = record {
  parts = h.parts;
  behind = h.behind;
  later = h.later;
  full = h.full;
  under = h.under;
  within = h.within;
  read = h.read;
  ordered = h.ordered;
  shallow = h.shallow;
  spelled = subst (λ ns. NodesSpell B (Spells version B) path (nodes_in h.parts ++ ns) inside) (take_all at nodes w ∙ sym (take_all (length nodes) nodes (omega arith))) h.spelled;
}

spelled_by : (version : ℕ) (B : Blobs) (tree : Name) (path : List (List ℕ)) (nodes : List Node) (inside : List Entry) → (length path < greatest_depth) ⊎ (nodes ≡ []) → IsDirectory version B tree nodes → NodesSpell B (Spells version B) path nodes inside
    → Spells version B tree path inside
spelled_by version B tree path nodes inside (inl w) read s = made_spelled version B tree path nodes inside w read s
spelled_by version B tree path nodes inside (inr none) read s =
    let none_inside : inside ≡ [] = subst (λ ns. NodesSpell B (Spells version B) path ns inside) none s in
    subst (λ es. Spells version B tree path es) (sym none_inside) (empty_spelled version B tree path (subst (λ ns. IsDirectory version B tree ns) none read))

-- a directory all of whose nodes were given out
pub open_spells : (version : ℕ) (B : Blobs) (root first tree : Name) (path : List (List ℕ)) (nodes : List Node) (next : Option Name) (inside : List Entry) → next ≡ None → IsOpenLevel version B root first tree path nodes next (length nodes) inside
    → Spells version B first path inside
open_spells version B root first tree path nodes next inside none h =
    let dir = is_directory version B first tree h.parts nodes h.behind h.later h.full (subst (λ n. PartIs version B tree nodes n) none h.read) h.ordered in
    spelled_by version B first path (nodes_in h.parts ++ nodes) inside h.shallow dir
    (subst (λ ns. NodesSpell B (Spells version B) path (nodes_in h.parts ++ ns) inside) (take_all (length nodes) nodes (omega arith)) h.spelled)

no_node : (before nodes : List Node) (at : ℕ) (node : Node) → before ++ nodes ≡ [] → slice_get nodes at ≡ Some node → ⊥
no_node [] [] at node h p = absurd (cc)
no_node [] (n ∷ nodes) at node h p = absurd (cc)
no_node (n ∷ before) nodes at node h p = absurd (cc)

-- a directory that has a node isn't the deepest, and so the node's path is no longer than one may be
pub open_shallow : (version : ℕ) (B : Blobs) (root first tree : Name) (path : List (List ℕ)) (nodes : List Node) (next : Option Name) (at begun : ℕ) (inside : List Entry) (node : Node) → IsOpenLevel version B root first tree path nodes next begun inside
    → slice_get nodes at ≡ Some node → length path < greatest_depth
open_shallow version B root first tree path nodes next at begun inside node h p = ⊎_elim (λ few. few) (λ none. absurd (no_node (nodes_in h.parts) nodes at node none p)) h.shallow

pub below_shallow : (path : List (List ℕ)) (name : List ℕ) → length path < greatest_depth → length (path ++ name ∷ []) ≤ greatest_depth
below_shallow path name few = omega (arith, few, length-append path (name ∷ []))

-- a node stands at its path
pub node_at : (version : ℕ) (B : Blobs) (root first tree : Name) (path : List (List ℕ)) (nodes : List Node) (next : Option Name) (at begun : ℕ) (inside : List Entry) (node : Node) → IsOpenLevel version B root first tree path nodes next begun inside
    → slice_get nodes at ≡ Some node → IsNodeAt version B root (path ++ node.name ∷ []) node.what
node_at version B root first tree path nodes next at begun inside node h p = record {
  above = path;
  name = node.name;
  tree = tree;
  nodes = nodes;
  leads = h.under;
  read = part_lists version B tree nodes next h.read;
  among = contains_got nodes at node p;
  joined = refl;
}

-- the innermost of the open directories
pub record LastOpen (version : ℕ) (B : Blobs) (root from : Name) (path : List (List ℕ)) (outer : List Entry) (levels : List Level) (level : Level) (tree : Name) (last : List (List ℕ)) (all : List Entry) : Type 0 where
  pub first : Name
  pub before : List Entry
  pub inside : List Entry
  pub node : Node
  pub leads : LeadsOn version B root from path outer levels first level.path before
  pub begun : DirectoryIsBegun version B root first level inside node
  pub dir : node.what ≡ NodeKind.Dir tree
  pub below : last ≡ level.path ++ node.name ∷ []
  pub whole : all ≡ before ++ inside ++ dir_entry (level.path ++ node.name ∷ []) ∷ []

pub leads_push : (version : ℕ) (B : Blobs) (root from : Name) (path : List (List ℕ)) (outer : List Entry) (levels : List Level) (level : Level) (tree : Name) (last : List (List ℕ)) (all : List Entry)
    → LastOpen version B root from path outer levels level tree last all → LeadsOn version B root from path outer (levels ++ level ∷ []) tree last all
leads_push version B root from path outer [] level tree last all h =
    let at : level.path ≡ path = h.leads.1 in (
      h.inside,
      h.node,
      tree,
      at,
      subst (λ t. DirectoryIsBegun version B root t level h.inside h.node) h.leads.0 h.begun,
      h.dir,
      (refl, h.below ∙ ap (λ p. p ++ h.node.name ∷ []) at, h.whole ∙ ap (λ b. b ++ h.inside ++ dir_entry (level.path ++ h.node.name ∷ []) ∷ []) h.leads.2 ∙ ap (λ p. outer ++ h.inside ++ dir_entry (p ++ h.node.name ∷ []) ∷ []) at),
    )
leads_push version B root from path outer (l ∷ levels) level tree last all h =
    let r = h.leads in (
      r.0,
      r.1,
      r.2,
      r.3,
      r.4,
      r.5,
      leads_push version B root r.2 (path ++ r.1.name ∷ []) (outer ++ r.0 ++ dir_entry (path ++ r.1.name ∷ []) ∷ []) levels level tree last all
          (record { first = h.first; before = h.before; inside = h.inside; node = h.node; leads = r.6; begun = h.begun; dir = h.dir; below = h.below; whole = h.whole }),
    )

pub leads_pop : (version : ℕ) (B : Blobs) (root from : Name) (path : List (List ℕ)) (outer : List Entry) (levels : List Level) (level : Level) (tree : Name) (last : List (List ℕ)) (all : List Entry)
    → LeadsOn version B root from path outer (levels ++ level ∷ []) tree last all → LastOpen version B root from path outer levels level tree last all
leads_pop version B root from path outer [] level tree last all h =
    let at : level.path ≡ path = h.3 in
    record {
      first = from;
      before = outer;
      inside = h.0;
      node = h.1;
      leads = (refl, at, refl);
      begun = h.4;
      dir = h.5 ∙ ap (λ t. NodeKind.Dir t) (sym h.6.0);
      below = h.6.1 ∙ ap (λ p. p ++ h.1.name ∷ []) (sym at);
      whole = h.6.2 ∙ ap (λ p. outer ++ h.0 ++ dir_entry (p ++ h.1.name ∷ []) ∷ []) (sym at);
    }
leads_pop version B root from path outer (l ∷ levels) level tree last all h =
    let r = leads_pop version B root h.2 (path ++ h.1.name ∷ []) (outer ++ h.0 ++ dir_entry (path ++ h.1.name ∷ []) ∷ []) levels level tree last all h.6 in
    record { first = r.first; before = r.before; inside = r.inside; node = r.node; leads = (h.0, h.1, h.2, h.3, h.4, h.5, r.leads); begun = r.begun; dir = r.dir; below = r.below; whole = r.whole }

-- a level all of whose nodes were given out, and that goes on in no part, is closed: the one above it goes on
pub close_level : (version : ℕ) (B : Blobs) (root : Name) (levels : List Level) (depth begun : ℕ) (level : Level) (all : List Entry) → AtLevel version B root levels depth (length level.nodes.items) level all → level.next ≡ None
    → ((above : ℕ) (l : Level) → depth ≡ above + 1 → slice_get levels above ≡ Some l → begun ≡ l.begun) → AtOpen version B root levels depth begun all
close_level version B root levels zero begun level all h none up =
    let spelled = open_spells version B root h.first level.tree level.path level.nodes.items level.next h.inside none h.opened in
    let at : all ≡ h.inside = h.whole ∙ ap (λ b. b ++ h.inside) h.leads.2 in
    subst (λ es. Spells version B root [] es) (sym at) (subst (λ t. Spells version B t [] h.inside) h.leads.0 (subst (λ p. Spells version B h.first p h.inside) h.leads.1 spelled))
close_level version B root levels (suc depth) begun level all h none up = above (got levels depth (omega (arith, slice_get_within levels (suc depth) level h.level_is)))
  where
    got : (ls : List Level) (i : ℕ) → i < length ls → (l : Level) × (slice_get ls i ≡ Some l)
    got [] i w = absurd (omega (arith, w))
    got (l ∷ ls) zero w = (l, refl)
    got (l ∷ ls) (suc i) w = got ls i (omega (arith, w))

    above : (l : Level) × (slice_get levels depth ≡ Some l) → (l : Level) × AtLevel version B root levels depth begun l all
    above found =
        let l = found.0 in
        let s : depth + 1 ≡ suc depth = omega arith in
        let same : take (suc depth) levels ≡ take depth levels ++ l ∷ [] = ap (λ j. take j levels) (sym s) ∙ one_more levels depth l found.1 in
        let r = leads_pop version B root root [] [] (take depth levels) l h.first level.path h.before (subst (λ ls. LeadsOn version B root root [] [] ls h.first level.path h.before) same h.leads) in
        let spelled = open_spells version B root h.first level.tree level.path level.nodes.items level.next h.inside none h.opened in
        let path : List (List ℕ) = l.path ++ r.node.name ∷ [] in
        let P : NodeKind → Type 0 = λ what. NodeSpells B (Spells version B) path what (dir_entry path ∷ h.inside) in
        let node_spells = subst P (sym r.dir) (h.inside, subst (λ p. Spells version B h.first p h.inside) r.below spelled, refl) in
        let more = open_more version B root r.first l.tree l.path l.nodes.items l.next r.begun.at r.inside r.node (dir_entry path ∷ h.inside) r.begun.opened r.begun.node_is node_spells in
        let counts : begun ≡ r.begun.at + 1 = up depth l (sym s) found.1 ∙ r.begun.counts in (
          l,
          record {
            first = r.first;
            before = r.before;
            inside = r.inside ++ dir_entry path ∷ h.inside;
            level_is = found.1;
            leads = r.leads;
            opened = subst (λ n. IsOpenLevel version B root r.first l.tree l.path l.nodes.items l.next n (r.inside ++ dir_entry path ∷ h.inside)) (sym counts) more;
            whole = h.whole ∙ ap (λ b. b ++ h.inside) r.whole ∙ append_assoc (r.before ++ r.inside) (dir_entry path ∷ []) h.inside ∙ append_assoc r.before r.inside (dir_entry path ∷ h.inside);
          },
        )
