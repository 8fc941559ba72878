-- What beginning a node makes of what was given out.
use Rattle.std.proofs.Common.{arith, ◌≡◌, ◌≢◌, ◌≤◌, ◌<◌, ◌+◌, ◌++◌, ◌∷◌, [], ℕ, suc, true, false, List, length, slice_get, Some, None, refl, sym, ap, subst, inl, inr, ◌⊎◌, append_assoc, ◌∙◌, Contains}
use Rattle.std.proofs.lemmas.List.{append-nil}
use Rattle.std.proofs.lemmas.Option.{same_Some}
use Rattle.repo_name.specs.declared.kinds.BlobKind.{BlobKind}
use Rattle.repo_name.specs.declared.kinds.Thing.{Thing}
use Rattle.repo_name.specs.declared.names.Name.{Name}
use Rattle.repo_index.specs.declared.facts.Fact.{Fact}
use Rattle.repo_tree.specs.declared.entries.Entry.{Entry}
use Rattle.repo_tree.specs.declared.nodes.Node.{Node}
use Rattle.repo_tree.specs.declared.nodes.NodeKind.{NodeKind}
use Rattle.repo_tree.specs.Parts.{Blobs, ListsBy}
use Rattle.repo_tree.specs.Spelling.{Joined, NodeSpells, Spells, greatest_depth, dir_entry, file_entry}
use Rattle.repo_session.specs.declared.emissions.Emission.{Emission}
use Rattle.repo_session.specs.declared.outcomes.End.{End}
use Rattle.repo_session.specs.Rebuilding.{rebuilt, Follow}
use Rattle.repo_session.proofs.Descending.{under_more}
use Rattle.repo_session.proofs.Reaching.{under_reached, file_reached}
use Rattle.repo_restore.specs.declared.nodes.Begun.{Begun}
use Rattle.repo_restore.specs.declared.nodes.Level.{Level}
use Rattle.repo_session.specs.Trees.{Under, IsNodeAt}
use Rattle.repo_restore.specs.Walking.{NodeBegins, NextBegins, LevelStands, LevelEnds, WaitsAs, WaitsIn, WalkEnds, with_begun}
use Rattle.repo_restore.specs.Beginnings.{NodeSpellsFirst, SpellsFirst}
use Rattle.repo_restore.specs.Walks.{IsOpenLevel, IsWriting, LacksFirst, LeadsOn, PartIs, is_open, WalkGave, AtLevel, AtOpen}
use Rattle.repo_restore.specs.Restoring.{Sums}
use Rattle.repo_restore.specs.Nodes.{PartFollows}
use Rattle.repo_restore.specs.Positions.{ComesBehind, IsOwnTree, IsNextFile}
use Rattle.repo_restore.proofs.Positioning.{own_at, further_at, file_at}
use Rattle.repo_restore.proofs.Rebuilds.{rebuilt_both, writing_new, new_last}
use Rattle.repo_restore.proofs.Beginnings.{first_none}
use Rattle.repo_restore.proofs.Flows.{dir_follows, empty_follows, file_follows, gave_more}
use Rattle.repo_restore.proofs.Standing.{level_first, next_first}
use Rattle.repo_name.proofs.Containing.{contains_got, first_contained}
use Rattle.std.proofs.lemmas.List.Elements.{Contains-append_right}
use Rattle.repo_restore.proofs.Trees.{LastOpen, leads_push, part_lists, under_onward, open_shallow, below_shallow, node_at, open_more, open_all, close_level}

split : (old mid new last : List Emission) → new ≡ mid ++ last → old ++ new ≡ (old ++ mid) ++ last
split old mid new last p = ap (λ m. old ++ m) p ∙ sym (append_assoc old mid last)

-- a node that was given out whole
step_done : (facts : List Fact) (version : ℕ) (B : Blobs) (root tree : Name) (path : List (List ℕ)) (what : NodeKind) (old mid new : List Emission) → IsNodeAt version B root path what → NodeBegins facts tree path what mid new Begun.Done → WalkGave facts version B root false old mid
    → (more : List Entry) × NodeSpells B (Spells version B) path what more × (rebuilt (old ++ new) ≡ rebuilt (old ++ mid) ++ more) × WalkGave facts version B root false old new
step_done facts version B root tree path (NodeKind.Dir subtree) old mid new at h given = absurd h
step_done facts version B root tree path (NodeKind.File size content) old mid new at h given =
    let last : List Emission = Emission.File path ∷ Emission.Close ∷ [] in
    let all : content ≡ [] → Joined B content [] = λ none. subst (λ ns. Joined B ns []) (sym none) refl in
    let even : content ≡ [] → size ≡ 0 → Sums facts content size = λ none zero. subst (λ ns. Sums facts ns size) (sym none) zero in (
      file_entry path [] ∷ [],
      ([], all h.0, sym h.1, refl),
      ap (λ (e : List Emission). rebuilt e) (split old mid new last h.2) ∙ rebuilt_both (old ++ mid) last refl,
      gave_more facts version B root false false old mid new last h.2 given ((size, content, at, even h.0 h.1), (tt, tt)) (empty_follows path),
    )

-- a node that waits
step_waits : (facts : List Fact) (version : ℕ) (B : Blobs) (root tree : Name) (path : List (List ℕ)) (what : NodeKind) (old mid new : List Emission) (fact : Fact) (all : List Entry) → IsNodeAt version B root path what
    → NodeBegins facts tree path what mid new (Begun.Waits fact) → WalkGave facts version B root false old mid → rebuilt (old ++ mid) ≡ all → WaitsAs facts what path fact all (old ++ new) × WalkGave facts version B root (is_open fact.kind) old new
step_waits facts version B root tree path (NodeKind.Dir subtree) old mid new fact all at h given whole =
    let last : List Emission = Emission.Dir path ∷ [] in (
      (h.0, ap (λ (e : List Emission). rebuilt e) (split old mid new last h.1) ∙ rebuilt_both (old ++ mid) last refl ∙ ap (λ es. es ++ dir_entry path ∷ []) whole),
      subst (λ k. WalkGave facts version B root (is_open k) old new) (sym h.0.0) (gave_more facts version B root false false old mid new last h.1 given ((subtree, at), tt) (dir_follows path)),
    )
step_waits facts version B root tree path (NodeKind.File size content) old mid new fact all at h given whole =
    let last : List Emission = Emission.File path ∷ [] in (
      (h.0, h.1, h.2, subst (λ e. (writing : IsWriting e all path []) × (writing.last ≡ [])) (sym (split old mid new last h.3)) (writing_new (old ++ mid) all path whole, new_last (old ++ mid) all path whole)),
      subst (λ k. WalkGave facts version B root (is_open k) old new) (sym h.1.0) (gave_more facts version B root false true old mid new last h.3 given ((size, content, at, h.2), tt) (file_follows path)),
    )

-- nothing was given out of a node, or what it spells first
abbrev MaySpellFirst : ℕ → Blobs → List (List ℕ) → NodeKind → List Entry → Type 0
MaySpellFirst version B path what own = (own ≡ []) ⊎ NodeSpellsFirst B (SpellsFirst version B) path what false own

-- what a node gave out that can't be given out whole
step_ends : (facts : List Fact) (version : ℕ) (B : Blobs) (root tree : Name) (path : List (List ℕ)) (what : NodeKind) (old mid new : List Emission) (end : End) → IsNodeAt version B root path what → NodeBegins facts tree path what mid new (Begun.Ended end)
    → WalkGave facts version B root false old mid → (own : List Entry) × MaySpellFirst version B path what own × (rebuilt (old ++ new) ≡ rebuilt (old ++ mid) ++ own) × WalkGave facts version B root false old new
step_ends facts version B root tree path (NodeKind.Dir subtree) old mid new end at h given =
    let last : List Emission = Emission.Dir path ∷ [] in (
      dir_entry path ∷ [],
      inr ([], first_none version B subtree path, refl),
      ap (λ (e : List Emission). rebuilt e) (split old mid new last h.2) ∙ rebuilt_both (old ++ mid) last refl,
      gave_more facts version B root false false old mid new last h.2 given ((subtree, at), tt) (dir_follows path),
    )
step_ends facts version B root tree path (NodeKind.File size content) old mid new end at h given =
    ([], inl refl, ap (λ e. rebuilt (old ++ e)) h.0 ∙ sym (append-nil (rebuilt (old ++ mid))), subst (λ e. WalkGave facts version B root false old e) (sym h.0) given)

-- a node is next behind these entries: the tree of a directory comes next behind its own entry
abbrev NodeIsNext : ℕ → Blobs → Name → Name → List (List ℕ) → List ℕ → NodeKind → List Entry → Type 0
NodeIsNext version B root first path name (NodeKind.Dir subtree) all = (emitted : List Emission) → rebuilt emitted ≡ all ++ dir_entry path ∷ [] → Follow false emitted false → IsOwnTree version B root emitted subtree
NodeIsNext version B root first path name (NodeKind.File size content) all = (emitted : List Emission) → rebuilt emitted ≡ all → Follow false emitted false → IsNextFile version B root emitted first name size content

node_is_next : (version : ℕ) (B : Blobs) (root first : Name) (levels : List Level) (level : Level) (at : ℕ) (before inside : List Entry) (node : Node) (what : NodeKind) → LeadsOn version B root root [] [] levels first level.path before
    → IsOpenLevel version B root first level.tree level.path level.nodes.items level.next at inside → slice_get level.nodes.items at ≡ Some node → node.what ≡ what → NodeIsNext version B root first (level.path ++ node.name ∷ []) node.name what (before ++ inside)
node_is_next version B root first levels level at before inside node (NodeKind.Dir subtree) leads o p is = λ emitted whole order.
    let now : Level = with_begun level (at + 1) in
    let path : List (List ℕ) = level.path ++ node.name ∷ [] in
    let last : LastOpen version B root root [] [] levels now subtree path (rebuilt emitted) = record {
      first = first;
      before = before;
      inside = inside;
      node = node;
      leads = leads;
      begun = record { at = at; counts = refl; node_is = p; opened = o };
      dir = is;
      below = refl;
      whole = whole;
    } in
    own_at version B root emitted (levels ++ now ∷ []) subtree path (leads_push version B root root [] [] levels now subtree path (rebuilt emitted) last)
    (below_shallow level.path node.name (open_shallow version B root first level.tree level.path level.nodes.items level.next at at inside node o p)) order
node_is_next version B root first levels level at before inside node (NodeKind.File size content) leads o p is = λ emitted whole order. file_at version B root emitted levels level first before inside leads order at size content node o p is whole

-- why it can't
why_ends : (facts : List Fact) (version : ℕ) (B : Blobs) (root first tree : Name) (path : List (List ℕ)) (name : List ℕ) (what : NodeKind) (nodes : List Node) (old mid new : List Emission) (end : End) (above : List (List ℕ)) (all : List Entry) (parts : List (List Node))
    → ComesBehind version B first parts tree → Under version B root above tree → length above < greatest_depth → path ≡ above ++ name ∷ [] → IsNodeAt version B root path what → ListsBy version B tree nodes → Contains nodes (record { name = name; what = what })
    → NodeBegins facts tree path what mid new (Begun.Ended end) → NodeIsNext version B root first path name what all → rebuilt (old ++ mid) ≡ all → Follow false (old ++ new) false → WalkEnds facts version B root (old ++ new) end
why_ends facts version B root first tree path name (NodeKind.Dir subtree) nodes old mid new end above all parts behind under few is at read among h next whole order =
    let last : List Emission = Emission.Dir path ∷ [] in
    let entries : rebuilt (old ++ new) ≡ all ++ dir_entry path ∷ [] = ap (λ (e : List Emission). rebuilt e) (split old mid new last h.2) ∙ rebuilt_both (old ++ mid) last refl ∙ ap (λ es. es ++ dir_entry path ∷ []) whole in
    let reached = under_reached version B root (above ++ name ∷ []) subtree (below_shallow above name few) (under_more version B root above tree nodes name subtree under read among) in
    subst (λ x. WalkEnds facts version B root (old ++ new) x) (sym h.0) (BlobKind.Tree, refl, h.1, reached, inl (next (old ++ new) entries order))
why_ends facts version B root first tree path name (NodeKind.File size content) nodes old mid new end above all parts behind under few is at read among h next whole order = why h.1
  where
    here : IsNextFile version B root (old ++ new) first name size content
    here = next (old ++ new) (ap (λ e. rebuilt (old ++ e)) h.0 ∙ whole) order

    why : ((n : Name) × (end ≡ End.Missing Thing.Content n) × LacksFirst facts content n) ⊎ ((end ≡ End.BadObject Thing.Tree tree) × ((total : ℕ) × Sums facts content total × (total ≢ size))) → WalkEnds facts version B root (old ++ new) end
    why (inl m) =
        let short = subst (λ (p : List (List ℕ)). length p ≤ greatest_depth) (sym is) (below_shallow above name few) in
        let l = m.2 in
        let blob = subst (λ (ns : List Name). Contains ns m.0) (sym l.all) (Contains-append_right l.earlier (m.0 ∷ l.later) m.0 (first_contained m.0 l.later)) in
        subst (λ x. WalkEnds facts version B root (old ++ new) x) (sym m.1) (BlobKind.Content, refl, l.none, file_reached version B root path size content m.0 short at blob, (first, name, size, content, here, l))
    why (inr u) = subst (λ x. WalkEnds facts version B root (old ++ new) x) (sym u.0) (
      refl,
      (above, under, omega (arith, few)),
      record { directory = first; parts = parts; behind = behind; nodes = nodes; read = read; file = name; size = size; content = content; among = among; next = here; total = u.1.0; sums = u.1.1; other = u.1.2 },
    )

module _ (facts : List Fact) (version : ℕ) (B : Blobs) (root first : Name) (level : Level) (at : ℕ) (before : List Entry) (old mid new : List Emission) (node : Node) where
  pub begun_done : LevelStands facts version B root first level at before old mid → slice_get level.nodes.items at ≡ Some node → NodeBegins facts level.tree (level.path ++ node.name ∷ []) node.what mid new Begun.Done → LevelStands facts version B root first level (at + 1) before old new
  begun_done h p b =
      let r = step_done facts version B root level.tree (level.path ++ node.name ∷ []) node.what old mid new (node_at version B root first level.tree level.path level.nodes.items level.next at at h.inside node h.opened p) b h.given in
      record {
        inside = h.inside ++ r.0;
        opened = open_more version B root first level.tree level.path level.nodes.items level.next at h.inside node r.0 h.opened p r.1;
        whole = r.2 ∙ ap (λ es. es ++ r.0) h.whole ∙ append_assoc before h.inside r.0;
        given = r.3;
      }

  pub begun_waits : (fact : Fact) → LevelStands facts version B root first level at before old mid → slice_get level.nodes.items at ≡ Some node → NodeBegins facts level.tree (level.path ++ node.name ∷ []) node.what mid new (Begun.Waits fact)
      → WaitsIn facts version B root first level (at + 1) before old new fact
  begun_waits fact h p b =
      let r = step_waits facts version B root level.tree (level.path ++ node.name ∷ []) node.what old mid new fact (before ++ h.inside) (node_at version B root first level.tree level.path level.nodes.items level.next at at h.inside node h.opened p) b h.given h.whole in
      record { at = at; counts = refl; node = node; node_is = p; inside = h.inside; opened = h.opened; waits = r.0; given = r.1 }

  pub begun_ends : (end : End) → LevelStands facts version B root first level at before old mid → slice_get level.nodes.items at ≡ Some node → NodeBegins facts level.tree (level.path ++ node.name ∷ []) node.what mid new (Begun.Ended end)
      → ((levels : List Level) → LeadsOn version B root root [] [] levels first level.path before → WalkEnds facts version B root (old ++ new) end) × LevelEnds facts version B root first level before old new
  begun_ends end h p b =
      let o = h.opened in
      let path : List (List ℕ) = level.path ++ node.name ∷ [] in
      let stands = node_at version B root first level.tree level.path level.nodes.items level.next at at h.inside node o p in
      let few = open_shallow version B root first level.tree level.path level.nodes.items level.next at at h.inside node o p in
      let lists = part_lists version B level.tree level.nodes.items level.next o.read in
      let r = step_ends facts version B root level.tree path node.what old mid new end stands b h.given in (
        λ levels leads. why_ends facts version B root first level.tree path node.name node.what level.nodes.items old mid new end level.path (before ++ h.inside) o.parts o.behind o.under few refl stands lists (contains_got level.nodes.items at node p) b
            (node_is_next version B root first levels level at before h.inside node node.what leads o p refl) h.whole r.3.order,
        record { inside = h.inside ++ r.0; begins = begins r.0 r.1; whole = r.2 ∙ ap (λ es. es ++ r.0) h.whole ∙ append_assoc before h.inside r.0; given = r.3 },
      )
    where
      begins : (own : List Entry) → MaySpellFirst version B (level.path ++ node.name ∷ []) node.what own → SpellsFirst version B first level.path false (h.inside ++ own)
      begins own (inl none) =
          subst (λ es. SpellsFirst version B first level.path false es) (sym (ap (λ es. h.inside ++ es) none ∙ append-nil h.inside)) (level_first version B root first level.tree level.path level.nodes.items level.next at h.inside h.opened)
      begins own (inr some) = next_first version B root first level.tree level.path level.nodes.items level.next at h.inside node false own h.opened p some

-- past the last node of a level
pub stands_all : (facts : List Fact) (version : ℕ) (B : Blobs) (root first : Name) (level : Level) (at : ℕ) (before : List Entry) (old out : List Emission) → length level.nodes.items ≤ at → LevelStands facts version B root first level at before old out
    → LevelStands facts version B root first level (length level.nodes.items) before old out
stands_all facts version B root first level at before old out w h = record { inside = h.inside; opened = open_all version B root first level.tree level.path level.nodes.items level.next at h.inside w h.opened; whole = h.whole; given = h.given }

-- the level of which nodes are begun
pub at_level : (version : ℕ) (B : Blobs) (root : Name) (levels : List Level) (depth begun : ℕ) (level : Level) (all : List Entry) → slice_get levels depth ≡ Some level → AtOpen version B root levels (suc depth) begun all → AtLevel version B root levels depth begun level all
at_level version B root levels depth begun level all p h = subst (λ l. AtLevel version B root levels depth begun l all) (same_Some h.0 level (sym h.1.level_is ∙ p)) h.1

-- the next part is looked up
pub part_follows : (facts : List Fact) (version : ℕ) (B : Blobs) (root first : Name) (level : Level) (before : List Entry) (old out : List Emission) (now : ℕ) (what : Begun) → LevelStands facts version B root first level (length level.nodes.items) before old out
    → PartFollows facts level.next what → NextBegins facts version B root first level before old out now what
part_follows facts version B root first level before old out now Begun.Done h p = (h, p)
part_follows facts version B root first level before old out now (Begun.Waits fact) h p = absurd p
part_follows facts version B root first level before old out now (Begun.GoesOn fact) h p = record { stands = h; goes_on = p.0; waits = p.1 }
part_follows facts version B root first level before old out now (Begun.Ended end) h p =
    let part = subst (λ n. PartIs version B level.tree level.nodes.items n) p.1 h.opened.read in (
      λ levels leads.
          let further = further_at version B root (old ++ out) levels level first before h.inside leads h.given.order p.0 h.opened p.1 h.whole in
          let reached = under_reached version B root level.path p.0 h.opened.within (under_onward version B root level.path level.tree level.nodes.items p.0 h.opened.under part) in
          subst (λ x. WalkEnds facts version B root (old ++ out) x) (sym p.2) (BlobKind.Tree, refl, p.3, reached, inr further),
      record {
        inside = h.inside;
        begins = level_first version B root first level.tree level.path level.nodes.items level.next (length level.nodes.items) h.inside h.opened;
        whole = h.whole;
        given = h.given;
      },
    )

-- the level of which nodes are begun stands
pub level_stands : (facts : List Fact) (version : ℕ) (B : Blobs) (root : Name) (levels : List Level) (depth begun : ℕ) (level : Level) (old out : List Emission) (h : AtLevel version B root levels depth begun level (rebuilt (old ++ out)))
    → WalkGave facts version B root false old out → LevelStands facts version B root h.first level begun h.before old out
level_stands facts version B root levels depth begun level old out h given = record { inside = h.inside; opened = h.opened; whole = h.whole; given = given }

pub level_done : (facts : List Fact) (version : ℕ) (B : Blobs) (root : Name) (levels : List Level) (depth begun above : ℕ) (level : Level) (old out new : List Emission) (h : AtLevel version B root levels depth begun level (rebuilt (old ++ out)))
    → LevelStands facts version B root h.first level (length level.nodes.items) h.before old new → level.next ≡ None → ((i : ℕ) (l : Level) → depth ≡ i + 1 → slice_get levels i ≡ Some l → above ≡ l.begun) → AtOpen version B root levels depth above (rebuilt (old ++ new))
level_done facts version B root levels depth begun above level old out new h s none up =
    close_level version B root levels depth above level (rebuilt (old ++ new)) (record { first = h.first; before = h.before; inside = s.inside; level_is = h.level_is; leads = h.leads; opened = s.opened; whole = s.whole }) none up
