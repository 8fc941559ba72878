-- The files that were closed, in a beginning of what a tree spells.
use Rattle.std.specs.Prelude.{⊤}
use Rattle.std.proofs.Common.{◌≡◌, ◌≢◌, ◌⊎◌, ◌++◌, ◌∷◌, [], ℕ, zero, suc, Bool, true, false, List, Some, flat_map, refl, sym, ap, subst, inl, inr, ◌∙◌, Contains}
use Rattle.std.proofs.lemmas.List.{append-nil}
use Rattle.std.proofs.lemmas.List.Elements.{Contains-append_left, Contains-append_right, Contains-append_cases}
use Rattle.repo_name.specs.declared.names.Name.{Name}
use Rattle.repo_name.proofs.Containing.{none_contained, first_contained, later_contained}
use Rattle.repo_tree.specs.declared.entries.Entry.{Entry}
use Rattle.repo_tree.specs.declared.entries.EntryKind.{EntryKind}
use Rattle.repo_tree.specs.declared.nodes.Node.{Node}
use Rattle.repo_tree.specs.declared.nodes.NodeKind.{NodeKind}
use Rattle.repo_tree.specs.Parts.{Blobs, GoesOn, IsPartBy, HasNode}
use Rattle.repo_tree.specs.Spelling.{NodeSpells, NodesSpell, SpellsTo, Spells, dir_entry, file_entry}
use Rattle.repo_tree.proofs.DirectoryLemmas.{directory_lists}
use Rattle.repo_session.specs.declared.emissions.Emission.{Emission}
use Rattle.repo_session.specs.Rebuilding.{rebuilt, Follow}
use Rattle.repo_session.specs.Traces.{Each}
use Rattle.repo_session.specs.Trees.{Under, IsNodeAt}
use Rattle.repo_session.proofs.Descending.{part_self, under_more}
use Rattle.repo_session.proofs.Receiving.{each_both}
use Rattle.repo_restore.specs.Beginnings.{FirstChain, HasFirstNodes, NodeSpellsFirst, SpellsFirstTo, IsBeginning}
use Rattle.repo_restore.specs.Restoring.{IsFileAt}
use Rattle.repo_restore.specs.Walks.{ArePieces}
use Rattle.repo_restore.proofs.Flows.{follow_split}
use Rattle.repo_restore.proofs.Rebuilds.{rebuilt_both, pieces_are, pieces_alone}

-- ---- from a directory to its parts

goes_through : (B : Blobs) (t part last : Name) (between more : List Name) → GoesOn B t between part → GoesOn B part more last → GoesOn B t (between ++ more) last
goes_through B t part last [] more h g = subst (λ u. GoesOn B u more last) h g
goes_through B t part last (next ∷ between) more h g = (h.0, h.1, goes_through B next part last between more h.2 g)

part_through : (version : ℕ) (B : Blobs) (t part last : Name) → IsPartBy version B t part → IsPartBy version B part last → IsPartBy version B t last
part_through (suc (suc zero)) B t part last h g = (h.0 ++ g.0, goes_through B t part last h.0 g.0 h.1 g.1)
part_through _ B t part last h g = g ∙ h

pub under_part : (version : ℕ) (B : Blobs) (root : Name) (path : List (List ℕ)) (t part : Name) → Under version B root path t → IsPartBy version B t part → Under version B root path part
under_part version B root [] t part u on = part_through version B root t part u on
under_part version B root (n ∷ path) t part u on = (u.0, u.1, under_part version B u.0 path t part u.2 on)

-- a node of a directory stands at its path
pub node_stands : (version : ℕ) (B : Blobs) (root : Name) (path : List (List ℕ)) (t : Name) (node : Node) → Under version B root path t → HasNode version B t node → IsNodeAt version B root (path ++ node.name ∷ []) node.what
node_stands version B root path t node u h =
    record { above = path; name = node.name; tree = h.part; nodes = h.own; leads = under_part version B root path t h.part u h.belongs; read = h.lists; among = h.among; joined = refl }

-- ---- the first nodes of a directory are nodes of its trees

chain_lists : (B : Blobs) (t : Name) (first : List Node) (more : List (List Node)) (node : Node) → FirstChain B t first more → Contains (first ++ flat_map (λ part. part) more) node → HasNode 2 B t node
chain_lists B t first [] node h c = elim (Contains-append_cases first [] node c) [
  | inl here ↦ record { part = t; own = first; belongs = ([], refl); lists = h; among = here }
  | inr none ↦ absurd (none_contained node none)
]
chain_lists B t first (second ∷ more) node h c = elim (Contains-append_cases first (second ++ flat_map (λ part. part) more) node c) [
  | inl here ↦ record { part = t; own = first; belongs = ([], refl); lists = (Some h.0, h.1); among = here }
  | inr later ↦ let r = chain_lists B h.0 second more node h.3 later in
      record { part = r.part; own = r.own; belongs = (h.0 ∷ r.belongs.0, (first, h.1, r.belongs.1)); lists = r.lists; among = r.among }
]

pub first_lists : (version : ℕ) (B : Blobs) (t : Name) (nodes : List Node) (node : Node) → HasFirstNodes version B t nodes → Contains nodes node → HasNode version B t node
first_lists (suc (suc zero)) B t nodes node h c = chain_lists B t h.0 h.1 node h.3 (subst (λ ns. Contains ns node) (sym h.4) (Contains-append_left nodes h.2 node c))
first_lists _ B t nodes node h c = record { part = t; own = nodes ++ h.0; belongs = refl; lists = h.1; among = Contains-append_left nodes h.0 node c }

-- ---- each file that is spelled has the bytes that a tree lists at its path

module _ (version : ℕ) (B : Blobs) (root : Name) where
  abbrev IsHeldBy : List (List ℕ) → EntryKind → Type 0
  IsHeldBy path EntryKind.Dir = ⊤
  IsHeldBy path (EntryKind.File bytes) = IsFileAt version B root path bytes

  abbrev IsHeld : Entry → Type 0
  IsHeld entry = IsHeldBy entry.path entry.what

  node_held : (S : Name → List (List ℕ) → List Entry → Type 0) → ((t : Name) (at : List (List ℕ)) (inside : List Entry) → Under version B root at t → S t at inside → Each IsHeld inside)
      → (path : List (List ℕ)) (t : Name) (name : List ℕ) (what : NodeKind) (entries : List Entry) → Under version B root path t → HasNode version B t (record { name = name; what = what }) → NodeSpells B S (path ++ name ∷ []) what entries → Each IsHeld entries
  node_held S sub path t name (NodeKind.File size content) entries u has h =
      subst (λ es. Each IsHeld es) (sym h.3) ((size, content, node_stands version B root path t (record { name = name; what = NodeKind.File size content }) u has, h.1, h.2), tt)
  node_held S sub path t name (NodeKind.Dir subtree) entries u has h =
      let at = under_more version B root path has.part has.own name subtree (under_part version B root path t has.part u has.belongs) has.lists has.among in
      subst (λ es. Each IsHeld es) (sym h.2) (tt, sub subtree (path ++ name ∷ []) h.0 at h.1)

  nodes_held : (S : Name → List (List ℕ) → List Entry → Type 0) → ((t : Name) (at : List (List ℕ)) (inside : List Entry) → Under version B root at t → S t at inside → Each IsHeld inside)
      → (path : List (List ℕ)) (t : Name) (nodes : List Node) (entries : List Entry) → Under version B root path t → ((node : Node) → Contains nodes node → HasNode version B t node) → NodesSpell B S path nodes entries → Each IsHeld entries
  nodes_held S sub path t [] entries u has h = subst (λ es. Each IsHeld es) (sym h) tt
  nodes_held S sub path t (node ∷ nodes) entries u has h =
      let first = node_held S sub path t node.name node.what h.0 u (has node (first_contained node nodes)) h.2 in
      let rest = nodes_held S sub path t nodes h.1 u (λ other c. has other (later_contained node nodes other c)) h.3 in
      subst (λ es. Each IsHeld es) (sym h.4) (each_both IsHeld h.0 h.1 first rest)

  spelled_held : (depth : ℕ) (t : Name) (path : List (List ℕ)) (entries : List Entry) → Under version B root path t → SpellsTo version depth B t path entries → Each IsHeld entries
  spelled_held zero t path entries u h = subst (λ es. Each IsHeld es) (sym h.1) tt
  spelled_held (suc depth) t path entries u h =
      nodes_held (SpellsTo version depth B) (λ s at inside under spells. spelled_held depth s at inside under spells) path t h.0 entries u (λ node c. directory_lists version B t h.0 node h.1 c) h.2

  -- where a file is open, it is the last one
  abbrev AreHeld : Bool → List Entry → Type 0
  AreHeld within [] = ⊤
  AreHeld within (entry ∷ []) = within ≡ false → IsHeld entry
  AreHeld within (entry ∷ next ∷ more) = IsHeld entry × AreHeld within (next ∷ more)

  held_more : (within : Bool) (entry : Entry) (more : List Entry) → IsHeld entry → AreHeld within more → AreHeld within (entry ∷ more)
  held_more within entry [] h g = λ none. h
  held_more within entry (next ∷ more) h g = (h, g)

  held_both : (within : Bool) (before own : List Entry) → Each IsHeld before → AreHeld within own → AreHeld within (before ++ own)
  held_both within [] own h g = g
  held_both within (entry ∷ before) own h g = held_more within entry (before ++ own) h.0 (held_both within before own h.1 g)

  held_all : (within : Bool) (entries : List Entry) → Each IsHeld entries → AreHeld within entries
  held_all within entries h = subst (λ es. AreHeld within es) (append-nil entries) (held_both within entries [] h tt)

  next_held : (S : Name → List (List ℕ) → Bool → List Entry → Type 0) (path : List (List ℕ)) (t : Name) (name : List ℕ) (what : NodeKind) (within : Bool) (entries : List Entry)
      → ((s : Name) (at : List (List ℕ)) (inside : List Entry) → Under version B root at s → S s at within inside → AreHeld within inside) → Under version B root path t → HasNode version B t (record { name = name; what = what })
      → NodeSpellsFirst B S (path ++ name ∷ []) what within entries → AreHeld within entries
  next_held S path t name (NodeKind.Dir subtree) within entries sub u has h =
      let at = under_more version B root path has.part has.own name subtree (under_part version B root path t has.part u has.belongs) has.lists has.among in
      subst (λ es. AreHeld within es) (sym h.2) (held_more within (dir_entry (path ++ name ∷ [])) h.0 tt (sub subtree (path ++ name ∷ []) h.0 at h.1))
  next_held S path t name (NodeKind.File size content) within entries sub u has h = subst (λ es. AreHeld within es) (sym h.5) (λ none. (let w : true ≡ false = sym h.0 ∙ none in absurd (cc)))

  first_held : (depth : ℕ) (t : Name) (path : List (List ℕ)) (within : Bool) (entries : List Entry) → Under version B root path t → SpellsFirstTo version depth B t path within entries → AreHeld within entries
  first_held zero t path within entries u h = subst (λ es. AreHeld within es) (sym h.1) tt
  first_held (suc depth) t path within entries u (inl none) = subst (λ es. AreHeld within es) (sym none.1) tt
  first_held (suc depth) t path within entries u (inr (inl some)) =
      held_all within entries (nodes_held (Spells version B) (λ s at inside under spells. spelled_held _ s at inside under spells) path t some.1.0 entries u (λ node c. first_lists version B t some.1.0 node some.1.1 c) some.1.2)
  first_held (suc depth) t path within entries u (inr (inr h)) =
      let each = nodes_held (Spells version B) (λ s at inside under spells. spelled_held _ s at inside under spells) path t h.nodes h.before u (λ node c. first_lists version B t (h.nodes ++ h.next ∷ []) node h.has (Contains-append_left h.nodes (h.next ∷ []) node c)) h.spelled in
      let has = first_lists version B t (h.nodes ++ h.next ∷ []) h.next h.has (Contains-append_right h.nodes (h.next ∷ []) h.next (first_contained h.next [])) in
      subst (λ es. AreHeld within es) (sym h.whole) (held_both within h.before h.own each (next_held (SpellsFirstTo version depth B) path t h.next.name h.next.what within h.own (λ s at inside under spells. first_held depth s at within inside under spells) u has h.begun))

  -- a file that isn't the last one, or isn't open, is held
  one_held : (within : Bool) (before : List Entry) (entry : Entry) (after : List Entry) → AreHeld within (before ++ entry ∷ after) → (within ≡ false) ⊎ (after ≢ []) → IsHeld entry
  one_held within [] entry [] h (inl none) = h none
  one_held within [] entry [] h (inr some) = absurd (some refl)
  one_held within [] entry (next ∷ after) h closed = h.0
  one_held within (first ∷ []) entry after h closed = one_held within [] entry after h.1 closed
  one_held within (first ∷ second ∷ before) entry after h closed = one_held within (second ∷ before) entry after h.1 closed

-- behind a close a file is open only where another one begins
closed_since : (after : List Emission) (within : Bool) → Follow false after within → (within ≡ false) ⊎ (rebuilt after ≢ [])
closed_since [] within f = inl f
closed_since (Emission.Dir path ∷ more) within f = inr (λ e. absurd (cc))
closed_since (Emission.File path ∷ more) within f = inr (λ e. absurd (cc))
closed_since (Emission.Piece bytes ∷ more) within f = let no = f.1.0 in absurd (cc)
closed_since (Emission.Close ∷ more) within f = let no = f.1.0 in absurd (cc)

-- wherever one was closed
pub file_closed : (version : ℕ) (B : Blobs) (root : Name) (before inside after : List Emission) (path : List (List ℕ)) (bytes : List ℕ) → IsBeginning version B root (before ++ Emission.File path ∷ (inside ++ Emission.Close ∷ after)) → ArePieces inside bytes
    → IsFileAt version B root path bytes
file_closed version B root before inside after path bytes h are =
    let here : List Emission = Emission.File path ∷ (inside ++ Emission.Close ∷ after) in
    let entries : rebuilt (before ++ here) ≡ rebuilt before ++ file_entry path bytes ∷ rebuilt after = rebuilt_both before here refl
    ∙ ap (λ b. rebuilt before ++ file_entry path b ∷ rebuilt (inside ++ Emission.Close ∷ after)) (pieces_are inside after bytes are)
    ∙ ap (λ es. rebuilt before ++ file_entry path bytes ∷ es) (pieces_alone inside after bytes are) in
    let begins = follow_split false h.0 before here h.1 in
    let pieced = follow_split begins.2.0 h.0 inside (Emission.Close ∷ after) begins.2.2 in
    let last = pieced.2 in
    let since = closed_since after h.0 (subst (λ b. Follow b after h.0) last.1.1 last.2) in
    let held = first_held version B root _ root [] h.0 (rebuilt (before ++ here)) (part_self version B root) h.2 in
    one_held version B root h.0 (rebuilt before) (file_entry path bytes) (rebuilt after) (subst (λ es. AreHeld version B root h.0 es) entries held) since
