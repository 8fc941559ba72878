-- The nodes of a folder's directories are in order, whatever the version, where its entries may be handed in.
use Rattle.std.proofs.Common.{◌≡◌, ◌++◌, ◌∷◌, [], ℕ, List, refl, sym, subst, Contains}
use Rattle.std.proofs.lemmas.List.Elements.{All-head, All-tail, Contains-push, Contains-append_left}
use Rattle.std.specs.List.{All}
use Rattle.repo_tree.specs.Components.{IsComponent}
use Rattle.repo_tree.specs.Paths.{IsBelow}
use Rattle.repo_tree.specs.Spelling.{dir_entry, file_entry}
use Rattle.repo_tree.specs.TreeText.{AreInOrder, StandsBefore}
use Rattle.repo_tree.specs.declared.entries.Entry.{Entry}
use Rattle.repo_backup.specs.Folders.{Folder, nothing, file_then, dir_then, joined, entries_of, nodes_of}
use Rattle.repo_backup.specs.Handed.{FollowAll, AreHanded}
use Rattle.repo_backup.proofs.PathOrder.{Names, Sound, siblings, follow_split, sound_push, sound_all, sound_none}

-- the directories in a folder are in order
abbrev pub AreOrderedBelow : ℕ → Folder → Type 0
AreOrderedBelow version nothing = Unit {0}
AreOrderedBelow version (file_then name chunks rest) = AreOrderedBelow version rest
AreOrderedBelow version (dir_then name inside rest) = AreInOrder (nodes_of version inside) × AreOrderedBelow version inside × AreOrderedBelow version rest

-- the last component of a path is one
last_component : (p : Names) (name : List ℕ) → All IsComponent (p ++ name ∷ []) → IsComponent name
last_component [] name h = All-head IsComponent name [] h
last_component (x ∷ p) name h = last_component p name (All-tail IsComponent x (p ++ name ∷ []) h)

-- a name of an entry before the rest of its directory stands before the names of this
name_before : (version : ℕ) (before : List Entry) (e : Entry) (p : Names) (name : List ℕ) (rest : Folder) → Sound before → Contains before e → e.path ≡ p ++ name ∷ [] → FollowAll before (entries_of p rest) → StandsBefore name (nodes_of version rest)
name_before version before e p name nothing sound there at h = tt
name_before version before e p name (file_then x chunks rest) sound there at h = siblings p name x (subst (λ q. IsBelow q (p ++ x ∷ [])) at (sound.lower (p ++ x ∷ []) h.0.after e there))
name_before version before e p name (dir_then x inside rest) sound there at h = siblings p name x (subst (λ q. IsBelow q (p ++ x ∷ [])) at (sound.lower (p ++ x ∷ []) h.0.after e there))

in_order : (version : ℕ) (before : List Entry) (p : Names) (folder : Folder) → Sound before → FollowAll before (entries_of p folder) → AreInOrder (nodes_of version folder) × AreOrderedBelow version folder
in_order version before p nothing sound h = (tt, tt)
in_order version before p (file_then name chunks rest) sound h =
    let e : Entry = file_entry (p ++ name ∷ []) (joined chunks) in
    let sound_now = sound_push before e sound h.0 in
    let k = in_order version (before ++ e ∷ []) p rest sound_now h.1 in
    ((last_component p name h.0.path.1, name_before version (before ++ e ∷ []) e p name rest sound_now (Contains-push before e) refl h.1, k.0), k.1)
in_order version before p (dir_then name inside rest) sound h =
    let path = p ++ name ∷ [] in
    let e : Entry = dir_entry path in
    let now = before ++ e ∷ [] in
    let sound_now = sound_push before e sound h.0 in
    let parts = follow_split now (entries_of path inside) (entries_of p rest) h.1 in
    let sound_then = sound_all now (entries_of path inside) sound_now parts.0 in
    let within = in_order version now path inside sound_now parts.0 in
    let k = in_order version (now ++ entries_of path inside) p rest sound_then parts.1 in
    let there = Contains-append_left now (entries_of path inside) e (Contains-push before e) in
    ((last_component p name h.0.path.1, name_before version (now ++ entries_of path inside) e p name rest sound_then there refl parts.1, k.0), (within.0, within.1, k.1))

-- a folder of entries that may be handed in
pub folder_order : (version : ℕ) (entries : List Entry) (folder : Folder) → AreHanded entries → entries_of [] folder ≡ entries → AreInOrder (nodes_of version folder) × AreOrderedBelow version folder
folder_order version entries folder handed holds = in_order version [] [] folder sound_none (subst (λ es. FollowAll [] es) (sym holds) handed)
