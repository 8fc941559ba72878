-- A name comes after those of the open directory exactly where its entry comes after the entries so far.
use Rattle.std.proofs.Common.{arith, ◌≡◌, ◌-◌, ◌++◌, ◌∷◌, [], ℕ, List, length, map, Option, Some, refl, sym, ap, subst, inl, inr, ◌⊎◌, ◌∙◌, append_assoc, append-nil, length-append}
use Rattle.std.specs.Prelude.{slice_get, IfSome}
use Rattle.std.specs.Ordering.{nat_cmp, ordering_then}
use Rattle.std.specs.declared.cmp.Ordering.{Ordering}
use Rattle.std.specs.declared.cmp.Ordering.TheVariants.{Less, Equal, Greater}
use Rattle.std.specs.Cmp.Lexicographic.{slice_cmp}
use Rattle.std.proofs.lemmas.Cmp.{nat_list_cmp_total, tied_itself}
use Rattle.repo_name.specs.Naming as naming
use Rattle.repo_tree.specs.Paths.{IsBelow}
use Rattle.repo_tree.specs.Spelling.{dir_entry, file_entry}
use Rattle.repo_tree.specs.TreeText.{last_name, Follows}
use Rattle.repo_tree.specs.declared.entries.Entry.{Entry}
use Rattle.repo_tree.specs.PartWriting.{root_text}
use Rattle.repo_tree.specs.declared.nodes.Node.{Node}
use Rattle.repo_tree.specs.declared.nodes.NodeKind.TheVariants.{File, Dir}
use Rattle.repo_backup.specs.Folders.{Folder, nothing, file_then, dir_then, joined, entries_of, nodes_of}
use Rattle.repo_backup.specs.Handed.{StandsAfter}
use Rattle.repo_backup.specs.Standings.{Around, path_of, entries_at}

-- ---- paths

names_cmp : List ℕ → List ℕ → Ordering
names_cmp a b = slice_cmp nat_cmp a b

-- a path that goes on from a name against another name in the same directory
pub tail_below : (p : List (List ℕ)) (a b : List ℕ) (t : List (List ℕ)) → (IsBelow ((p ++ a ∷ []) ++ t) (p ++ b ∷ []) → slice_cmp nat_cmp a b ≡ Less) × (slice_cmp nat_cmp a b ≡ Less → IsBelow ((p ++ a ∷ []) ++ t) (p ++ b ∷ []))
tail_below [] a b t = by t (slice_cmp nat_cmp a b) refl
  where
    by : (t : List (List ℕ)) (o : Ordering) → slice_cmp nat_cmp a b ≡ o → (ordering_then (slice_cmp nat_cmp a b) (slice_cmp (slice_cmp nat_cmp) t []) ≡ Less → slice_cmp nat_cmp a b ≡ Less)
        × (slice_cmp nat_cmp a b ≡ Less → ordering_then (slice_cmp nat_cmp a b) (slice_cmp (slice_cmp nat_cmp) t []) ≡ Less)
    by t Less e = ((λ h. e), (λ h. ap (λ o. ordering_then o (slice_cmp (slice_cmp nat_cmp) t [])) e))
    by [] Equal e = ((λ h. let k : Equal ≡ Less = sym (ap (λ o. ordering_then o Equal) e) ∙ h in absurd (cc)), (λ h. absurd (cc)))
    by (x ∷ t) Equal e = ((λ h. let k : Greater ≡ Less = sym (ap (λ o. ordering_then o Greater) e) ∙ h in absurd (cc)), (λ h. absurd (cc)))
    by t Greater e = ((λ h. let k : Greater ≡ Less = sym (ap (λ o. ordering_then o (slice_cmp (slice_cmp nat_cmp) t [])) e) ∙ h in absurd (cc)), (λ h. absurd (cc)))
tail_below (x ∷ p) a b t =
    let same = tied_itself nat_list_cmp_total x in
    let k = tail_below p a b t in
    let rest = slice_cmp (slice_cmp nat_cmp) ((p ++ a ∷ []) ++ t) (p ++ b ∷ []) in
    ((λ h. k.0 (ap (λ o. ordering_then o rest) (sym same) ∙ h)), (λ h. ap (λ o. ordering_then o rest) same ∙ k.1 h))

-- a directory is below what is in it
pub child_above : (p : List (List ℕ)) (n : List ℕ) → IsBelow p (p ++ n ∷ [])
child_above [] n = refl
child_above (x ∷ p) n = ap (λ o. ordering_then o (slice_cmp (slice_cmp nat_cmp) p (p ++ n ∷ []))) (tied_itself nat_list_cmp_total x) ∙ child_above p n

-- ---- the last entry

at_last : (before : List Entry) (l : Entry) → slice_get (before ++ l ∷ []) (length before) ≡ Some l
at_last [] l = refl
at_last (x ∷ before) l = at_last before l

last_push : (before : List Entry) (l : Entry) → slice_get (before ++ l ∷ []) (length (before ++ l ∷ []) - 1) ≡ Some l
last_push before l =
    let n : length (before ++ l ∷ []) - 1 ≡ length before = omega (arith, length-append before (l ∷ [])) in
    ap (slice_get (before ++ l ∷ [])) n ∙ at_last before l

-- after entries with this one at their end a path stands just where it is above it
pub stands_by : (before : List Entry) (l : Entry) (path : List (List ℕ)) → (StandsAfter (before ++ l ∷ []) path → IsBelow l.path path) × (IsBelow l.path path → StandsAfter (before ++ l ∷ []) path)
stands_by before l path = (
  (λ h. subst (λ (o : Option Entry). IfSome o (λ last. IsBelow last.path path)) (last_push before l) h),
  (λ h. subst (λ (o : Option Entry). IfSome o (λ last. IsBelow last.path path)) (sym (last_push before l)) h),
)

-- the last entry of what a directory holds, and its last name
pub record Lasts (version : ℕ) (path : List (List ℕ)) (folder : Folder) : Type 0 where
  pub front : List Entry
  pub entry : Entry
  pub split : entries_of path folder ≡ front ++ entry ∷ []
  pub name : List ℕ
  pub last : last_name (nodes_of version folder) ≡ Some name
  pub tail : List (List ℕ)
  pub at : entry.path ≡ (path ++ name ∷ []) ++ tail

last_behind : (node : Node) (nodes : List Node) (name : List ℕ) → last_name nodes ≡ Some name → last_name (node ∷ nodes) ≡ Some name
last_behind node [] name e = absurd (cc)
last_behind node (x ∷ xs) name e = e

pub last_in : (version : ℕ) (path : List (List ℕ)) (folder : Folder) → (folder ≡ nothing) ⊎ Lasts version path folder
last_in version path nothing = inl refl
last_in version path (file_then name chunks rest) =
    let e : Entry = file_entry (path ++ name ∷ []) (joined chunks) in
    elim (last_in version path rest) [
      | inl none ↦ inr (record {
        front = [];
        entry = e;
        split = ap (λ f. e ∷ entries_of path f) none;
        name = name;
        last = ap (λ f. last_name (nodes_of version (file_then name chunks f))) none;
        tail = [];
        at = sym (append-nil (path ++ name ∷ []));
      })
      | inr l ↦ inr (record { front = e ∷ l.front; entry = l.entry; split = ap (λ es. e ∷ es) l.split; name = l.name; last = last_behind (record { name = name; what = File (length (joined chunks)) (map naming.name chunks) }) (nodes_of version rest) l.name l.last; tail = l.tail; at = l.at })
    ]
last_in version path (dir_then name inside rest) =
    let deeper = path ++ name ∷ [] in
    let e : Entry = dir_entry deeper in
    elim (last_in version path rest) [
      | inl none ↦ elim (last_in version deeper inside) [
        | inl empty ↦ inr (record {
          front = [];
          entry = e;
          split = (λ i. e ∷ entries_of deeper (empty i) ++ entries_of path (none i));
          name = name;
          last = ap (λ f. last_name (nodes_of version (dir_then name inside f))) none;
          tail = [];
          at = sym (append-nil deeper);
        })
        | inr l ↦ inr (record {
          front = e ∷ l.front;
          entry = l.entry;
          split = ap (λ f. e ∷ entries_of deeper inside ++ entries_of path f) none ∙ ap (λ es. e ∷ es) (append-nil (entries_of deeper inside) ∙ l.split);
          name = name;
          last = ap (λ f. last_name (nodes_of version (dir_then name inside f))) none;
          tail = l.name ∷ l.tail;
          at = l.at ∙ append_assoc deeper (l.name ∷ []) l.tail;
        })
      ]
      | inr l ↦ inr (record {
        front = (e ∷ entries_of deeper inside) ++ l.front;
        entry = l.entry;
        split = ap (λ es. (e ∷ entries_of deeper inside) ++ es) l.split ∙ sym (append_assoc (e ∷ entries_of deeper inside) l.front (l.entry ∷ []));
        name = l.name;
        last = last_behind (record { name = name; what = Dir (naming.name (root_text version (nodes_of version inside))) }) (nodes_of version rest) l.name l.last;
        tail = l.tail;
        at = l.at;
      })
    ]

-- what the open directory has stands at the end
front_at : (done : Folder) (above : List Around) → (front : List Entry) × (entries_at done above ≡ front ++ entries_of (path_of above) done)
front_at done [] = ([], refl)
front_at done (a ∷ above) = (entries_at a.done above ++ dir_entry (path_of above ++ a.name ∷ []) ∷ [], refl)

pub follows_after : (version : ℕ) (done : Folder) (above : List Around) (name : List ℕ) → (StandsAfter (entries_at done above) (path_of above ++ name ∷ []) → Follows (nodes_of version done) name)
    × (Follows (nodes_of version done) name → StandsAfter (entries_at done above) (path_of above ++ name ∷ []))
follows_after version done above name = elim (last_in version (path_of above) done) [ inl none ↦ empty above none | inr l ↦ some l ]
  where
    empty : (above : List Around) → done ≡ nothing → (StandsAfter (entries_at done above) (path_of above ++ name ∷ []) → Follows (nodes_of version done) name) × (Follows (nodes_of version done) name → StandsAfter (entries_at done above) (path_of above ++ name ∷ []))
    empty [] none = ((λ h. subst (λ f. Follows (nodes_of version f) name) (sym none) tt), (λ h. subst (λ f. StandsAfter (entries_of [] f) (name ∷ [])) (sym none) tt))
    empty (a ∷ above) none =
        let path = path_of above ++ a.name ∷ [] in
        let front = entries_at a.done above in
        let at : entries_at done (a ∷ above) ≡ front ++ dir_entry path ∷ [] = ap (λ f. (front ++ dir_entry path ∷ []) ++ entries_of path f) none ∙ append-nil (front ++ dir_entry path ∷ []) in (
          (λ h. subst (λ f. Follows (nodes_of version f) name) (sym none) tt),
          (λ h. subst (λ es. StandsAfter es (path ++ name ∷ [])) (sym at) ((stands_by front (dir_entry path) (path ++ name ∷ [])).1 (child_above path name))),
        )

    some : Lasts version (path_of above) done → (StandsAfter (entries_at done above) (path_of above ++ name ∷ []) → Follows (nodes_of version done) name) × (Follows (nodes_of version done) name → StandsAfter (entries_at done above) (path_of above ++ name ∷ []))
    some l =
        let f = front_at done above in
        let at : entries_at done above ≡ (f.0 ++ l.front) ++ l.entry ∷ [] = f.1 ∙ ap (λ es. f.0 ++ es) l.split ∙ sym (append_assoc f.0 l.front (l.entry ∷ [])) in
        let by = stands_by (f.0 ++ l.front) l.entry (path_of above ++ name ∷ []) in
        let order = tail_below (path_of above) l.name name l.tail in (
          (λ h. subst (λ o. IfSome o (λ last. slice_cmp nat_cmp last name ≡ Less)) (sym l.last) (order.0 (subst (λ p. IsBelow p (path_of above ++ name ∷ [])) l.at (by.0 (subst (λ es. StandsAfter es (path_of above ++ name ∷ [])) at h))))),
          (λ h. subst (λ es. StandsAfter es (path_of above ++ name ∷ [])) (sym at) (by.1 (subst (λ p. IsBelow p (path_of above ++ name ∷ [])) (sym l.at) (order.1 (subst (λ o. IfSome o (λ last. slice_cmp nat_cmp last name ≡ Less)) l.last h))))),
        )
