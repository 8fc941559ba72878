-- What items spell that may be taken may be handed in.
use Rattle.std.proofs.Common.{arith, ◌≡◌, ◌≢◌, ◌⊎◌, lit≤, ◌<◌, ◌≤◌, ◌-◌, ◌++◌, ◌∷◌, [], ℕ, List, length, Option, Some, None, refl, sym, ap, subst, inl, inr, ◌∙◌, length-append, Contains}
use Rattle.std.specs.Bool.{⊤}
use Rattle.std.proofs.lemmas.List.Elements.{All-nil, All-push, All-take, Contains-push, Contains-append_left}
use Rattle.std.specs.List.{All}
use Rattle.repo_name.specs.Limits.{file_end}
use Rattle.repo_tree.specs.Components.{IsComponent}
use Rattle.repo_tree.specs.Spelling.{dir_entry, file_entry, greatest_depth}
use Rattle.repo_tree.specs.declared.entries.Entry.{Entry}
use Rattle.repo_backup.specs.Handed.{StandsAfter, IsSmall, MayFollow, AreHanded}
use Rattle.repo_session.specs.Feeds.{Fed, fed_dir, fed_file, fed_bytes, fed_close, fed_end, fed_abandon}
use Rattle.repo_backup.specs.Items.{Feeding, FileSoFar, Place, outer_of, after, closed, with_more, place_of, MayTake, MayGrow, AreTaken}
use Rattle.repo_backup.specs.ItemLaws.{SpelledAreHanded}
use Rattle.repo_backup.proofs.PathOrder.{sound, follow_push, last_split}
use Rattle.repo_backup.proofs.Lengthening.{outer_path}

-- what is known of an open file
abbrev pub IsFileFit : List Entry → List (List ℕ) → Option FileSoFar → Type 0
IsFileFit es path None = ⊤
IsFileFit es path (Some f) = IsComponent f.name × StandsAfter es (path ++ f.name ∷ []) × (length (path ++ f.name ∷ []) ≤ greatest_depth) × (length f.bytes < file_end)

-- what is known of a place to which items lead that may be taken
pub record Fit (p : Place) : Type 0 where
  pub handed : AreHanded p.entries
  pub inside : (p.path ≡ []) ⊎ Contains p.entries (dir_entry p.path)
  pub path : All IsComponent p.path
  pub file : IsFileFit p.entries p.path p.file

-- an entry of this name in the open directory may follow
may_follow : (p : Place) (name : List ℕ) (e : Entry) → Fit p → e.path ≡ p.path ++ name ∷ [] → IsComponent name → StandsAfter p.entries (p.path ++ name ∷ []) → length (p.path ++ name ∷ []) ≤ greatest_depth → IsSmall e.what → MayFollow p.entries e
may_follow p name e fit at component stands depth small = record {
  path = ((λ none. absurd (omega (arith, ap length (sym at ∙ none), length-append p.path (name ∷ [])))), subst (λ q. All IsComponent q) (sym at) (All-push IsComponent p.path name fit.path component));
  after = subst (λ q. StandsAfter p.entries q) (sym at) stands;
  parent = (p.path, name, at, fit.inside);
  depth = subst (λ (q : List (List ℕ)). length q ≤ greatest_depth) (sym at) depth;
  small = small;
}

-- a path that isn't empty lies in its outer one
outer_split : (path : List (List ℕ)) → path ≢ [] → (name : List ℕ) × (path ≡ outer_of path ++ name ∷ [])
outer_split path some =
    let k = last_split path some in
    (k.1, k.2 ∙ ap (λ q. q ++ k.1 ∷ []) (sym (outer_path k.0 k.1) ∙ ap outer_of (sym k.2)))

decided : (path : List (List ℕ)) → (path ≡ []) ⊎ (path ≢ [])
decided [] = inl refl
decided (n ∷ path) = inr (λ e. absurd (cc))

-- the directory around one among the entries is the root, or among them
outer_inside : (es : List Entry) (path : List (List ℕ)) → AreHanded es → (path ≡ []) ⊎ Contains es (dir_entry path) → (outer_of path ≡ []) ⊎ Contains es (dir_entry (outer_of path))
outer_inside es path handed (inl root) = inl (ap outer_of root)
outer_inside es path handed (inr there) = elim (decided (outer_of path)) [
  | inl root ↦ inl root
  | inr some ↦ elim (decided path) [
    | inl none ↦ inl (ap outer_of none)
    | inr deep ↦
        let k = outer_split path deep in
        inr ((sound es handed).closed (dir_entry path) there (outer_of path) (k.0 ∷ []) k.1 some (λ e. absurd (cc)))
  ]
]

fit_close : (p : Place) (file : Option FileSoFar) → p.file ≡ file → Fit p → Fit (closed file p)
fit_close p None is fit = record {
  handed = fit.handed;
  inside = outer_inside p.entries p.path fit.handed fit.inside;
  path = All-take IsComponent (length p.path - 1) p.path fit.path;
  file = tt;
}
fit_close p (Some f) is fit =
    let known = subst (λ o. IsFileFit p.entries p.path o) is fit.file in
    let e : Entry = file_entry (p.path ++ f.name ∷ []) f.bytes in
    record {
      handed = follow_push [] p.entries e fit.handed (may_follow p f.name e fit refl known.0 known.1 known.2 known.3);
      inside = elim fit.inside [ inl root ↦ inl root | inr there ↦ inr (Contains-append_left p.entries (e ∷ []) (dir_entry p.path) there) ];
      path = fit.path;
      file = tt;
    }

fit_more : (es : List Entry) (path : List (List ℕ)) (more : List ℕ) (file : Option FileSoFar) → MayGrow file more → IsFileFit es path file → IsFileFit es path (with_more more file)
fit_more es path more None may fit = absurd may
fit_more es path more (Some f) may fit = (fit.0, fit.1, fit.2, omega (arith, may, length-append f.bytes more))

fit_on : (p : Place) (item : Fed) → MayTake p item → Fit p → Fit (after p item)
fit_on p (fed_dir name) may fit =
    let e : Entry = dir_entry (p.path ++ name ∷ []) in
    record {
      handed = follow_push [] p.entries e fit.handed (may_follow p name e fit refl may.0 may.1.1 may.2 tt);
      inside = inr (Contains-push p.entries e);
      path = All-push IsComponent p.path name fit.path may.0;
      file = subst (λ o. IsFileFit (p.entries ++ e ∷ []) (p.path ++ name ∷ []) o) (sym may.1.0) tt;
    }
fit_on p (fed_file name) may fit = record { handed = fit.handed; inside = fit.inside; path = fit.path; file = (may.0, may.1.1, may.2, lit≤ tt) }
fit_on p (fed_bytes bytes) may fit = record { handed = fit.handed; inside = fit.inside; path = fit.path; file = fit_more p.entries p.path bytes p.file may fit.file }
fit_on p fed_close may fit = fit_close p p.file refl fit
fit_on p fed_end may fit = record { handed = fit.handed; inside = fit.inside; path = fit.path; file = fit.file }
fit_on p fed_abandon may fit = fit

pub fit_of : (items : Feeding) → AreTaken items → Fit (place_of items)
fit_of [] taken = record { handed = tt; inside = inl refl; path = All-nil IsComponent; file = tt }
fit_of (item ∷ items) taken = fit_on (place_of items) item taken.2 (fit_of items taken.3)

pub spelled_are_handed : SpelledAreHanded
spelled_are_handed items taken = (fit_of items taken).handed
