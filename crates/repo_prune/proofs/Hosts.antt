-- What is chosen of one host.
use Rattle.std.proofs.Common.{◌≡◌, ◌≢◌, ◌+◌, ◌++◌, ◌∷◌, ◌↔◌, [], ℕ, Bool, IsTrue, true, false, List, Some, take, slice_get, refl, sym, ap, subst, ◌∙◌, inl, inr, Contains, nat_eq}
use Rattle.std.specs.Cmp.Lexicographic.{pointwise, bytes_decides}
use Rattle.std.proofs.lemmas.List.Elements.{Contains-append_left, Contains-append_right, Contains-append_cases}
use Rattle.repo_name.proofs.Containing.{none_contained, first_contained, contained_or}
use Rattle.repo_name.specs.declared.names.Name.{Name}
use Rattle.repo_prune.specs.declared.choices.Choice.{Choice}
use Rattle.repo_prune.specs.declared.keeping.Policy.{Policy}
use Rattle.repo_prune.specs.Keeping.{Row, AreKept}
use Rattle.repo_prune.specs.Forgetting.{IsChosen, AreChosenOf}
use Rattle.repo_prune.specs.inner.Picking.{ArePicked, AreOfOthers}
use Rattle.repo_prune.proofs.Repacking.{one_taken}
use Rattle.repo_prune.proofs.Those.{those_alike, those_of_those}

-- bytes that aren't others are the same
stable : (a b : List ℕ) → ((a ≢ b) → ⊥) → a ≡ b
stable a b h = go (pointwise nat_eq a b) refl
  where
    go : (r : Bool) → pointwise nat_eq a b ≡ r → a ≡ b
    go true q = (bytes_decides a b).0 q
    go false q = absurd (h (λ e. let t : pointwise nat_eq a b ≡ true = (bytes_decides a b).1 e in let w : true ≡ false = sym t ∙ q in absurd (cc)))

module _ (host : List ℕ) (rows : List Row) (names : List Name) (row : Row) (before : AreOfOthers host rows names) where
  -- one more row of another host
  pub one_added : row.1.host ≢ host → AreOfOthers host (rows ++ row ∷ []) (names ++ row.0 ∷ [])
  one_added other n = (
    λ has. elim (Contains-append_cases names (row.0 ∷ []) n has) [
      | inl earlier ↦ let r = (before n).0 earlier in (r.0, Contains-append_left rows (row ∷ []) r.0 r.1, r.2, r.3)
      | inr now ↦ elim (contained_or row.0 [] n now) [
        | inl same ↦ (row, Contains-append_right rows (row ∷ []) row (first_contained row []), same, other)
        | inr none ↦ absurd (none_contained n none)
      ]
    ],
    λ there. elim (Contains-append_cases rows (row ∷ []) there.0 there.1) [
      | inl earlier ↦ Contains-append_left names (row.0 ∷ []) n ((before n).1 (there.0, earlier, there.2, there.3))
      | inr now ↦ elim (contained_or row [] there.0 now) [
        | inl same ↦ let is : row.0 ≡ n = ap (λ r. r.0) same ∙ there.2 in Contains-append_right names (row.0 ∷ []) n (subst (λ z. Contains (z ∷ []) n) (sym is) (first_contained n []))
        | inr none ↦ absurd (none_contained there.0 none)
      ]
    ],
  )

  -- one more row of this host
  pub one_passed : row.1.host ≡ host → AreOfOthers host (rows ++ row ∷ []) names
  one_passed is n = (
    λ has. let r = (before n).0 has in (r.0, Contains-append_left rows (row ∷ []) r.0 r.1, r.2, r.3),
    λ there. elim (Contains-append_cases rows (row ∷ []) there.0 there.1) [
      | inl earlier ↦ (before n).1 (there.0, earlier, there.2, there.3)
      | inr now ↦ elim (contained_or row [] there.0 now) [
        | inl same ↦ absurd (there.3 (ap (λ (r : Row). r.1.host) (sym same) ∙ is))
        | inr none ↦ absurd (none_contained there.0 none)
      ]
    ],
  )

-- the next row, of another host or of this one
module _ (host : List ℕ) (rows : List Row) (names : List Name) (i : ℕ) (row : Row) (here : slice_get rows i ≡ Some row) (before : AreOfOthers host (take i rows) names) where
  pub next_added : row.1.host ≢ host → AreOfOthers host (take (i + 1) rows) (names ++ row.0 ∷ [])
  next_added other = subst (λ rs. AreOfOthers host rs (names ++ row.0 ∷ [])) (sym (one_taken rows i row here)) (one_added host (take i rows) names row before other)

  pub next_passed : row.1.host ≡ host → AreOfOthers host (take (i + 1) rows) names
  next_passed is = subst (λ rs. AreOfOthers host rs names) (sym (one_taken rows i row here)) (one_passed host (take i rows) names row before is)

-- those of this host of which the policy keeps none
pub chosen_by_host : (host : List ℕ) (policy : Policy) (rows : List Row) (kept others listed gone picked : List Name) → AreKept policy rows kept → AreOfOthers host rows others → ArePicked listed kept false gone → ArePicked gone others false picked
    → AreChosenOf (Choice.KeepOf host policy) rows listed picked
chosen_by_host host policy rows kept others listed gone picked k o first last =
    let Unkept : Name → Type 0 = λ n. IsTrue false ↔ Contains kept n in
    let Unlike : Name → Type 0 = λ n. IsTrue false ↔ Contains others n in
    those_alike (λ n. Unkept n × Unlike n) (IsChosen (Choice.KeepOf host policy) rows) (λ n. (
      λ both row among named. (
        stable row.1.host host (λ other. let never = both.1.1 ((o n).1 (row, among, named, other)) in absurd (cc)),
        λ is. let never = both.0.1 ((k.each n).1 (row, among, named, is)) in absurd (cc),
      ),
      λ chosen. (
        (λ never. absurd (cc), λ has. let r = (k.each n).0 has in absurd ((chosen r.0 r.1 r.2).1 r.3)),
        (λ never. absurd (cc), λ has. let r = (o n).0 has in absurd (r.3 (chosen r.0 r.1 r.2).0)),
      ),
    )) listed picked (those_of_those Unkept Unlike listed gone picked first last)
