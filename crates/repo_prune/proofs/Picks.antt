-- What is picked from a list.
use Rattle.std.proofs.Common.{arith, ◌≡◌, ◌<◌, ◌+◌, ◌++◌, ◌∷◌, ◌↔◌, [], ℕ, Bool, IsTrue, true, false, List, BTreeSet, length, take, get_or, suc, cond, refl, sym, ap, subst, ◌∙◌, inl, inr, Contains}
use Rattle.std.specs.List.{filter}
use Rattle.std.proofs.Math.Bool.{beq}
use Rattle.std.proofs.Math.Seq.{take-suc}
use Rattle.std.specs.BTreeMap.{is_at}
use Rattle.std.specs.BTreeSet.{contains}
use Rattle.std.specs.Ordering.{is_eq}
use Rattle.std.specs.declared.cmp.Ordering.{Ordering}
use Rattle.std.specs.declared.cmp.Ordering.TheVariants.{Less, Equal, Greater}
use Rattle.std.proofs.lemmas.Cmp.{eq_by_cmp_equiv}
use Rattle.std.proofs.lemmas.List.Elements.{Contains-append_left, Contains-append_right, Contains-append_cases}
use Rattle.repo_index.specs.Order.{names_total}
use Rattle.repo_index.proofs.OrderLemmas.{names_exact}
use Rattle.repo_name.specs.Naming.{name_cmp}
use Rattle.repo_name.specs.declared.names.Name.{Name}
use Rattle.repo_prune.specs.declared.choices.Choice.{Choice}
use Rattle.repo_prune.specs.declared.keeping.Policy.{Policy}
use Rattle.repo_prune.specs.Keeping.{Row, AreKept}
use Rattle.repo_prune.specs.Forgetting.{IsChosen, AreChosenOf}
use Rattle.repo_prune.specs.inner.Picking.{ArePicked}
use Rattle.repo_name.proofs.Containing.{none_contained, first_contained, contained_or}
use Rattle.repo_prune.proofs.Those.{those_alike, those_passed}

-- what passes the test of a set stands among its names as it is wanted to
pub picked_by_set : (held : Name → Bool) (listed names : List Name) (among : Bool) → ((n : Name) → IsTrue (held n) ↔ Contains names n) → ArePicked listed names among (filter (λ n. beq (held n) among) listed)
picked_by_set held listed names among holds = those_passed (λ (n : Name). IsTrue among ↔ Contains names n) (λ n. beq (held n) among) (λ n. (
  λ passed. (λ wanted. (holds n).0 (same_true (held n) among passed wanted), λ there. true_same (held n) among passed ((holds n).1 there)),
  λ both. same_both (held n) among (λ is. (holds n).0 is) (λ is. (holds n).1 is) both,
)) listed
  where
    same_true : (a b : Bool) → beq a b ≡ true → b ≡ true → a ≡ true
    same_true true b is wanted = refl
    same_true false true is wanted = is
    same_true false false is wanted = wanted

    true_same : (a b : Bool) → beq a b ≡ true → a ≡ true → b ≡ true
    true_same true true is h = refl
    true_same true false is h = is
    true_same false b is h = absurd (cc)

    same_both : {T : Type 0} (a b : Bool) → (a ≡ true → T) → (T → a ≡ true) → (IsTrue b ↔ T) → beq a b ≡ true
    same_both true true there back both = refl
    same_both true false there back both = both.1 (there refl)
    same_both false true there back both = back (both.0 refl)
    same_both false false there back both = refl

-- ---- by a choice

-- those of the names that were given
pub chosen_by_names : (names : List Name) (rows : List Row) (listed picked : List Name) → ArePicked listed names true picked → AreChosenOf (Choice.Names names) rows listed picked
chosen_by_names names rows listed picked h = those_alike (λ (n : Name). IsTrue true ↔ Contains names n) (λ n. Contains names n) (λ n. (λ is. is.0 refl, λ among. (λ _. among, λ _. refl))) listed picked h

-- those of which the policy keeps none
pub chosen_by_policy : (policy : Policy) (rows : List Row) (kept listed picked : List Name) → AreKept policy rows kept → ArePicked listed kept false picked → AreChosenOf (Choice.Keep policy) rows listed picked
chosen_by_policy policy rows kept listed picked k h = those_alike (λ (n : Name). IsTrue false ↔ Contains kept n) (IsChosen (Choice.Keep policy) rows) (λ n. (
  λ un row among named is. (let never = un.1 ((k.each n).1 (row, among, named, is)) in absurd (cc)),
  λ chosen. (λ never. absurd (cc), λ has. let r = (k.each n).0 has in absurd (chosen r.0 r.1 r.2 r.3)),
)) listed picked h

-- ---- sets

pub is_equal : (o : Ordering) → is_eq o ≡ true → o ≡ Equal
is_equal Less h = absurd (cc)
is_equal Equal h = refl
is_equal Greater h = absurd (cc)

-- one more name of a set
module _ (old new : BTreeSet Name) (names : List Name) (i : ℕ) (d : Name) (within : i < length names)
    (updates : (q : Name) → contains name_cmp new q ≡ cond (is_at (name_cmp (get_or names i d)) q) true (contains name_cmp old q))
    (before : (n : Name) → IsTrue (contains name_cmp old n) ↔ Contains (take i names) n) where
  more : take (i + 1) names ≡ take i names ++ get_or names i d ∷ []
  more = let s : i + 1 ≡ suc i = omega arith in ap (λ j. take j names) s ∙ take-suc names i d within

  there : (n : Name) (b : Bool) → is_at (name_cmp (get_or names i d)) n ≡ b → cond b true (contains name_cmp old n) ≡ true → Contains (take i names ++ get_or names i d ∷ []) n
  there n true q h = Contains-append_right (take i names) (get_or names i d ∷ []) n (subst (λ z. Contains (z ∷ []) n) (sym (names_exact (get_or names i d) n (is_equal (name_cmp (get_or names i d) n) q))) (first_contained n []))
  there n false q h = Contains-append_left (take i names) (get_or names i d ∷ []) n ((before n).0 h)

  back : (n : Name) (b : Bool) → is_at (name_cmp (get_or names i d)) n ≡ b → Contains (take i names ++ get_or names i d ∷ []) n → cond b true (contains name_cmp old n) ≡ true
  back n true q h = refl
  back n false q h = elim (Contains-append_cases (take i names) (get_or names i d ∷ []) n h) [
    | inl earlier ↦ (before n).1 earlier
    | inr now ↦ elim (contained_or (get_or names i d) [] n now) [
      | inl same ↦ let itself : is_at (name_cmp n) n ≡ true = (eq_by_cmp_equiv names_total).refl n in let other : is_at (name_cmp n) n ≡ false = subst (λ z. is_at (name_cmp z) n ≡ false) same q in absurd (cc)
      | inr none ↦ absurd (none_contained n none)
    ]
  ]

  pub one_inserted : (n : Name) → IsTrue (contains name_cmp new n) ↔ Contains (take (i + 1) names) n
  one_inserted n = (
    λ h. subst (λ l. Contains l n) (sym more) (there n (is_at (name_cmp (get_or names i d)) n) refl (sym (updates n) ∙ h)),
    λ h. updates n ∙ back n (is_at (name_cmp (get_or names i d)) n) refl (subst (λ l. Contains l n) more h),
  )
