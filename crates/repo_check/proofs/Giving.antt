-- What visits give, gathered in a set.
use Rattle.std.proofs.Common.{◌≡◌, ◌<◌, ◌+◌, ◌∷◌, [], ℕ, Bool, true, false, cond, IsTrue, BTreeSet, List, length, drop, get_or, refl, inl, inr, ⊎_elim, ◌⊎◌, ◌↔◌, sym, ap, subst, ◌∙◌, Contains}
use Rattle.std.specs.Prelude.{IfOk, OnOk, Result, Ok, Err}
use Rattle.std.specs.BTreeMap.{is_at}
use Rattle.std.specs.BTreeSet.{contains}
use Rattle.std.specs.Ordering.{is_eq}
use Rattle.std.specs.List.Sorted.{IsStrictlySortedBy}
use Rattle.std.specs.declared.cmp.Ordering.{Ordering}
use Rattle.std.specs.declared.cmp.Ordering.TheVariants.{Less, Equal, Greater}
use Rattle.std.proofs.lemmas.Cmp.{tied_itself}
use Rattle.std.proofs.lemmas.Map.Views.{btree_set_contains_iff}
use Rattle.repo_name.specs.Naming.{name_cmp}
use Rattle.repo_name.specs.declared.names.Name.{Name}
use Rattle.repo_index.specs.Order.{names_total}
use Rattle.repo_index.proofs.OrderLemmas.{names_exact}
use Rattle.repo_name.proofs.Containing.{none_contained, first_contained, later_contained, contained_or}
use Rattle.repo_check.specs.Gathering.{AreGiven, HasGiven}
use Rattle.repo_check.specs.inner.Gaining.{AddsGiven, AddsSuch}
use Rattle.repo_check.specs.Keeping.{KeptTrees}
use Rattle.repo_check.specs.Visiting.{Gives, IsGiven}
use Rattle.repo_check.specs.declared.visiting.Gift.{Gift}
use Rattle.repo_check.specs.declared.visiting.Visit.{Visit}
use Rattle.repo_check.proofs.Measuring.{left_at}

is_equal : (o : Ordering) → is_eq o ≡ true → o ≡ Equal
is_equal Less h = absurd (cc h)
is_equal Equal h = refl
is_equal Greater h = absurd (cc h)

cond_cases : (b c : Bool) → cond b true c ≡ true → (b ≡ true) ⊎ (c ≡ true)
cond_cases true c h = inl refl
cond_cases false c h = inr h

cond_either : (b c : Bool) → (b ≡ true) ⊎ (c ≡ true) → cond b true c ≡ true
cond_either true c h = refl
cond_either false c (inl h) = absurd (cc h)
cond_either false c (inr h) = h

-- a set with one name more
one_added : (old new : BTreeSet Name) (k : Name) → ((q : Name) → contains name_cmp new q ≡ cond (is_at (name_cmp k) q) true (contains name_cmp old q))
    → (n : Name) → IsTrue (contains name_cmp new n) ↔ (IsTrue (contains name_cmp old n) ⊎ (k ≡ n))
one_added old new k updates n = (
  λ h. elim (cond_cases (is_at (name_cmp k) n) (contains name_cmp old n) (sym (updates n) ∙ h)) [ inl at ↦ inr (names_exact k n (is_equal (name_cmp k n) at)) | inr there ↦ inl there ],
  λ h. updates n ∙ cond_either (is_at (name_cmp k) n) (contains name_cmp old n) (elim h [
    | inl there ↦ inr there
    | inr same ↦ inl (subst (λ m. is_at (name_cmp k) m ≡ true) same (ap is_eq (tied_itself names_total k)))
  ]),
)

-- a name goes from what is left into the set
pub names_next : (old new : BTreeSet Name) (names : List Name) (i : ℕ) (d : Name) → i < length names
    → ((q : Name) → contains name_cmp new q ≡ cond (is_at (name_cmp (get_or names i d)) q) true (contains name_cmp old q)) → (Whole : Name → Type 0)
    → ((n : Name) → (IsTrue (contains name_cmp old n) ⊎ Contains (drop i names) n) ↔ Whole n) → (n : Name) → (IsTrue (contains name_cmp new n) ⊎ Contains (drop (i + 1) names) n) ↔ Whole n
names_next old new names i d less updates Whole before n =
    let k = get_or names i d in
    let rest = drop (i + 1) names in
    let split = left_at names i d less in
    let one = one_added old new k updates n in
    let back : Contains (k ∷ rest) n → Contains (drop i names) n = λ c. subst (λ ns. Contains ns n) (sym split) c in (
      λ h. (before n).0 (elim h [
        | inl is ↦ elim (one.0 is) [ inl there ↦ inl there | inr same ↦ inr (back (subst (λ m. Contains (k ∷ rest) m) same (first_contained k rest))) ]
        | inr left ↦ inr (back (later_contained k rest n left))
      ]),
      λ h. elim ((before n).1 h) [
        | inl there ↦ inl (one.1 (inl there))
        | inr left ↦ elim (contained_or k rest n (subst (λ ns. Contains ns n) split left)) [ inl same ↦ inl (one.1 (inr same)) | inr more ↦ inr more ]
      ],
    )

-- a visit goes from what is left of some, with what it gives
abbrev pub Gathered : Gift → KeptTrees → List Visit → BTreeSet Name → List Visit → Type 0
Gathered gift trees visits set left = (n : Name) → (IsTrue (contains name_cmp set n) ⊎ IsGiven gift trees left n) ↔ IsGiven gift trees visits n

pub given_next : (gift : Gift) (trees : KeptTrees) (old new : BTreeSet Name) (visits : List Visit) (i : ℕ) (d : Visit) → i < length visits → AddsGiven gift trees old (get_or visits i d) new
    → Gathered gift trees visits old (drop i visits) → Gathered gift trees visits new (drop (i + 1) visits)
given_next gift trees old new visits i d less adds before n =
    let k = get_or visits i d in
    let rest = drop (i + 1) visits in
    let split = left_at visits i d less in
    let back : (v : Visit) → Contains (k ∷ rest) v → Contains (drop i visits) v = λ v c. subst (λ vs. Contains vs v) (sym split) c in (
      λ h. (before n).0 (elim h [
        | inl is ↦ elim ((adds n).0 is) [ inl there ↦ inl there | inr here ↦ inr (k, back k (first_contained k rest), here) ]
        | inr left ↦ inr (left.0, back left.0 (later_contained k rest left.0 left.1), left.2)
      ]),
      λ h. elim ((before n).1 h) [
        | inl there ↦ inl ((adds n).1 (inl there))
        | inr left ↦ elim (contained_or k rest left.0 (subst (λ vs. Contains vs left.0) split left.1)) [
          | inl same ↦ inl ((adds n).1 (inr (subst (λ v. Gives gift trees v n) (sym same) left.2)))
          | inr more ↦ inr (left.0, more, left.2)
        ]
      ],
    )

-- at the end it has all
pub gathered_all : (gift : Gift) (trees : KeptTrees) (visits : List Visit) (set : BTreeSet Name) (left : List Visit) → left ≡ [] → Gathered gift trees visits set left → HasGiven gift trees visits set
gathered_all gift trees visits set left none h n = (
  λ is. (h n).0 (inl is),
  λ g. elim ((h n).1 g) [ inl is ↦ is | inr l ↦ absurd (none_contained l.0 (subst (λ vs. Contains vs l.0) none l.1)) ],
)

pub are_given : (gift : Gift) (trees : KeptTrees) (visits : List Visit) (set : BTreeSet Name) (names : List Name) → HasGiven gift trees visits set → names ≡ set.keys → IsStrictlySortedBy name_cmp names → AreGiven gift trees visits names
are_given gift trees visits set names has same sorted = record {
  each = λ n. (
    λ c. (has n).0 ((btree_set_contains_iff names_total names_exact set n).1 (subst (λ ns. Contains ns n) same c)),
    λ g. subst (λ ns. Contains ns n) (sym same) ((btree_set_contains_iff names_total names_exact set n).0 ((has n).1 g)),
  );
  ascend = sorted;
}

-- ---- what one visit gives

pub one_name : (k n : Name) → Contains (k ∷ []) n ↔ (k ≡ n)
one_name k n = (λ c. ⊎_elim (λ same. same) (λ none. absurd (none_contained n none)) (contained_or k [] n c), λ same. subst (λ m. Contains (k ∷ []) m) same (first_contained k []))

-- the same, in other words
pub adds_as : {T E : Type 0} (r : Result T E) (P Q : Name → Type 0) (old new : BTreeSet Name) → ((n : Name) → P n ↔ Q n) → OnOk r (AddsSuch P old new) → OnOk r (AddsSuch Q old new)
adds_as (Ok x) P Q old new same h = λ n. (
  λ is. ⊎_elim inl (λ c. inr ((same n).0 c)) ((h n).0 is),
  λ is. (h n).1 (⊎_elim inl (λ g. inr ((same n).1 g)) is),
)
adds_as (Err e) P Q old new same h = tt

-- nothing comes where there is no such name
pub adds_none : (P : Name → Type 0) (set : BTreeSet Name) → ((n : Name) → P n → ⊥) → AddsSuch P set set
adds_none P set none n = (inl, λ h. ⊎_elim (λ is. is) (λ g. absurd (none n g)) h)

-- one after another
pub adds_both : {T E : Type 0} (r : Result T E) (P Q : Name → Type 0) (old mid new : BTreeSet Name) → AddsSuch P old mid → OnOk r (AddsSuch Q mid new) → OnOk r (AddsSuch (λ n. P n ⊎ Q n) old new)
adds_both (Ok x) P Q old mid new h g = λ n. (
  λ is. ⊎_elim (λ m. ⊎_elim inl (λ p. inr (inl p)) ((h n).0 m)) (λ q. inr (inr q)) ((g n).0 is),
  λ is. ⊎_elim (λ o. (g n).1 (inl ((h n).1 (inl o)))) (λ e. ⊎_elim (λ p. (g n).1 (inl ((h n).1 (inr p)))) (λ q. (g n).1 (inr q)) e) is,
)
adds_both (Err e) P Q old mid new h g = tt

-- what two clauses say of a result
pub ok_both : {T E : Type 0} (P Q R : T → Type 0) (r : Result T E) → ((x : T) → P x → Q x → R x) → IfOk r P → IfOk r Q → IfOk r R
ok_both P Q R (Ok x) f h g = f x h g
ok_both P Q R (Err e) f h g = h
