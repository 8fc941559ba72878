-- The list of faults.
use Rattle.std.proofs.Common.{arith, ◌≡◌, ◌<◌, ◌++◌, ◌∷◌, [], ℕ, zero, suc, List, Option, Some, None, length, slice_get, refl, inl, inr, sym, ap, subst, ◌∙◌, Contains}
use Rattle.std.specs.List.{AllByRecursion}
use Rattle.std.specs.List.Sorted.{IsStrictlySortedBy}
use Rattle.std.specs.Ordering.{nat_cmp, ordering_then}
use Rattle.std.specs.Cmp.{nat_cmp_is, nat_cmp_total}
use Rattle.std.specs.declared.cmp.Ordering.TheVariants.{Less, Equal}
use Rattle.std.proofs.lemmas.Cmp.{tied_itself}
use Rattle.std.proofs.lemmas.List.Elements.{Contains-append_cases}
use Rattle.repo_name.specs.Naming.{name_cmp, Before}
use Rattle.repo_name.specs.declared.kinds.Thing.{Thing}
use Rattle.repo_name.specs.declared.names.Name.{Name}
use Rattle.repo_store.specs.Pages.{Has, NamesAscend}
use Rattle.repo_name.proofs.Containing.{none_contained, first_contained, later_contained, contained_or}
use Rattle.repo_session.specs.declared.outcomes.CheckFault.{CheckFault}
use Rattle.repo_session.specs.declared.outcomes.FaultKind.{FaultKind}
use Rattle.repo_check.specs.Checking.{rank, fault_cmp}
use Rattle.repo_check.specs.Telling.{told, IsFoundAmong, ToldAreFound, AreOfRank, ToldAscend, RanksAscend}
use Rattle.repo_session.proofs.Rolling.{beyond}

-- ---- what is told

later_found : (n : Name) (names : List Name) (o : Option FaultKind) (found : List (Option FaultKind)) (m : Name) (what : FaultKind) → IsFoundAmong names found m what → IsFoundAmong (n ∷ names) (o ∷ found) m what
later_found n names o found m what h = (suc h.0, h.1, h.2)

pub told_found : (thing : Thing) (names : List Name) (found : List (Option FaultKind)) (fault : CheckFault) → Contains (told thing names found) fault → (fault.thing ≡ thing) × IsFoundAmong names found fault.name fault.what
told_found thing [] found fault h = absurd (none_contained fault h)
told_found thing (n ∷ names) [] fault h = absurd (none_contained fault h)
told_found thing (n ∷ names) (None ∷ found) fault h = let r = told_found thing names found fault h in (r.0, later_found n names None found fault.name fault.what r.1)
told_found thing (n ∷ names) (Some what ∷ found) fault h = elim (contained_or (record { thing = thing; name = n; what = what }) (told thing names found) fault h) [
  | inl same ↦ (ap (λ (f : CheckFault). f.thing) (sym same), (0, ap (λ (f : CheckFault). Some f.name) same, ap (λ (f : CheckFault). Some (Some f.what)) same))
  | inr more ↦ (let r = told_found thing names found fault more in (r.0, later_found n names (Some what) found fault.name fault.what r.1))
]

found_told : (thing : Thing) (names : List Name) (found : List (Option FaultKind)) (n : Name) (what : FaultKind) (k : ℕ) → slice_get names k ≡ Some n → slice_get found k ≡ Some (Some what)
    → Contains (told thing names found) (record { thing = thing; name = n; what = what })
found_told thing [] found n what k h g = absurd (cc h)
found_told thing (m ∷ names) [] n what k h g = absurd (cc g)
found_told thing (m ∷ names) (None ∷ found) n what zero h g = absurd (cc g)
found_told thing (m ∷ names) (None ∷ found) n what (suc k) h g = found_told thing names found n what k h g
found_told thing (m ∷ names) (Some other ∷ found) n what zero h g =
    let name : m ≡ n = cc h in
    let kind : other ≡ what = cc g in
    subst (λ (f : CheckFault). Contains (told thing (m ∷ names) (Some other ∷ found)) f) (λ i. record { thing = thing; name = name i; what = kind i }) (first_contained (record { thing = thing; name = m; what = other }) (told thing names found))
found_told thing (m ∷ names) (Some other ∷ found) n what (suc k) h g = later_contained (record { thing = thing; name = m; what = other }) (told thing names found) (record { thing = thing; name = n; what = what }) (found_told thing names found n what k h g)

pub told_are_found : ToldAreFound
told_are_found thing names found fault = (
  told_found thing names found fault,
  λ h. subst (λ t. Contains (told thing names found) (record { thing = t; name = fault.name; what = fault.what })) (sym h.0) (found_told thing names found fault.name fault.what h.1.0 h.1.1 h.1.2),
)

-- ---- in order

pub each_all : {X : Type 0} (P : X → Type 0) (xs : List X) → ((x : X) → Contains xs x → P x) → AllByRecursion P xs
each_all P [] h = tt
each_all P (x ∷ xs) h = (h x (first_contained x xs), each_all P xs (λ y c. h y (later_contained x xs y c)))

pub all_each : {X : Type 0} (P : X → Type 0) (xs : List X) → AllByRecursion P xs → (x : X) → Contains xs x → P x
all_each P [] h x c = absurd (none_contained x c)
all_each P (y ∷ xs) h x c = elim (contained_or y xs x c) [ inl same ↦ subst P same h.0 | inr more ↦ all_each P xs h.1 x more ]

pub has_at : (names : List Name) (k : ℕ) (n : Name) → slice_get names k ≡ Some n → Has names n
has_at [] k n h = absurd (cc h)
has_at (m ∷ names) zero n h = inl (cc h)
has_at (m ∷ names) (suc k) n h = inr (has_at names k n h)

-- one rank, and names in order
same_rank : (a b : CheckFault) → rank a.thing a.what ≡ rank b.thing b.what → Before a.name b.name → fault_cmp a b ≡ Less
same_rank a b ranks names =
    let tied : nat_cmp (rank a.thing a.what) (rank b.thing b.what) ≡ Equal = subst (λ r. nat_cmp (rank a.thing a.what) r ≡ Equal) ranks (tied_itself nat_cmp_total (rank a.thing a.what)) in
    ap (λ o. ordering_then o (name_cmp a.name b.name)) tied ∙ names

lesser_rank : (a b : CheckFault) → rank a.thing a.what < rank b.thing b.what → fault_cmp a b ≡ Less
lesser_rank a b less =
    let before : nat_cmp (rank a.thing a.what) (rank b.thing b.what) ≡ Less = sym (nat_cmp_is (rank a.thing a.what) (rank b.thing b.what) Less less) in
    ap (λ o. ordering_then o (name_cmp a.name b.name)) before

told_sorted : (thing : Thing) (after : Option Name) (names : List Name) (found : List (Option FaultKind)) (r : ℕ) → NamesAscend after names → AreOfRank (told thing names found) r → IsStrictlySortedBy fault_cmp (told thing names found)
unfolding IsStrictlySortedBy
told_sorted thing after [] found r h ranks = tt
told_sorted thing after (n ∷ names) [] r h ranks = tt
told_sorted thing after (n ∷ names) (None ∷ found) r h ranks = told_sorted thing (Some n) names found r h.1 ranks
told_sorted thing after (n ∷ names) (Some what ∷ found) r h ranks =
    let first : CheckFault = record { thing = thing; name = n; what = what } in
    let rest = told thing names found in (
      each_all (λ f. fault_cmp first f ≡ Less) rest (λ f c.
          (let among = (told_found thing names found f c).1 in
          same_rank first f (ranks first (first_contained first rest) ∙ sym (ranks f (later_contained first rest f c))) (beyond n names h.1 f.name (has_at names among.0 f.name among.1)))),
      told_sorted thing (Some n) names found r h.1 (λ f c. ranks f (later_contained first rest f c)),
    )

pub told_ascend : ToldAscend
told_ascend thing names found r h ranks = told_sorted thing None names found r h ranks

pub ranks_ascend : RanksAscend
unfolding IsStrictlySortedBy
ranks_ascend [] more h g less = g
ranks_ascend (a ∷ first) more h g less = (
  each_all (λ f. fault_cmp a f ≡ Less) (first ++ more) (λ f c. elim (Contains-append_cases first more f c) [
    | inl here ↦ all_each (λ x. fault_cmp a x ≡ Less) first h.0 f here
    | inr there ↦ lesser_rank a f (less a f (first_contained a first) there)
  ]),
  ranks_ascend first more h.1 g (λ x y c d. less x y (later_contained a first x c) d),
)

-- ---- nothing is told of nothing

pub told_without_names : (thing : Thing) (names : List Name) (found : List (Option FaultKind)) → length names ≡ 0 → told thing names found ≡ []
told_without_names thing [] found none = refl
told_without_names thing (n ∷ names) found none = absurd (omega (arith, none))

pub told_without_found : (thing : Thing) (names : List Name) (found : List (Option FaultKind)) → length found ≡ 0 → told thing names found ≡ []
told_without_found thing [] found none = refl
told_without_found thing (n ∷ names) [] none = refl
told_without_found thing (n ∷ names) (o ∷ found) none = absurd (omega (arith, none))
