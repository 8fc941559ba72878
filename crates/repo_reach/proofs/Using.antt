-- The pairs that a walk came upon, as a value.
use Rattle.std.proofs.Common.{arith, suc, ◌≡◌, ◌≢◌, ◌<◌, ◌≤◌, ◌+◌, ◌⊎◌, ◌++◌, ◌∷◌, ◌↔◌, [], ℕ, Bool, BTreeSet, true, false, cond, List, Option, Some, take, get_or, length, refl, sym, ap, subst, inl, inr, ⊎_elim, ◌∙◌, Contains}
use Rattle.std.proofs.Math.Seq.{take-suc, take_all}
use Rattle.std.proofs.lemmas.Cmp.{eq_by_cmp_equiv}
use Rattle.std.proofs.lemmas.List.Elements.{Contains-append_left, Contains-append_right, Contains-append_cases}
use Rattle.std.specs.BTreeMap.{is_at}
use Rattle.std.specs.BTreeSet.{contains, IsEmpty}
use Rattle.std.specs.List.{list_any}
use Rattle.std.specs.Ordering.{is_eq}
use Rattle.std.specs.declared.cmp.Ordering.{Ordering}
use Rattle.std.specs.declared.cmp.Ordering.TheVariants.{Less, Equal, Greater}
use Rattle.std.proofs.lemmas.Option.{same_Some, none-some}
use Rattle.repo_index.specs.Order.{names_total}
use Rattle.repo_index.proofs.OrderLemmas.{names_exact}
use Rattle.repo_name.specs.Naming.{name_cmp}
use Rattle.repo_name.specs.declared.kinds.BlobKind.{BlobKind}
use Rattle.repo_name.specs.declared.kinds.BlobKind.TheVariants.{Content, Tree}
use Rattle.repo_name.specs.declared.names.Name.{Name}
use Rattle.repo_name.proofs.Containing.{contained_or, first_contained, none_contained}
use Rattle.repo_tree.specs.Spelling.{greatest_depth}
use Rattle.repo_reach.proofs.Reading.{links_are}
use Rattle.repo_reach.proofs.Rewinding.{got_left, got_last, got_or}
use Rattle.repo_reach.specs.Laws.{IsUsed}
use Rattle.repo_reach.specs.Used.{IsIn, UsedHasPair, GivesPair, GivenBy, HaveJoined, IsListed}
use Rattle.repo_reach.specs.Walks.{WasAt, links_in_part}
use Rattle.repo_reach.specs.declared.joints.Next.{Next}
use Rattle.repo_reach.specs.declared.links.Links.{Links}
use Rattle.repo_reach.specs.declared.looks.Seen.{Seen}
use Rattle.repo_reach.specs.declared.used.Used.{Used}

-- ---- the first of a list, and one more

module _ {A : Type 0} (xs : List A) (i : ℕ) (d : A) (within : i < length xs) where
  pub one_more : take (i + 1) xs ≡ take i xs ++ get_or xs i d ∷ []
  one_more = let s : i + 1 ≡ suc i = omega arith in ap (λ j. take j xs) s ∙ take-suc xs i d within

  pub taken_or : (x : A) → Contains (take (i + 1) xs) x → Contains (take i xs) x ⊎ (get_or xs i d ≡ x)
  taken_or x h = ⊎_elim (λ earlier. inl earlier) (λ now. ⊎_elim (λ same. inr same) (λ none. absurd (none_contained x none)) (contained_or (get_or xs i d) [] x now))
      (Contains-append_cases (take i xs) (get_or xs i d ∷ []) x (subst (λ l. Contains l x) one_more h))

  pub or_taken : (x : A) → (Contains (take i xs) x ⊎ (get_or xs i d ≡ x)) → Contains (take (i + 1) xs) x
  or_taken x (inl h) = subst (λ l. Contains l x) (sym one_more) (Contains-append_left (take i xs) (get_or xs i d ∷ []) x h)
  or_taken x (inr h) = subst (λ l. Contains l x) (sym one_more) (Contains-append_right (take i xs) (get_or xs i d ∷ []) x (subst (λ z. Contains (z ∷ []) x) (sym h) (first_contained x [])))

-- ---- one more name of a set

is_equal : (o : Ordering) → is_eq o ≡ true → o ≡ Equal
is_equal Less h = absurd (cc)
is_equal Equal h = refl
is_equal Greater h = absurd (cc)

module _ (old new : BTreeSet Name) (added : Name) (updates : (q : Name) → contains name_cmp new q ≡ cond (is_at (name_cmp added) q) true (contains name_cmp old q)) where
  there : (n : Name) (b : Bool) → is_at (name_cmp added) n ≡ b → cond b true (contains name_cmp old n) ≡ true → IsIn old n ⊎ (added ≡ n)
  there n true q h = inr (names_exact added n (is_equal (name_cmp added n) q))
  there n false q h = inl h

  back : (n : Name) (b : Bool) → is_at (name_cmp added) n ≡ b → IsIn old n ⊎ (added ≡ n) → cond b true (contains name_cmp old n) ≡ true
  back n true q h = refl
  back n false q (inl h) = h
  back n false q (inr same) = let itself : is_at (name_cmp n) n ≡ true = (eq_by_cmp_equiv names_total).refl n in let other : is_at (name_cmp n) n ≡ false = subst (λ z. is_at (name_cmp z) n ≡ false) same q in absurd (cc)

  pub one_added : (n : Name) → IsIn new n ↔ (IsIn old n ⊎ (added ≡ n))
  one_added n = (λ h. there n (is_at (name_cmp added) n) refl (sym (updates n) ∙ h), λ h. updates n ∙ back n (is_at (name_cmp added) n) refl h)

  -- so after one more of a list
  pub then_added : (first : BTreeSet Name) (names : List Name) (i : ℕ) (d : Name) → i < length names → get_or names i d ≡ added → ((n : Name) → IsIn old n ↔ (IsIn first n ⊎ Contains (take i names) n))
      → (n : Name) → IsIn new n ↔ (IsIn first n ⊎ Contains (take (i + 1) names) n)
  then_added first names i d within is before n = (
    λ h. ⊎_elim (λ was. ⊎_elim (λ a. inl a) (λ b. inr (or_taken names i d within n (inl b))) ((before n).0 was)) (λ same. inr (or_taken names i d within n (inr (is ∙ same)))) ((one_added n).0 h),
    λ h. (one_added n).1 (⊎_elim (λ a. inl ((before n).1 (inl a))) (λ b. ⊎_elim (λ c. inl ((before n).1 (inr c))) (λ same. inr (sym is ∙ same)) (taken_or names i d within n b)) h),
  )

-- ---- what a tree gives

-- its name, where it was looked at
pub tree_given : (seen : Seen) (follows : Bool) (depth : ℕ) → WasAt seen follows depth → (n : Name) → (seen.name ≡ n) ↔ GivesPair seen Tree n
tree_given seen follows depth was n = (λ same. (same, follows, depth, was), λ h. h.0)

-- its content, where it was looked at above the greatest depth so that its nodes are read
pub content_given : (seen : Seen) (links : Links) → seen.links ≡ Some links → IsListed seen → (n : Name) → Contains links.content.items n ↔ GivesPair seen Content n
content_given seen links read listed n = (
  λ among. (listed.follows, listed.depth, record { links = links; read = listed.read ∙ read; was = listed.was; above = listed.above; among = among }),
  λ h. subst (λ (l : Links). Contains l.content.items n) (same_Some h.2.links links (sym (links_are seen h.0 h.2.links h.2.read) ∙ read)) h.2.among,
)

-- as which one a tree is listed
pub listed_itself : (seen : Seen) → ((depth : ℕ) × (depth < greatest_depth) × WasAt seen false depth) → IsListed seen
listed_itself seen h = record { follows = false; depth = h.0; above = h.1; was = h.2; read = refl }

pub kept_links : (next : Next) (links : Option Links) → next ≢ Next.Malformed → links_in_part next links ≡ links
kept_links Next.Absent links h = refl
kept_links (Next.Tree n) links h = refl
kept_links Next.Malformed links h = absurd (h refl)

pub listed_part : (seen : Seen) → ((depth : ℕ) × (depth < greatest_depth) × WasAt seen true depth) → seen.joint.next ≢ Next.Malformed → IsListed seen
listed_part seen h part = record { follows = true; depth = h.0; above = h.1; was = h.2; read = kept_links seen.joint.next seen.links part }

gives_part : (next : Next) (links : Option Links) (l : Links) → next ≡ Next.Malformed → links_in_part next links ≡ Some l → ⊥
gives_part next links l is read = none-some l (subst (λ m. links_in_part m links ≡ Some l) is read)

pub none_listed : (seen : Seen) → (((depth : ℕ) × (depth < greatest_depth) × WasAt seen false depth) → ⊥) → (((depth : ℕ) × (depth < greatest_depth) × WasAt seen true depth) → seen.joint.next ≡ Next.Malformed) → (n : Name) → GivesPair seen Content n → ⊥
none_listed seen itself part n (true, depth, h) = gives_part seen.joint.next seen.links h.links (part (depth, h.above, h.was)) h.read
none_listed seen itself part n (false, depth, h) = itself (depth, h.above, h.was)

-- ---- so of a list of them

pub none_given : (used : Used) → IsEmpty used.trees → IsEmpty used.content → (all : List Seen) → (k : BlobKind) (n : Name) → UsedHasPair used k n ↔ GivenBy (take 0 all) k n
none_given used trees content all k n = (λ h. absurd (none k n h), λ h. absurd (none-some h.1 h.2))
  where
    none_in : (set : BTreeSet Name) → IsEmpty set → (n : Name) → IsIn set n → ⊥
    none_in set empty n h = let never : contains name_cmp set n ≡ false = ap (λ keys. list_any (is_at (name_cmp n)) keys) empty in absurd (cc)

    none : (k : BlobKind) (n : Name) → UsedHasPair used k n → ⊥
    none Tree n h = none_in used.trees trees n h
    none Content n h = none_in used.content content n h

pub then_joined : (all : List Seen) (i : ℕ) (d : Seen) → i < length all → (old new : Used) → HaveJoined old (get_or all i d) new → ((k : BlobKind) (n : Name) → UsedHasPair old k n ↔ GivenBy (take i all) k n)
    → (k : BlobKind) (n : Name) → UsedHasPair new k n ↔ GivenBy (take (i + 1) all) k n
then_joined all i d within old new joined before k n = (
  λ h. subst (λ l. GivenBy l k n) (sym (one_more all i d within)) (⊎_elim (λ was. (let g = (before k n).0 was in (g.0, g.1, got_left (take i all) (get_or all i d ∷ []) g.0 g.1 g.2, g.3)))
      (λ now. (length (take i all), get_or all i d, got_last (take i all) (get_or all i d), now)) ((joined k n).0 h)),
  λ h. (let g = subst (λ l. GivenBy l k n) (one_more all i d within) h in
      (joined k n).1 (⊎_elim (λ was. inl ((before k n).1 (g.0, g.1, was, g.3))) (λ last. inr (subst (λ s. GivesPair s k n) (sym last.1) g.3)) (got_or (take i all) (get_or all i d) g.0 g.1 g.2))),
)

-- what is given by one of them the walk came upon
pub given_is_used : (all : List Seen) (k : BlobKind) (n : Name) → GivenBy all k n ↔ IsUsed all k n
given_is_used all Tree n = (λ h. (h.3.1, (h.3.2, (h.0, h.1, h.2, h.3.0, h.3.3))), λ h. (let l = h.1.1 in (l.0, l.1, l.2, (l.3, h.0, h.1.0, l.4))))
given_is_used all Content n = (λ h. (h.3.0, (h.0, h.1, h.3.1, h.2, h.3.2)), λ h. (h.1.0, h.1.1, h.1.3, (h.0, h.1.2, h.1.4)))

-- so at the end of the list
pub all_used : (all : List Seen) (i : ℕ) → length all ≤ i → (used : Used) → ((k : BlobKind) (n : Name) → UsedHasPair used k n ↔ GivenBy (take i all) k n) → (k : BlobKind) (n : Name) → UsedHasPair used k n ↔ IsUsed all k n
all_used all i end used given k n =
    let whole = take_all i all end in
    let g = subst (λ l. UsedHasPair used k n ↔ GivenBy l k n) whole (given k n) in
    let u = given_is_used all k n in
    (λ h. u.0 (g.0 h), λ h. g.1 (u.1 h))
