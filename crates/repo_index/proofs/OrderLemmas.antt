-- The orders of places and of facts.
use Rattle.std.proofs.Common.{◌≡◌, ◌≤◌, ◌<◌, ◌∷◌, [], ℕ, zero, suc, List, length, false, refl, ap, subst, arith, slice_index}
use Rattle.std.proofs.lemmas.Cmp.{ranked, tied_itself}
use Rattle.std.proofs.lemmas.Map.Lookups.{CmpEqualImpliesEq, exact_unsigned, exact_bytes}
use Rattle.std.specs.Ordering.{nat_cmp, ordering_then, ordering_reverse, is_gt}
use Rattle.std.specs.Cmp.{IsTotalOrder}
use Rattle.std.specs.Cmp.Lexicographic.{slice_cmp}
use Rattle.std.specs.declared.cmp.Ordering.{Ordering}
use Rattle.std.specs.declared.cmp.Ordering.TheVariants.{Less, Equal, Greater}
use Rattle.std.specs.BTreeMap.Range.{IsLeBy}
use Rattle.repo_name.specs.Naming.{name_cmp, IsName}
use Rattle.repo_name.specs.declared.names.Name.{Name}
use Rattle.repo_name.specs.declared.kinds.BlobKind.TheVariants.{Content, Tree}
use Rattle.repo_index.specs.Order.{place_cmp, kind_cmp, place_first, name_first}

-- ---- one order, then another

pub then_le : (a b : Ordering) → is_gt a ≡ false → is_gt b ≡ false → is_gt (ordering_then a b) ≡ false
then_le Less b h g = refl
then_le Equal b h g = g
then_le Greater b h g = h

then_equal : (a b : Ordering) → ordering_then a b ≡ Equal → (a ≡ Equal) × (b ≡ Equal)
then_equal Less b h = cc
then_equal Equal b h = (refl, h)
then_equal Greater b h = cc

-- what is neither after nor before is equal
pub between : (a b s t : Ordering) → b ≡ ordering_reverse a → is_gt (ordering_then a s) ≡ false → is_gt (ordering_then b t) ≡ false
    → (a ≡ Equal) × (is_gt s ≡ false) × (is_gt t ≡ false)
between Less b s t e h g = let f : is_gt (ordering_then Greater t) ≡ false = subst (λ (o : Ordering). is_gt (ordering_then o t) ≡ false) e g in cc f
between Equal b s t e h g = (refl, h, subst (λ (o : Ordering). is_gt (ordering_then o t) ≡ false) e g)
between Greater b s t e h g = cc h

-- ---- equal means the same

pub names_exact : CmpEqualImpliesEq name_cmp
names_exact a b h = let e = exact_bytes a.0 b.0 h in λ i. record { 0 = e i }

pub kinds_exact : CmpEqualImpliesEq kind_cmp
kinds_exact Content Content h = refl
kinds_exact Content Tree h = cc h
kinds_exact Tree Content h = cc h
kinds_exact Tree Tree h = refl

places_exact : CmpEqualImpliesEq place_cmp
places_exact a b h =
    let p = then_equal (name_cmp a.pack b.pack) (ordering_then (nat_cmp a.offset b.offset) (nat_cmp a.length b.length)) h in
    let q = then_equal (nat_cmp a.offset b.offset) (nat_cmp a.length b.length) p.1 in
    let packs = names_exact a.pack b.pack p.0 in
    let offsets = exact_unsigned a.offset b.offset q.0 in
    let lengths = exact_unsigned a.length b.length q.1 in
    λ i. record { pack = packs i; offset = offsets i; length = lengths i }

pub place_first_exact : CmpEqualImpliesEq place_first
place_first_exact a b h =
    let p = then_equal (place_cmp a.place b.place) (ordering_then (kind_cmp a.kind b.kind) (name_cmp a.name b.name)) h in
    let q = then_equal (kind_cmp a.kind b.kind) (name_cmp a.name b.name) p.1 in
    let places = places_exact a.place b.place p.0 in
    let kinds = kinds_exact a.kind b.kind q.0 in
    let names = names_exact a.name b.name q.1 in
    λ i. record { kind = kinds i; name = names i; place = places i }

pub name_first_exact : CmpEqualImpliesEq name_first
name_first_exact a b h =
    let p = then_equal (kind_cmp a.kind b.kind) (ordering_then (name_cmp a.name b.name) (place_cmp a.place b.place)) h in
    let q = then_equal (name_cmp a.name b.name) (place_cmp a.place b.place) p.1 in
    let kinds = kinds_exact a.kind b.kind p.0 in
    let names = names_exact a.name b.name q.0 in
    let places = places_exact a.place b.place q.1 in
    λ i. record { kind = kinds i; name = names i; place = places i }

-- ---- bounds

ranked_le : (x y : ℕ) (r : Ordering) → r ≡ nat_cmp x y → x ≤ y → is_gt r ≡ false
ranked_le x y Less e h = refl
ranked_le x y Equal e h = refl
ranked_le x y Greater e h = let lt : y < x = ranked x y Greater e in absurd (omega (arith, lt, h))

pub nat_le : (x y : ℕ) → x ≤ y → is_gt (nat_cmp x y) ≡ false
nat_le x y h = ranked_le x y (nat_cmp x y) refl h

-- so many times a number
abbrev pub copies : ℕ → ℕ → List ℕ
copies zero x = []
copies (suc n) x = x ∷ copies n x

zeros_le : (xs : List ℕ) → is_gt (slice_cmp nat_cmp (copies (length xs) 0) xs) ≡ false
zeros_le [] = refl
zeros_le (x ∷ xs) = then_le (nat_cmp 0 x) (slice_cmp nat_cmp (copies (length xs) 0) xs) (nat_le 0 x (omega arith)) (zeros_le xs)

greatest_le : (xs : List ℕ) → ((i : ℕ) → slice_index xs i < 256) → is_gt (slice_cmp nat_cmp xs (copies (length xs) 255)) ≡ false
greatest_le [] is = refl
greatest_le (x ∷ xs) is =
    let byte : x < 256 = is 0 in
    then_le (nat_cmp x 255) (slice_cmp nat_cmp xs (copies (length xs) 255)) (nat_le x 255 (omega (arith, byte))) (greatest_le xs (λ i. is (suc i)))

pub name_from_zeros : (n : Name) → IsName n → IsLeBy name_cmp (record { 0 = copies 32 0 }) n
name_from_zeros n is = subst (λ (k : ℕ). is_gt (slice_cmp nat_cmp (copies k 0) n.0) ≡ false) is.0 (zeros_le n.0)

pub name_to_greatest : (n : Name) → IsName n → IsLeBy name_cmp n (record { 0 = copies 32 255 })
name_to_greatest n is = subst (λ (k : ℕ). is_gt (slice_cmp nat_cmp n.0 (copies k 255)) ≡ false) is.0 (greatest_le n.0 is.1)

copies_byte : (n i x : ℕ) → x < 256 → slice_index (copies n x) i < 256
copies_byte zero i x h = omega arith
copies_byte (suc n) zero x h = h
copies_byte (suc n) (suc i) x h = copies_byte n i x h

copies_length : (n x : ℕ) → length (copies n x) ≡ n
copies_length zero x = refl
copies_length (suc n) x = ap suc (copies_length n x)

-- a name of one byte, 32 times
pub name_of_copies : (x : ℕ) → x < 256 → IsName (record { 0 = copies 32 x })
name_of_copies x h = (copies_length 32 x, λ i. copies_byte 32 i x h)

pub same_le : {K : Type 0} {R : K → K → Ordering} → IsTotalOrder R → (a b : K) → a ≡ b → is_gt (R a b) ≡ false
same_le {K} {R} o a b same =
    let e : R a b ≡ Equal = subst (λ (x : K). R a x ≡ Equal) same (tied_itself o a) in
    rw e refl
