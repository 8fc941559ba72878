use Rattle.std.proofs.Common.{◌≡◌, ◌++◌, ◌∷◌, ◌<◌, ◌^◌, ℕ, Bool, true, false, List, length, refl, sym, ap, arith, ◌∙◌, take, drop, Result, Ok, Err}
use Rattle.std.specs.Result.{IsErrOf, IsErrAnd}
use Rattle.std.specs.Int.{w64, from_be_bytes}
use Rattle.std.proofs.Math.Seq.{take-append_seam, drop-append_seam}
use Rattle.std.proofs.lemmas.Nat.{from_be_bytes-to_be_bytes_8}
use Rattle.repo_name.specs.declared.rows.LockRow.{LockRow}
use Rattle.repo_name.specs.Rows.{number, truth, IsRow, host_field, row_bytes}

-- lists with fronts of one length are equal in both parts
pub fronts_are_one : {A : Type 0} → (a b x y : List A) → length a ≡ length b → a ++ x ≡ b ++ y → (a ≡ b) × (x ≡ y)
fronts_are_one a b x y l h = (
  sym (take-append_seam a x) ∙ ap (take (length a)) h ∙ ap (λ n. take n (b ++ y)) l ∙ take-append_seam b y,
  sym (drop-append_seam a x) ∙ ap (drop (length a)) h ∙ ap (λ n. drop n (b ++ y)) l ∙ drop-append_seam b y,
)

-- lists with a first element are equal in it and in the rest
pub firsts_are_one : (a b : ℕ) (x y : List ℕ) → a ∷ x ≡ b ∷ y → (a ≡ b) × (x ≡ y)
firsts_are_one a b x y h = (cc, cc)

pub truths_are_one : (a b : Bool) → truth a ≡ truth b → a ≡ b
truths_are_one false false h = refl
truths_are_one true true h = refl
truths_are_one false true h = absurd (omega arith)
truths_are_one true false h = absurd (omega arith)

pub numbers_one : (a b : ℕ) (x y : List ℕ) → a < 2 ^ 64 → b < 2 ^ 64 → number a ++ x ≡ number b ++ y → (a ≡ b) × (x ≡ y)
numbers_one a b x y la lb h =
    let f = fronts_are_one (number a) (number b) x y refl h in
    (sym (from_be_bytes-to_be_bytes_8 a la) ∙ ap (from_be_bytes w64) f.0 ∙ from_be_bytes-to_be_bytes_8 b lb, f.1)

pub hosts_one : (a b x y : List ℕ) → host_field a ++ x ≡ host_field b ++ y → (a ≡ b) × (x ≡ y)
hosts_one a b x y h =
    let f = firsts_are_one (length a) (length b) (a ++ x) (b ++ y) h in
    fronts_are_one a b x y f.0 f.1

pub rows_one : (a b : LockRow) (x y : List ℕ) → IsRow a → IsRow b → row_bytes a ++ x ≡ row_bytes b ++ y → (a ≡ b) × (x ≡ y)
rows_one a b x y ra rb h =
    let t = numbers_one a.token.0 b.token.0 (truth a.exclusive ∷ number a.time ++ (host_field a.host ++ x)) (truth b.exclusive ∷ number b.time ++ (host_field b.host ++ y)) ra.token rb.token h in
    let e = firsts_are_one (truth a.exclusive) (truth b.exclusive) (number a.time ++ (host_field a.host ++ x)) (number b.time ++ (host_field b.host ++ y)) t.1 in
    let k = truths_are_one a.exclusive b.exclusive e.0 in
    let m = numbers_one a.time b.time (host_field a.host ++ x) (host_field b.host ++ y) ra.time rb.time e.1 in
    let g = hosts_one a.host b.host x y m.1 in
    (λ i. record { token = record { 0 = t.0 i }; exclusive = k i; time = m.0 i; host = g.0 i }, g.1)

-- an error that is handed on is the same
pub same_error : {A E : Type 0} (r : Result A E) (x e : E) → IsErrOf r x → IsErrAnd r (λ y. y ≡ e) → e ≡ x
same_error (Ok a) x e s h = absurd h
same_error (Err y) x e s h = let k : y ≡ x = cc s in sym h ∙ k
