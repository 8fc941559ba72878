-- The entries from the front of a header, one more at a time.
use Rattle.std.proofs.Common.{◌≡◌, ◌<◌, ◌+◌, ◌*◌, ◌++◌, ◌∷◌, [], ℕ, zero, suc, List, length, drop, get_or, refl, ap, subst, ◌∙◌, arith}
use Rattle.std.specs.List.{All, sum_by}
use Rattle.std.proofs.lemmas.List.{drop-drop}
use Rattle.std.proofs.lemmas.List.Elements.{All-push, All-same}
use Rattle.std.proofs.lemmas.List.Sums.{sum_by_push}
use Rattle.repo_pack.specs.declared.rows.Row.{Row}
use Rattle.repo_pack.specs.PackLayout.{IsBlobLength}
use Rattle.repo_pack.specs.PackReading.{row_in, rows_in}

-- what stands after one more entry
pub drop_entry : (n : ℕ) (header : List ℕ) → drop (37 * n) (drop 37 header) ≡ drop (37 * (n + 1)) header
drop_entry n header =
    let e : 37 + 37 * n ≡ 37 * (n + 1) = omega arith in
    drop-drop (37 * n) 37 header ∙ ap (λ m. drop m header) e

pub rows_in_more : (n : ℕ) (header : List ℕ) → rows_in (n + 1) header ≡ rows_in n header ++ row_in (drop (37 * n) header) ∷ []
unfolding rows_in
rows_in_more zero header = refl
rows_in_more (suc n) header =
    let s : suc n + 1 ≡ suc (n + 1) = omega arith in
    let t : 37 * (n + 1) ≡ 37 * suc n = omega arith in
    ap (λ m. rows_in m header) s
    ∙ ap (λ rows. row_in header ∷ rows) (rows_in_more n (drop 37 header) ∙ ap (λ front. rows_in n (drop 37 header) ++ row_in front ∷ []) (drop_entry n header ∙ ap (λ m. drop m header) t))

pub length-rows_in : (n : ℕ) (header : List ℕ) → length (rows_in n header) ≡ n
unfolding rows_in
length-rows_in zero header = refl
length-rows_in (suc n) header = ap suc (length-rows_in n (drop 37 header))

pub get_or-rows_in : (n k : ℕ) (header : List ℕ) (d : Row) → k < n → get_or (rows_in n header) k d ≡ row_in (drop (37 * k) header)
unfolding rows_in
get_or-rows_in zero k header d h = absurd (omega arith)
get_or-rows_in (suc n) zero header d h = refl
get_or-rows_in (suc n) (suc k) header d h =
    let t : 37 * (k + 1) ≡ 37 * suc k = omega arith in
    get_or-rows_in n k (drop 37 header) d (omega arith) ∙ ap row_in (drop_entry k header ∙ ap (λ m. drop m header) t)

-- the sum and the test of the lengths, one entry on
pub lengths_more : (n : ℕ) (header : List ℕ) → sum_by (λ (row : Row). row.length) (rows_in (n + 1) header) ≡ sum_by (λ (row : Row). row.length) (rows_in n header) + (row_in (drop (37 * n) header)).length
lengths_more n header = ap (sum_by (λ (row : Row). row.length)) (rows_in_more n header) ∙ sum_by_push (λ (row : Row). row.length) (rows_in n header) (row_in (drop (37 * n) header))

pub each_more : (n : ℕ) (header : List ℕ) → All (λ (row : Row). IsBlobLength row.length) (rows_in n header) → IsBlobLength (row_in (drop (37 * n) header)).length
    → All (λ (row : Row). IsBlobLength row.length) (rows_in (n + 1) header)
each_more n header each one =
    All-same (λ (row : Row). IsBlobLength row.length) (rows_in (n + 1) header) (rows_in n header ++ row_in (drop (37 * n) header) ∷ []) (rows_in_more n header)
    (All-push (λ (row : Row). IsBlobLength row.length) (rows_in n header) (row_in (drop (37 * n) header)) each one)

-- each of the first entries has a blob's length, if all have
pub each_at : (n k : ℕ) (header : List ℕ) → k < n → All (λ (row : Row). IsBlobLength row.length) (rows_in n header) → IsBlobLength (row_in (drop (37 * k) header)).length
each_at n k header h each =
    let d = row_in header in
    let inside : k < length (rows_in n header) = omega (arith, length-rows_in n header) in
    subst (λ (row : Row). IsBlobLength row.length) (get_or-rows_in n k header d h) (each k d inside)
