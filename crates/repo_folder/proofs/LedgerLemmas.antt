use Rattle.std.proofs.Common.{◌≡◌, ◌==◌, ◌++◌, ◌∷◌, [], ◌<◌, ◌^◌, ℕ, Bool, true, false, List, length, drop, refl, ap, arith, ◌∙◌}
use Rattle.std.specs.List.{All, flat_map}
use Rattle.std.proofs.Math.Seq.{take-append_seam, drop-append_seam}
use Rattle.std.proofs.lemmas.List.Elements.{All-head, All-tail}
use Rattle.std.proofs.lemmas.Nat.{from_be_bytes-to_be_bytes_8, from_be_bytes-to_be_bytes_2}
use Rattle.repo_name.specs.Rows.{number, count, truth, row_bytes, rows_bytes, IsRow}
use Rattle.repo_name.specs.declared.rows.LockRow.{LockRow}
use Rattle.repo_name.specs.declared.tokens.Token.{Token}
use Rattle.repo_locks.specs.TokenMachine.{Tokens}
use Rattle.repo_locks.specs.Lawful.{IsLedger}
use Rattle.repo_locks.specs.LedgerBytes.{token_bytes, fresh_bytes, ledger_bytes, IsNumber}
use Rattle.repo_locks.proofs.Texts.{lawful_fits}
use Rattle.repo_folder.specs.Ledgers.{numbers_in, after_numbers, row_in, after_row, rows_in, ledger_in, after_fresh, number_in, count_in}

number_one : (n : ℕ) (x : List ℕ) → n < 2 ^ 64 → number_in (number n ++ x) ≡ n
number_one n x h = from_be_bytes-to_be_bytes_8 n h

count_one : (n : ℕ) (x : List ℕ) → n < 2 ^ 16 → count_in (count n ++ x) ≡ n
count_one n x h = from_be_bytes-to_be_bytes_2 n h

truth_one : (b : Bool) → (truth b == 1) ≡ b
truth_one false = refl
truth_one true = refl

numbers_one : (ts : List Token) (x : List ℕ) → All IsNumber ts → numbers_in (length ts) (flat_map token_bytes ts ++ x) ≡ ts
numbers_one [] x h = refl
numbers_one (t ∷ ts) x h =
    let first : number_in (token_bytes t ++ (flat_map token_bytes ts ++ x)) ≡ t.0 = number_one t.0 (flat_map token_bytes ts ++ x) (All-head IsNumber t ts h) in
    let rest = numbers_one ts x (All-tail IsNumber t ts h) in
    λ i. record { 0 = first i } ∷ rest i

numbers_after : (ts : List Token) (x : List ℕ) → after_numbers (length ts) (flat_map token_bytes ts ++ x) ≡ x
numbers_after [] x = refl
numbers_after (t ∷ ts) x = numbers_after ts x

row_one : (r : LockRow) (x : List ℕ) → IsRow r → row_in (row_bytes r ++ x) ≡ r
row_one r x is =
    let token = from_be_bytes-to_be_bytes_8 r.token.0 is.token in
    let exclusive = truth_one r.exclusive in
    let time = from_be_bytes-to_be_bytes_8 r.time is.time in
    let host = take-append_seam r.host x in
    λ i. record { token = record { 0 = token i }; exclusive = exclusive i; time = time i; host = host i }

row_after : (r : LockRow) (x : List ℕ) → after_row (row_bytes r ++ x) ≡ x
row_after r x = drop-append_seam r.host x

rows_one : (rs : List LockRow) → All IsRow rs → rows_in (length rs) (flat_map row_bytes rs) ≡ rs
rows_one [] h = refl
rows_one (r ∷ rs) h =
    let first = row_one r (flat_map row_bytes rs) (All-head IsRow r rs h) in
    let rest = ap (rows_in (length rs)) (row_after r (flat_map row_bytes rs)) ∙ rows_one rs (All-tail IsRow r rs h) in
    λ i. first i ∷ rest i

-- a ledger's bytes spell it
pub ledger_one : (l : Tokens) → IsLedger l → ledger_in (ledger_bytes l) ≡ l
ledger_one l is =
    let fits = lawful_fits l is in
    let few : length l.fresh < 2 ^ 16 = (let f = fits.few_fresh in omega arith) in
    let few_live : length l.live < 2 ^ 16 = (let f = fits.few_live in omega arith) in
    let live = rows_bytes l.live in
    let next = number_one l.next (fresh_bytes l.fresh ++ live) fits.next in
    let counted = count_one (length l.fresh) (flat_map token_bytes l.fresh ++ live) few in
    let fresh = ap (λ n. numbers_in n (flat_map token_bytes l.fresh ++ live)) counted ∙ numbers_one l.fresh live fits.fresh in
    let behind : after_fresh (ledger_bytes l) ≡ live = ap (λ n. after_numbers n (flat_map token_bytes l.fresh ++ live)) counted ∙ numbers_after l.fresh live in
    let rows = ap (λ bytes. rows_in (count_in bytes) (drop 2 bytes)) behind ∙ ap (λ n. rows_in n (flat_map row_bytes l.live)) (count_one (length l.live) (flat_map row_bytes l.live) few_live) ∙ rows_one l.live fits.live in
    λ i. record { next = next i; fresh = fresh i; live = rows i }
