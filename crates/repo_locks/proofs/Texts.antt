use Rattle.std.proofs.Common.{◌≡◌, ◌≢◌, ◌++◌, ◌∷◌, [], ◌<◌, ◌≤◌, ◌^◌, ℕ, List, length, refl, sym, ap, arith, ◌∙◌, append_assoc, append-nil, Result, Ok, Err}
use Rattle.std.specs.List.{All}
use Rattle.std.proofs.lemmas.List.Elements.{All-nil, All-cons}
use Rattle.repo_name.proofs.CountLemmas.{counted_one}
use Rattle.repo_name.proofs.RowLemmas.{numbers_one, rows_one}
use Rattle.repo_name.specs.Rows.{number, row_bytes, rows_bytes, IsRow}
use Rattle.repo_name.specs.declared.rows.LockRow.{LockRow}
use Rattle.repo_name.specs.declared.tokens.Token.{Token}
use Rattle.std.specs.Result.{IsErrOf, IsErrAnd}
use Rattle.repo_name.specs.declared.rows.RowError.{RowError}
use Rattle.repo_locks.specs.declared.outcomes.LedgerError.{LedgerError}
use Rattle.repo_locks.specs.TokenMachine.{Tokens}
use Rattle.repo_locks.specs.Lawful.{Ascends, IsLedger}
use Rattle.repo_locks.specs.LedgerBytes.{token_bytes, IsNumber, fresh_bytes, ledger_bytes, FitsBytes, ledger_error, LedgersAreOne}

-- tokens in bytes read in one way, whatever follows them
pub tokens_one : (a b : Token) (x y : List ℕ) → IsNumber a → IsNumber b → token_bytes a ++ x ≡ token_bytes b ++ y → (a ≡ b) × (x ≡ y)
tokens_one a b x y ia ib h =
    let f = numbers_one a.0 b.0 x y ia ib h in
    (λ i. record { 0 = f.0 i }, f.1)

-- a fault that is the ledger's shape is the row's shape
pub row_shape : {A : Type 0} → (r : Result A LedgerError) (e : RowError) → IsErrOf r LedgerError.Shape → IsErrAnd r (λ y. y ≡ ledger_error e) → e ≡ RowError.Shape
row_shape (Ok x) e s h = absurd h
row_shape (Err y) RowError.Shape s h = refl
row_shape (Err y) RowError.Memory s h = absurd (let k : y ≡ LedgerError.Memory = h in cc)

-- a fault that is handed on is the same
pub same_shape : {A : Type 0} → (r : Result A LedgerError) (e : LedgerError) → IsErrOf r LedgerError.Shape → IsErrAnd r (λ y. y ≡ e) → e ≡ LedgerError.Shape
same_shape (Ok x) e s h = absurd h
same_shape (Err y) e s h = let k : y ≡ e = h in cc

-- fewer than eight bytes begin no token's
pub no_token : (u : List ℕ) → length u < 8 → (t : Token) (v : List ℕ) → IsNumber t → u ≢ token_bytes t ++ v
no_token u l t v is h = let same = ap length h in omega arith

-- fewer than eight bytes are no ledger's
pub no_ledger : (u : List ℕ) → length u < 8 → (l : Tokens) → u ≢ ledger_bytes l
no_ledger u l s h = let same = ap length h in omega arith

-- the first number of a ledger's bytes
pub after_next : (n : ℕ) (rest : List ℕ) (l : Tokens) → n < 2 ^ 64 → l.next < 2 ^ 64 → number n ++ rest ≡ ledger_bytes l → (n ≡ l.next) × (rest ≡ fresh_bytes l.fresh ++ rows_bytes l.live)
after_next n rest l fits is h = numbers_one n l.next rest (fresh_bytes l.fresh ++ rows_bytes l.live) fits is (h ∙ append_assoc (number l.next) (fresh_bytes l.fresh) (rows_bytes l.live))

-- the fresh numbers that follow
pub after_fresh : (ts us : List Token) (u v : List ℕ) → length ts ≤ 1024 → length us ≤ 1024 → All IsNumber ts → All IsNumber us
    → fresh_bytes ts ++ u ≡ fresh_bytes us ++ v → (ts ≡ us) × (u ≡ v)
after_fresh ts us u v lt lu at au h = counted_one token_bytes IsNumber tokens_one ts us u v (omega arith) (omega arith) at au h

-- and the live rows
pub after_live : (rs ss : List LockRow) (u v : List ℕ) → length rs ≤ 256 → length ss ≤ 256 → All IsRow rs → All IsRow ss
    → rows_bytes rs ++ u ≡ rows_bytes ss ++ v → (rs ≡ ss) × (u ≡ v)
after_live rs ss u v lr ls ar as' h = counted_one row_bytes IsRow rows_one rs ss u v (omega arith) (omega arith) ar as' h

-- two states that fit, and have equal bytes, are equal
pub states_one : (a b : Tokens) → FitsBytes a → FitsBytes b → ledger_bytes a ≡ ledger_bytes b → a ≡ b
states_one a b fa fb h =
    let n = after_next a.next (fresh_bytes a.fresh ++ rows_bytes a.live) b fa.next fb.next (sym (append_assoc (number a.next) (fresh_bytes a.fresh) (rows_bytes a.live)) ∙ h) in
    let f = after_fresh a.fresh b.fresh (rows_bytes a.live) (rows_bytes b.live) fa.few_fresh fb.few_fresh fa.fresh fb.fresh n.1 in
    let r = after_live a.live b.live [] [] fa.few_live fb.few_live fa.live fb.live (append-nil (rows_bytes a.live) ∙ f.1 ∙ sym (append-nil (rows_bytes b.live))) in
    λ i. record { next = n.0 i; fresh = f.0 i; live = r.0 i }

-- numbers that ascend below a number of 64 bits have 64 bits
numbers_fit : (low high : ℕ) (ts : List Token) → high < 2 ^ 64 → Ascends low high ts → All IsNumber ts
numbers_fit low high [] h a = All-nil IsNumber
numbers_fit low high (t ∷ ts) h a = All-cons IsNumber t ts (omega arith) (numbers_fit t.0 high ts h a.2)

-- lawful states fit
pub lawful_fits : (l : Tokens) → IsLedger l → FitsBytes l
lawful_fits l is = record {
  next = is.last;
  few_fresh = is.few_fresh;
  fresh = numbers_fit 0 l.next l.fresh is.last is.fresh;
  few_live = is.few_live;
  live = is.rows;
}

-- lawful states with equal bytes are equal
pub ledgers_one : LedgersAreOne
ledgers_one a b ia ib h = states_one a b (lawful_fits a ia) (lawful_fits b ib) h
