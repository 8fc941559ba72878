use Rattle.std.proofs.Common.{◌≡◌, ℕ, ◌+◌, ◌<◌, ◌≤◌, Bool, true, false, List, [], ◌∷◌, ◌++◌, not, ltb, eqb, drop, cond, Some, None, inl, inr, refl, ap, arith}
use Rattle.std.specs.List.{filter}
use Rattle.std.proofs.lemmas.Bool.{cond_both, cases_Bool, eqb-true, eqb-false, ltb-true, ltb-false, false≢true}
use Rattle.repo_name.specs.declared.rows.LockRow.{LockRow}
use Rattle.repo_name.specs.declared.tokens.Token.{Token}
use Rattle.repo_locks.specs.TokenMachine.{is_among, kind_among, tokens_of, with_row, without, rows_without, rows_at}
use Rattle.repo_locks.specs.Lawful.{Ascends}

-- wider limits hold too
pub Ascends-weaker : (low below high above : ℕ) (ts : List Token) → below ≤ low → high ≤ above → Ascends low high ts → Ascends below above ts
Ascends-weaker low below high above [] l h a = a
Ascends-weaker low below high above (t ∷ ts) l h a = (omega arith, omega arith, Ascends-weaker t.0 t.0 high above ts (omega arith) h a.2)

-- some of them ascend
pub Ascends-filter : (p : Token → Bool) (low high : ℕ) (ts : List Token) → Ascends low high ts → Ascends low high (filter p ts)
Ascends-filter p low high [] a = a
Ascends-filter p low high (t ∷ ts) a =
    cond_both (p t) (t ∷ filter p ts) (filter p ts) (λ us. Ascends low high us)
    (λ _. (a.0, a.1, Ascends-filter p t.0 high ts a.2))
    (λ _. Ascends-weaker t.0 low high high (filter p ts) (omega arith) (omega arith) (Ascends-filter p t.0 high ts a.2))

-- without the first they ascend
pub Ascends-drop_one : (low high : ℕ) (ts : List Token) → Ascends low high ts → Ascends low high (drop 1 ts)
Ascends-drop_one low high [] a = a
Ascends-drop_one low high (t ∷ ts) a = Ascends-weaker t.0 low high high ts (omega arith) (omega arith) a.2

-- a number that is above them all at the end
pub Ascends-push : (low high : ℕ) (ts : List Token) (t : Token) → low < t.0 → high ≤ t.0 → Ascends low high ts → Ascends low (t.0 + 1) (ts ++ t ∷ [])
Ascends-push low high [] t l h a = (l, omega arith, tt)
Ascends-push low high (u ∷ us) t l h a = (a.0, omega arith, Ascends-push u.0 high us t (omega arith) h a.2)

-- a number among some is within their limits
pub among_within : (low high : ℕ) (ts : List Token) (t : Token) → Ascends low high ts → is_among ts t ≡ true → (low < t.0) × (t.0 < high)
among_within low high [] t a h = absurd (false≢true h)
among_within low high (u ∷ us) t a h = elim (cases_Bool (eqb u.0 t.0)) [
  | inl e ↦ let same = eqb-true u.0 t.0 e in (omega arith, omega arith)
  | inr e ↦ let rest = among_within u.0 high us t a.2 (rw e at h) in (omega arith, rest.1)
]

-- a token that some rows lack isn't the first's, and the others lack it too
pub none_parts : (r : LockRow) (rs : List LockRow) (t : Token) → kind_among (r ∷ rs) t ≡ None → (r.token.0 ≡ t.0 → ⊥) × (kind_among rs t ≡ None)
none_parts r rs t h = elim (cases_Bool (eqb r.token.0 t.0)) [
  | inl e ↦ let found : Some r.exclusive ≡ None = rw e at h in cc
  | inr e ↦ (eqb-false r.token.0 t.0 e, rw e at h)
]

-- a number above all rows is none of theirs
pub kind_beyond : (low high : ℕ) (rs : List LockRow) (t : Token) → Ascends low high (tokens_of rs) → high ≤ t.0 → kind_among rs t ≡ None
kind_beyond low high [] t a h = refl
kind_beyond low high (r ∷ rs) t a h = elim (cases_Bool (eqb r.token.0 t.0)) [
  | inl e ↦ let same = eqb-true r.token.0 t.0 e in absurd (omega arith)
  | inr e ↦ rw e (kind_beyond r.token.0 high rs t a.2 h)
]

-- a row in its place
pub Ascends-with_row : (row : LockRow) (low high : ℕ) (rs : List LockRow) → low < row.token.0 → row.token.0 < high → kind_among rs row.token ≡ None
    → Ascends low high (tokens_of rs) → Ascends low high (tokens_of (with_row row rs))
Ascends-with_row row low high [] l h n a = (l, h, tt)
Ascends-with_row row low high (r ∷ rs) l h n a =
    let parts = none_parts r rs row.token n in
    cond_both (ltb row.token.0 r.token.0) (row ∷ r ∷ rs) (r ∷ with_row row rs) (λ us. Ascends low high (tokens_of us))
    (λ e. (l, h, (ltb-true row.token.0 r.token.0 e, a.1, a.2)))
    (λ e. (
      a.0,
      a.1,
      let above = ltb-false row.token.0 r.token.0 e in
          Ascends-with_row row r.token.0 high rs (let apart = parts.0 in omega arith) h parts.1 a.2,
    ))

-- the tokens of rows without a token's are their tokens without it
pub tokens_of-rows_without : (t : Token) (rs : List LockRow) → tokens_of (rows_without t rs) ≡ without t (tokens_of rs)
tokens_of-rows_without t [] = refl
tokens_of-rows_without t (r ∷ rs) =
    elim (eqb r.token.0 t.0) as (λ b. tokens_of (cond (not b) (r ∷ rows_without t rs) (rows_without t rs)) ≡ cond (not b) (r.token ∷ without t (tokens_of rs)) (without t (tokens_of rs))) [
      | true ↦ tokens_of-rows_without t rs
      | false ↦ ap (λ us. r.token ∷ us) (tokens_of-rows_without t rs)
    ]

-- a time that is brought up changes no token
pub tokens_of-rows_at : (t : Token) (time : ℕ) (rs : List LockRow) → tokens_of (rows_at t time rs) ≡ tokens_of rs
tokens_of-rows_at t time [] = refl
tokens_of-rows_at t time (r ∷ rs) = ap (λ us. r.token ∷ us) (tokens_of-rows_at t time rs)
