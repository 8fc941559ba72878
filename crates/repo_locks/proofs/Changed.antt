use Rattle.std.proofs.Common.{◌≡◌, ◌⊎◌, ℕ, ◌+◌, ◌<◌, ◌≤◌, Bool, true, false, List, [], ◌∷◌, ◌++◌, length, not, ltb, eqb, drop, cond, max, ◌^◌, Some, None, inl, inr, refl, sym, ap, ◌∙◌, arith}
use Rattle.std.specs.List.{filter, All}
use Rattle.std.proofs.lemmas.Bool.{cond_both, cases_Bool, eqb-true, eqb-false, not-true, not-false, true≢false, false≢true}
use Rattle.std.proofs.lemmas.List.Elements.{All-cons, All-head, All-tail}
use Rattle.repo_name.specs.declared.rows.LockRow.{LockRow}
use Rattle.repo_name.specs.declared.tokens.Token.{Token}
use Rattle.repo_locks.specs.TokenMachine.{is_among, kind_among, has_exclusive, with_row, without, rows_without, brought_up, rows_at}
use Rattle.repo_locks.proofs.Ascending.{none_parts}
use Rattle.repo_name.specs.Rows.{IsRow}

-- what a filter keeps isn't more
pub length-filter_le : {A : Type 0} → (p : A → Bool) (xs : List A) → length (filter p xs) ≤ length xs
length-filter_le p [] = omega arith
length-filter_le p (x ∷ xs) =
    let rest = length-filter_le p xs in
    cond_both (p x) (x ∷ filter p xs) (filter p xs) (λ us. length us ≤ length (x ∷ xs)) (λ _. omega arith) (λ _. omega arith)

-- what holds of all holds of those that a filter keeps
pub All-filter : {A : Type 0} → (P : A → Type 0) (p : A → Bool) (xs : List A) → All P xs → All P (filter p xs)
All-filter P p [] a = a
All-filter P p (x ∷ xs) a =
    let rest = All-filter P p xs (All-tail P x xs a) in
    cond_both (p x) (x ∷ filter p xs) (filter p xs) (λ us. All P us) (λ _. All-cons P x (filter p xs) (All-head P x xs a) rest) (λ _. rest)

-- without the first there is one less
pub length-drop_one : {A : Type 0} → (xs : List A) → 0 < length xs → length (drop 1 xs) + 1 ≡ length xs
length-drop_one [] h = absurd (omega arith)
length-drop_one (x ∷ xs) h = omega arith

-- what is among all but the first is among all
pub among_drop_one : (us : List Token) (t : Token) → is_among (drop 1 us) t ≡ true → is_among us t ≡ true
among_drop_one [] t h = h
among_drop_one (u ∷ us) t h = elim (cases_Bool (eqb u.0 t.0)) [ inl e ↦ rw e refl | inr e ↦ rw e h ]

-- a number among some and one more at the end
pub among_push : (us : List Token) (u t : Token) → is_among (us ++ u ∷ []) t ≡ true → (is_among us t ≡ true) ⊎ (t.0 ≡ u.0)
among_push [] u t h = elim (cases_Bool (eqb u.0 t.0)) [
  | inl e ↦ inr (sym (eqb-true u.0 t.0 e))
  | inr e ↦ absurd (false≢true (rw e at h))
]
among_push (v ∷ us) u t h = elim (cases_Bool (eqb v.0 t.0)) [
  | inl e ↦ inl (rw e refl)
  | inr e ↦ elim (among_push us u t (rw e at h)) [ inl k ↦ inl (rw e k) | inr k ↦ inr k ]
]

-- a number among all but one isn't that one, and is among all
pub among_without : (t : Token) (us : List Token) (u : Token) → is_among (without t us) u ≡ true → (u.0 ≡ t.0 → ⊥) × (is_among us u ≡ true)
among_without t [] u h = absurd (false≢true h)
among_without t (v ∷ us) u h = elim (cases_Bool (eqb v.0 t.0)) [
  | inl e ↦ let rest = among_without t us u (rw e at h) in
      (rest.0, elim (cases_Bool (eqb v.0 u.0)) [ inl k ↦ rw k refl | inr k ↦ rw k rest.1 ])
  | inr e ↦ let kept : is_among (v ∷ without t us) u ≡ true = rw e at h in
      elim (cases_Bool (eqb v.0 u.0)) [
        | inl k ↦ (λ same. eqb-false v.0 t.0 e (eqb-true v.0 u.0 k ∙ same), rw k refl)
        | inr k ↦ let rest = among_without t us u (rw k at kept) in (rest.0, rw k rest.1)
      ]
]

-- a row in its place is one more
pub length-with_row : (row : LockRow) (rs : List LockRow) → length (with_row row rs) ≡ length rs + 1
length-with_row row [] = refl
length-with_row row (r ∷ rs) =
    let rest = length-with_row row rs in
    cond_both (ltb row.token.0 r.token.0) (row ∷ r ∷ rs) (r ∷ with_row row rs) (λ us. length us ≡ length (r ∷ rs) + 1) (λ _. omega arith) (λ _. omega arith)

-- a row in its place changes nothing for the other tokens
pub kind_among-with_row : (row : LockRow) (rs : List LockRow) (t : Token) → (t.0 ≡ row.token.0 → ⊥) → kind_among (with_row row rs) t ≡ kind_among rs t
kind_among-with_row row [] t n = elim (cases_Bool (eqb row.token.0 t.0)) [
  | inl e ↦ absurd (n (sym (eqb-true row.token.0 t.0 e)))
  | inr e ↦ rw e refl
]
kind_among-with_row row (r ∷ rs) t n =
    cond_both (ltb row.token.0 r.token.0) (row ∷ r ∷ rs) (r ∷ with_row row rs) (λ us. kind_among us t ≡ kind_among (r ∷ rs) t)
    (λ _. elim (cases_Bool (eqb row.token.0 t.0)) [
      | inl e ↦ absurd (n (sym (eqb-true row.token.0 t.0 e)))
      | inr e ↦ rw e refl
    ])
    (λ _. ap (λ o. cond (eqb r.token.0 t.0) (Some r.exclusive) o) (kind_among-with_row row rs t n))

-- a row in its place is there
pub kind_among-with_row_same : (row : LockRow) (rs : List LockRow) → kind_among rs row.token ≡ None → kind_among (with_row row rs) row.token ≡ Some row.exclusive
kind_among-with_row_same row [] n = elim (cases_Bool (eqb row.token.0 row.token.0)) [
  | inl e ↦ rw e refl
  | inr e ↦ absurd (eqb-false row.token.0 row.token.0 e refl)
]
kind_among-with_row_same row (r ∷ rs) n =
    let parts = none_parts r rs row.token n in
    cond_both (ltb row.token.0 r.token.0) (row ∷ r ∷ rs) (r ∷ with_row row rs) (λ us. kind_among us row.token ≡ Some row.exclusive)
    (λ _. elim (cases_Bool (eqb row.token.0 row.token.0)) [
      | inl e ↦ rw e refl
      | inr e ↦ absurd (eqb-false row.token.0 row.token.0 e refl)
    ])
    (λ _. elim (cases_Bool (eqb r.token.0 row.token.0)) [
      | inl e ↦ absurd (parts.0 (eqb-true r.token.0 row.token.0 e))
      | inr e ↦ rw e (kind_among-with_row_same row rs parts.1)
    ])

-- a shared row among shared ones leaves no exclusive one
pub has_exclusive-with_row : (row : LockRow) (rs : List LockRow) → row.exclusive ≡ false → has_exclusive rs ≡ false → has_exclusive (with_row row rs) ≡ false
has_exclusive-with_row row [] s n = rw s refl
has_exclusive-with_row row (r ∷ rs) s n =
    cond_both (ltb row.token.0 r.token.0) (row ∷ r ∷ rs) (r ∷ with_row row rs) (λ us. has_exclusive us ≡ false)
    (λ _. rw s n)
    (λ _. elim (cases_Bool r.exclusive) [
      | inl e ↦ absurd (true≢false (rw e at n))
      | inr e ↦ rw e (has_exclusive-with_row row rs s (rw e at n))
    ])

-- among rows without a token's that token isn't live
pub kind_among-rows_without_same : (t : Token) (rs : List LockRow) (u : Token) → u.0 ≡ t.0 → kind_among (rows_without t rs) u ≡ None
kind_among-rows_without_same t [] u s = refl
kind_among-rows_without_same t (r ∷ rs) u s =
    cond_both (not (eqb r.token.0 t.0)) (r ∷ rows_without t rs) (rows_without t rs) (λ us. kind_among us u ≡ None)
    (λ k. let apart = eqb-false r.token.0 t.0 (not-true (eqb r.token.0 t.0) k) in elim (cases_Bool (eqb r.token.0 u.0)) [
      | inl e ↦ absurd (apart (eqb-true r.token.0 u.0 e ∙ s))
      | inr e ↦ rw e (kind_among-rows_without_same t rs u s)
    ])
    (λ _. kind_among-rows_without_same t rs u s)

-- rows without a token's are as all the rows for every other token
pub kind_among-rows_without : (t : Token) (rs : List LockRow) (u : Token) → (u.0 ≡ t.0 → ⊥) → kind_among (rows_without t rs) u ≡ kind_among rs u
kind_among-rows_without t [] u n = refl
kind_among-rows_without t (r ∷ rs) u n =
    cond_both (not (eqb r.token.0 t.0)) (r ∷ rows_without t rs) (rows_without t rs) (λ us. kind_among us u ≡ kind_among (r ∷ rs) u)
    (λ _. ap (λ o. cond (eqb r.token.0 u.0) (Some r.exclusive) o) (kind_among-rows_without t rs u n))
    (λ k. let same = eqb-true r.token.0 t.0 (not-false (eqb r.token.0 t.0) k) in elim (cases_Bool (eqb r.token.0 u.0)) [
      | inl e ↦ absurd (n (sym (eqb-true r.token.0 u.0 e) ∙ same))
      | inr e ↦ rw e (kind_among-rows_without t rs u n)
    ])

-- what isn't live among all rows isn't live among some
pub none-rows_without : (t : Token) (rs : List LockRow) (u : Token) → kind_among rs u ≡ None → kind_among (rows_without t rs) u ≡ None
none-rows_without t rs u h = elim (cases_Bool (eqb u.0 t.0)) [
  | inl e ↦ kind_among-rows_without_same t rs u (eqb-true u.0 t.0 e)
  | inr e ↦ kind_among-rows_without t rs u (eqb-false u.0 t.0 e) ∙ h
]

-- what is live among rows without a token's is live in that way among them all
pub some-rows_without : (t : Token) (rs : List LockRow) (u : Token) (b : Bool) → kind_among (rows_without t rs) u ≡ Some b → kind_among rs u ≡ Some b
some-rows_without t rs u b h = elim (cases_Bool (eqb u.0 t.0)) [
  | inl e ↦ absurd (let k : None ≡ Some b = sym (kind_among-rows_without_same t rs u (eqb-true u.0 t.0 e)) ∙ h in cc)
  | inr e ↦ sym (kind_among-rows_without t rs u (eqb-false u.0 t.0 e)) ∙ h
]

-- among rows of which some are left out an exclusive one was there before
pub has_exclusive-rows_without : (t : Token) (rs : List LockRow) → has_exclusive (rows_without t rs) ≡ true → has_exclusive rs ≡ true
has_exclusive-rows_without t [] h = h
has_exclusive-rows_without t (r ∷ rs) h = elim (cases_Bool r.exclusive) [
  | inl e ↦ rw e refl
  | inr e ↦ rw e (elim (cases_Bool (eqb r.token.0 t.0)) [
    | inl k ↦ has_exclusive-rows_without t rs (rw k at h)
    | inr k ↦ let kept : has_exclusive (r ∷ rows_without t rs) ≡ true = rw k at h in
        has_exclusive-rows_without t rs (rw e at kept)
  ])
]

-- where one is exclusive there is one
pub exclusive_is_one : (rs : List LockRow) → has_exclusive rs ≡ true → 0 < length rs
exclusive_is_one [] h = absurd (false≢true h)
exclusive_is_one (r ∷ rs) h = omega arith

-- what holds of a row and of all others holds of all with it
pub All-with_row : (P : LockRow → Type 0) (row : LockRow) (rs : List LockRow) → P row → All P rs → All P (with_row row rs)
All-with_row P row [] h a = All-cons P row [] h a
All-with_row P row (r ∷ rs) h a =
    cond_both (ltb row.token.0 r.token.0) (row ∷ r ∷ rs) (r ∷ with_row row rs) (λ us. All P us)
    (λ _. All-cons P row (r ∷ rs) h a)
    (λ _. All-cons P r (with_row row rs) (All-head P r rs a) (All-with_row P row rs h (All-tail P r rs a)))

-- a time that is brought up leaves as many rows
pub length-rows_at : (t : Token) (time : ℕ) (rs : List LockRow) → length (rows_at t time rs) ≡ length rs
length-rows_at t time [] = refl
length-rows_at t time (r ∷ rs) = let rest = length-rows_at t time rs in omega arith

-- a time that is brought up changes no kind
pub kind_among-rows_at : (t : Token) (time : ℕ) (rs : List LockRow) (u : Token) → kind_among (rows_at t time rs) u ≡ kind_among rs u
kind_among-rows_at t time [] u = refl
kind_among-rows_at t time (r ∷ rs) u = ap (λ o. cond (eqb r.token.0 u.0) (Some r.exclusive) o) (kind_among-rows_at t time rs u)

-- a time that is brought up makes no row exclusive
pub has_exclusive-rows_at : (t : Token) (time : ℕ) (rs : List LockRow) → has_exclusive (rows_at t time rs) ≡ has_exclusive rs
has_exclusive-rows_at t time [] = refl
has_exclusive-rows_at t time (r ∷ rs) = ap (λ b. cond r.exclusive true b) (has_exclusive-rows_at t time rs)

-- the greater of two times of 64 bits has 64 bits
pub IsRow-later : (t : Token) (time : ℕ) (r : LockRow) → time < 2 ^ 64 → IsRow r → IsRow (brought_up t time r)
IsRow-later t time r fits is = record {
  token = is.token;
  time = let own = is.time in cond_both (eqb r.token.0 t.0) (max r.time time) r.time (λ n. n < 2 ^ 64) (λ _. omega arith) (λ _. own);
  host = is.host;
}

-- rows with a time brought up are rows as programs make them
pub All-rows_at : (t : Token) (time : ℕ) (rs : List LockRow) → time < 2 ^ 64 → All IsRow rs → All IsRow (rows_at t time rs)
All-rows_at t time [] fits a = a
All-rows_at t time (r ∷ rs) fits a =
    All-cons IsRow (brought_up t time r) (rows_at t time rs) (IsRow-later t time r fits (All-head IsRow r rs a)) (All-rows_at t time rs fits (All-tail IsRow r rs a))
