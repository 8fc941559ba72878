use Rattle.std.proofs.Common.{◌≡◌, ℕ, ◌+◌, ◌<◌, ◌≤◌, true, false, List, [], ◌∷◌, ◌++◌, length, take, drop, get_or, drop-cons, add-one, eqb, ltb, max, map, Option, Some, None, is_some, inl, inr, refl, sym, ap, subst, ◌∙◌, arith}
use Rattle.std.specs.BTreeMap.{insert_entry, is_at}
use Rattle.std.specs.BTreeSet.{insert_key}
use Rattle.std.specs.Cmp.{nat_cmp_is}
use Rattle.std.specs.List.{list_any, slice_get}
use Rattle.std.specs.Map.{values_of, lookup, remove_entry, set_value}
use Rattle.std.specs.Option.{option_map, IsSome, IfSome}
use Rattle.std.specs.Ordering.{nat_cmp, is_eq}
use Rattle.std.specs.Set.{remove_key}
use Rattle.std.specs.declared.cmp.Ordering.{Ordering}
use Rattle.std.specs.declared.cmp.Ordering.TheVariants.{Equal, Greater}
use Rattle.std.proofs.lemmas.List.{map-append, take-append-drop, take_more}
use Rattle.std.proofs.lemmas.Bool.{cases_Bool, eqb-true, eqb-false, false_from_ne_true, false≢true, le-ltb, eq-eqb, ne_eqb}
use Rattle.repo_name.specs.declared.rows.LockRow.{LockRow}
use Rattle.repo_name.specs.declared.tokens.Token.{Token}
use Rattle.repo_locks.specs.Lawful.{Ascends}
use Rattle.repo_locks.specs.TokenMachine.{is_among, kind_among, has_exclusive, tokens_of, with_room, without, rows_without, with_row, rows_at}
use Rattle.repo_locks.specs.TokenMaps.{under_token, AreUnderTokens}
use Rattle.repo_locks.proofs.Ascending.{none_parts}
use Rattle.repo_locks.proofs.Changed.{exclusive_is_one}
use Rattle.repo_locks.proofs.Numbers.{without_none, rows_without_none}

-- tokens in the order of their numbers
abbrev pub token_cmp : Token → Token → Ordering
token_cmp t u = nat_cmp t.0 u.0

-- the order finds a number where the same one stands
at_same : (a b : ℕ) → is_eq (nat_cmp a b) ≡ eqb b a
at_same a b = elim (cases_Bool (eqb b a)) [
  | inl e ↦ ap is_eq (sym (nat_cmp_is a b Equal (sym (eqb-true b a e)))) ∙ sym e
  | inr e ↦ elim (cases_Bool (ltb a b)) [
    | inl l ↦ rw (l, e) refl
    | inr l ↦ rw (l, e, ne_eqb a b (λ h. eqb-false b a e (sym h))) refl
  ]
]

-- a look-up in a set of numbers
pub contains_among : (ts : List Token) (t : Token) → list_any (is_at (token_cmp t)) ts ≡ is_among ts t
contains_among [] t = refl
contains_among (u ∷ us) t = elim (cases_Bool (eqb u.0 t.0)) [
  | inl e ↦ rw (at_same t.0 u.0, e) refl
  | inr e ↦ rw (at_same t.0 u.0, e) (contains_among us t)
]

-- the values of rows under their tokens
values_under : (rs : List LockRow) → values_of (map under_token rs) ≡ rs
values_under [] = refl
values_under (r ∷ rs) = ap (λ us. r ∷ us) (values_under rs)

-- entries that are rows under their tokens
pub under_made : (es : List (Token × LockRow)) (rs : List LockRow) → es ≡ map under_token rs → (values_of es ≡ rs) × AreUnderTokens es
under_made es rs h =
    let values : values_of es ≡ rs = ap (λ fs. values_of fs) h ∙ values_under rs in
    (values, h ∙ ap (λ us. map under_token us) (sym values))

-- a look-up among rows under their tokens
lookup_kind : (rs : List LockRow) (t : Token) → option_map (λ r. r.exclusive) (lookup (is_at (token_cmp t)) (map under_token rs)) ≡ kind_among rs t
lookup_kind [] t = refl
lookup_kind (r ∷ rs) t = elim (cases_Bool (eqb r.token.0 t.0)) [
  | inl e ↦ rw (at_same t.0 r.token.0, e) refl
  | inr e ↦ rw (at_same t.0 r.token.0, e) (lookup_kind rs t)
]

-- a look-up in a map of rows
pub kind_found : (es : List (Token × LockRow)) (t : Token) → AreUnderTokens es → option_map (λ r. r.exclusive) (lookup (is_at (token_cmp t)) es) ≡ kind_among (values_of es) t
kind_found es t under = ap (λ fs. option_map (λ r. r.exclusive) (lookup (is_at (token_cmp t)) fs)) under ∙ lookup_kind (values_of es) t

is_some_map : {A B : Type 0} → (f : A → B) (o : Option A) → is_some (option_map f o) ≡ is_some o
is_some_map f None = refl
is_some_map f (Some x) = refl

-- a test for a token in a map of rows
pub row_known : (es : List (Token × LockRow)) (t : Token) → AreUnderTokens es → is_some (lookup (is_at (token_cmp t)) es) ≡ is_some (kind_among (values_of es) t)
row_known es t under = sym (is_some_map (λ r. r.exclusive) (lookup (is_at (token_cmp t)) es)) ∙ ap (λ o. is_some o) (kind_found es t under)

-- a look-up that finds nothing
pub no_row : (es : List (Token × LockRow)) (t : Token) → AreUnderTokens es → None ≡ lookup (is_at (token_cmp t)) es → kind_among (values_of es) t ≡ None
no_row es t under h = sym (kind_found es t under) ∙ ap (λ o. option_map (λ r. r.exclusive) o) (sym h)

-- an exclusive row that is the only one is the first
pub first_exclusive : (es : List (Token × LockRow)) (e : Token × LockRow) → (has_exclusive (values_of es) ≡ true → length (values_of es) ≡ 1)
    → slice_get es 0 ≡ Some e → e.1.exclusive ≡ has_exclusive (values_of es)
first_exclusive [] e alone h = absurd (cc)
first_exclusive (f ∷ es) e alone h =
    let found : Some f ≡ Some e = h in
    let is : f ≡ e = cc in
    ap (λ (x : Token × LockRow). x.1.exclusive) (sym is) ∙ elim (cases_Bool f.1.exclusive) [
      | inl k ↦ rw k refl
      | inr k ↦ rw k (sym (false_from_ne_true (has_exclusive (values_of es)) (λ other.
          let one = alone (rw k other) in
          let some = exclusive_is_one (values_of es) other in
          omega arith)))
    ]

-- a number below all is none of theirs
among_below : (low high : ℕ) (ts : List Token) (t : Token) → Ascends low high ts → t.0 ≤ low → is_among ts t ≡ false
among_below low high [] t a h = refl
among_below low high (u ∷ us) t a h = rw (ne_eqb u.0 t.0 (λ k. omega arith)) (among_below u.0 high us t a.2 (omega arith))

-- a number below all rows is none of theirs
kind_below : (low high : ℕ) (rs : List LockRow) (t : Token) → Ascends low high (tokens_of rs) → t.0 ≤ low → kind_among rs t ≡ None
kind_below low high [] t a h = refl
kind_below low high (r ∷ rs) t a h = rw (ne_eqb r.token.0 t.0 (λ k. omega arith)) (kind_below r.token.0 high rs t a.2 (omega arith))

-- a number removed from a set
pub removed_without : (low high : ℕ) (ts : List Token) (t : Token) → Ascends low high ts → remove_key (is_at (token_cmp t)) ts ≡ without t ts
removed_without low high [] t a = refl
removed_without low high (u ∷ us) t a = elim (cases_Bool (eqb u.0 t.0)) [
  | inl e ↦ let same = eqb-true u.0 t.0 e in
      rw (at_same t.0 u.0, e) (sym (without_none t us (among_below u.0 high us t a.2 (omega arith))))
  | inr e ↦ rw (at_same t.0 u.0, e) (ap (λ vs. u ∷ vs) (removed_without u.0 high us t a.2))
]

-- a token's row removed from rows under their tokens
removed_rows : (low high : ℕ) (rs : List LockRow) (t : Token) → Ascends low high (tokens_of rs)
    → remove_entry (is_at (token_cmp t)) (map under_token rs) ≡ map under_token (rows_without t rs)
removed_rows low high [] t a = refl
removed_rows low high (r ∷ rs) t a = elim (cases_Bool (eqb r.token.0 t.0)) [
  | inl e ↦ let same = eqb-true r.token.0 t.0 e in
      rw (at_same t.0 r.token.0, e) (ap (λ us. map under_token us) (sym (rows_without_none t rs (kind_below r.token.0 high rs t a.2 (omega arith)))))
  | inr e ↦ rw (at_same t.0 r.token.0, e) (ap (λ es. under_token r ∷ es) (removed_rows r.token.0 high rs t a.2))
]

-- a token's row removed from a map
pub removed_under : (es fs : List (Token × LockRow)) (t : Token) (high : ℕ) → AreUnderTokens es → Ascends 0 high (tokens_of (values_of es))
    → fs ≡ remove_entry (is_at (token_cmp t)) es → (values_of fs ≡ rows_without t (values_of es)) × AreUnderTokens fs
removed_under es fs t high under a h =
    under_made fs (rows_without t (values_of es)) (h ∙ ap (λ gs. remove_entry (is_at (token_cmp t)) gs) under ∙ removed_rows 0 high (values_of es) t a)

-- a row put among rows under their tokens
put_rows : (row : LockRow) (rs : List LockRow) → kind_among rs row.token ≡ None → insert_entry token_cmp (map under_token rs) row.token row ≡ map under_token (with_row row rs)
put_rows row [] n = refl
put_rows row (r ∷ rs) n =
    let parts = none_parts r rs row.token n in
    elim (cases_Bool (ltb row.token.0 r.token.0)) [
      | inl e ↦ rw e refl
      | inr e ↦ rw (e, ne_eqb row.token.0 r.token.0 (λ k. parts.0 (sym k))) (ap (λ es. under_token r ∷ es) (put_rows row rs parts.1))
    ]

-- a row put in a map
pub put_under : (es fs : List (Token × LockRow)) (row : LockRow) → AreUnderTokens es → kind_among (values_of es) row.token ≡ None
    → fs ≡ insert_entry token_cmp es row.token row → (values_of fs ≡ with_row row (values_of es)) × AreUnderTokens fs
put_under es fs row under n h =
    under_made fs (with_row row (values_of es)) (h ∙ ap (λ gs. insert_entry token_cmp gs row.token row) under ∙ put_rows row (values_of es) n)

-- a time that is brought up for a token without a row changes nothing
pub rows_at_none : (t : Token) (time : ℕ) (rs : List LockRow) → kind_among rs t ≡ None → rows_at t time rs ≡ rs
rows_at_none t time [] n = refl
rows_at_none t time (r ∷ rs) n =
    let parts = none_parts r rs t n in
    rw (ne_eqb r.token.0 t.0 parts.0) (ap (λ us. r ∷ us) (rows_at_none t time rs parts.1))

-- a row whose time is the greater of its own and this one
abbrev pub later : ℕ → LockRow → LockRow
later time r = record r { time = max r.time time }

-- a token's time written among rows under their tokens
written_rows : (low high : ℕ) (rs : List LockRow) (t : Token) (time : ℕ) (row : LockRow) → Ascends low high (tokens_of rs)
    → lookup (is_at (token_cmp t)) (map under_token rs) ≡ Some row
    → set_value (is_at (token_cmp t)) (map under_token rs) (later time row) ≡ map under_token (rows_at t time rs)
written_rows low high [] t time row a h = refl
written_rows low high (r ∷ rs) t time row a h = elim (cases_Bool (eqb r.token.0 t.0)) [
  | inl e ↦ let same = eqb-true r.token.0 t.0 e in
      let found : Some r ≡ Some row = rw (at_same t.0 r.token.0, e) at h in
      let is : r ≡ row = cc in
      let others = rows_at_none t time rs (kind_below r.token.0 high rs t a.2 (omega arith)) in
      rw (at_same t.0 r.token.0, e, others) (ap (λ (x : LockRow). (r.token, later time x) ∷ map under_token rs) (sym is))
  | inr e ↦ let further : lookup (is_at (token_cmp t)) (map under_token rs) ≡ Some row = rw (at_same t.0 r.token.0, e) at h in
      rw (at_same t.0 r.token.0, e) (ap (λ es. under_token r ∷ es) (written_rows r.token.0 high rs t time row a.2 further))
]

-- a token's time written in a map
pub written_under : (es fs : List (Token × LockRow)) (t : Token) (time : ℕ) (row : LockRow) (high : ℕ) → AreUnderTokens es → Ascends 0 high (tokens_of (values_of es))
    → lookup (is_at (token_cmp t)) es ≡ Some row → fs ≡ set_value (is_at (token_cmp t)) es (later time row)
    → (values_of fs ≡ rows_at t time (values_of es)) × AreUnderTokens fs
written_under es fs t time row high under a found h =
    let own : lookup (is_at (token_cmp t)) (map under_token (values_of es)) ≡ Some row = ap (λ gs. lookup (is_at (token_cmp t)) gs) (sym under) ∙ found in
    under_made fs (rows_at t time (values_of es))
    (h ∙ ap (λ gs. set_value (is_at (token_cmp t)) gs (later time row)) under ∙ written_rows 0 high (values_of es) t time row a own)

-- a number above all goes to the end of a set
pub last_key : (low : ℕ) (ts : List Token) (t : Token) → Ascends low t.0 ts → insert_key token_cmp ts t ≡ ts ++ t ∷ []
last_key low [] t a = refl
last_key low (u ∷ us) t a =
    let above : nat_cmp t.0 u.0 ≡ Greater = sym (nat_cmp_is t.0 u.0 Greater a.1) in
    rw above (ap (λ vs. u ∷ vs) (last_key u.0 us t a.2))

-- the least of some keys is taken away
pub least_popped : (r : Option Token) (ts us : List Token) → (0 < length ts → IsSome r) → IfSome r (λ t. ts ≡ t ∷ us) → 0 < length ts → us ≡ drop 1 ts
least_popped None ts us some h l = absurd (false≢true (some l))
least_popped (Some t) ts us some h l = ap (λ vs. drop 1 vs) (sym h)

-- a number at the end of a full list, of which the least goes
pub full_then : (ts us : List Token) (t : Token) → length ts ≡ 1024 → us ≡ drop 1 (ts ++ t ∷ []) → us ≡ with_room ts ++ t ∷ []
full_then [] us t full h = absurd (omega arith)
full_then (v ∷ ts) us t full h = rw (eq-eqb (length (v ∷ ts)) 1024 full) h

-- a number at the end of a list that isn't full
pub free_then : (ts us : List Token) (t : Token) → (length ts ≡ 1024 → ⊥) → us ≡ ts ++ t ∷ [] → us ≡ with_room ts ++ t ∷ []
free_then ts us t free h = rw (ne_eqb (length ts) 1024 free) h

-- a row above all goes to their end
pub last_row : (low : ℕ) (rs : List LockRow) (row : LockRow) → Ascends low row.token.0 (tokens_of rs) → with_row row rs ≡ rs ++ row ∷ []
last_row low [] row a = refl
last_row low (r ∷ rs) row a = rw (le-ltb row.token.0 r.token.0 (omega arith)) (ap (λ us. r ∷ us) (last_row r.token.0 rs row a.2))

-- the number behind some that ascend is above the lowest
past_low : (low high : ℕ) (ts us : List Token) (t : Token) → Ascends low high (ts ++ t ∷ us) → low < t.0
past_low low high [] us t a = a.0
past_low low high (u ∷ ts) us t a = let further = past_low u.0 high ts us t a.2 in omega arith

-- numbers that ascend are below the one behind them
pub ascend_before : (low high : ℕ) (ts us : List Token) (t : Token) → Ascends low high (ts ++ t ∷ us) → Ascends low t.0 ts
ascend_before low high [] us t a = tt
ascend_before low high (u ∷ ts) us t a = (a.0, past_low u.0 high ts us t a.2, ascend_before u.0 high ts us t a.2)

-- the numbers so far in a set, and the next
pub next_key : (ts ks : List Token) (i high : ℕ) (d : Token) → Ascends 0 high ts → i < length ts → ks ≡ take i ts → insert_key token_cmp ks (get_or ts i d) ≡ take (i + 1) ts
next_key ts ks i high d a l h =
    let cut : ts ≡ take i ts ++ get_or ts i d ∷ drop (i + 1) ts = sym (take-append-drop i ts) ∙ ap (λ us. take i ts ++ us) (rw add-one (drop-cons ts i d l)) in
    let before = ascend_before 0 high (take i ts) (drop (i + 1) ts) (get_or ts i d) (subst (Ascends 0 high) cut a) in
    ap (λ us. insert_key token_cmp us (get_or ts i d)) h ∙ last_key 0 (take i ts) (get_or ts i d) before ∙ sym (take_more ts i d l)

-- rows that ascend are below the one behind them
pub rows_before : (high : ℕ) (all rs rest ss : List LockRow) (row : LockRow) → Ascends 0 high (tokens_of all) → all ≡ rs ++ rest → rest ≡ row ∷ ss
    → Ascends 0 row.token.0 (tokens_of rs)
rows_before high all rs rest ss row a left next =
    let cut = left ∙ ap (λ us. rs ++ us) next in
    let apart : tokens_of all ≡ tokens_of rs ++ row.token ∷ tokens_of ss = ap (λ us. tokens_of us) cut ∙ map-append (λ (r : LockRow). r.token) rs (row ∷ ss) in
    ascend_before 0 high (tokens_of rs) (tokens_of ss) row.token (subst (Ascends 0 high) apart a)
