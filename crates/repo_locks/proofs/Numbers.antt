use Rattle.std.proofs.Common.{◌≡◌, ◌≢◌, ◌⊎◌, ℕ, Bool, true, false, List, [], ◌∷◌, ◌++◌, length, eqb, Option, Some, None, is_some, Result, Ok, Err, inl, inr, refl, sym, ap, ◌∙◌, subst, arith}
use Rattle.std.proofs.lemmas.Bool.{cases_Bool, or_parts, or_from, false_from_ne_true, eqb-true, eqb-false, true≢false}
use Rattle.repo_name.specs.declared.rows.LockRow.{LockRow}
use Rattle.repo_name.specs.declared.tokens.Token.{Token}
use Rattle.repo_locks.specs.declared.outcomes.Grant.{Grant}
use Rattle.repo_locks.specs.declared.outcomes.TicketError.{TicketError}
use Rattle.repo_locks.specs.declared.outcomes.LockError.{LockError}
use Rattle.repo_locks.specs.declared.outcomes.RefreshError.{RefreshError}
use Rattle.repo_locks.specs.TokenMachine.{Tokens, is_among, kind_among, has_exclusive, is_fresh, is_live, is_fresh_or_live, live_as, with_room, without, rows_without, granted, unlocked, TicketStep, LockStep, RefreshStep, UnlockStep}
use Rattle.repo_locks.specs.Laws.{IssuedIsFresh, LockedIsLive, UnlockedIsNeither, by_ticket, by_lock, by_refresh, by_unlock, GoesForward, NumbersGoForward, DeadStaysDead, LiveStaysLive, NothingToUnlock, ExclusiveIsAlone}
use Rattle.repo_locks.proofs.Ascending.{none_parts}
use Rattle.repo_locks.proofs.Changed.{among_drop_one, among_push, among_without, kind_among-with_row, kind_among-rows_at, kind_among-with_row_same, kind_among-rows_without_same, kind_among-rows_without, some-rows_without}

-- where nothing changed
stays : (old new : Tokens) → new ≡ old → GoesForward old new
stays old new e = subst (GoesForward old) (sym e) (record { next = omega arith; fresh = λ t h. inl h; live = λ t b h. inl h })

-- where room was made no number is fresh that wasn't
among_with_room : (fresh : List Token) (t : Token) → is_among (with_room fresh) t ≡ true → is_among fresh t ≡ true
among_with_room fresh t = elim (cases_Bool (eqb (length fresh) 1024)) [
  | inl e ↦ rw e (λ h. among_drop_one fresh t h)
  | inr e ↦ rw e (λ h. h)
]

-- a ticket goes forward
ticket_goes : (old new : Tokens) (r : Result Token TicketError) → TicketStep old r new → GoesForward old new
ticket_goes old new (Ok issue) step = subst (GoesForward old) (sym step.2) (record {
  next = omega arith;
  fresh = λ t h. elim (among_push (with_room old.fresh) (record { 0 = old.next }) t h) [ inl k ↦ inl (among_with_room old.fresh t k) | inr k ↦ inr k ];
  live = λ t b h. inl h;
})
ticket_goes old new (Err TicketError.Exhausted) step = stays old new step.1
ticket_goes old new (Err TicketError.Memory) step = stays old new step.1

-- a lock that is granted goes forward
granted_goes : (old : Tokens) (row : LockRow) → is_fresh old row.token ≡ true → GoesForward old (granted old row)
granted_goes old row h = record {
  next = omega arith;
  fresh = λ t k. inl (among_without row.token old.fresh t k).1;
  live = λ t b k. elim (cases_Bool (eqb t.0 row.token.0)) [
    | inl e ↦ inr (let same : row.token ≡ t = (let n = eqb-true t.0 row.token.0 e in λ i. record { 0 = sym n i }) in subst (λ (u : Token). is_fresh old u ≡ true) same h)
    | inr e ↦ inl (sym (kind_among-with_row row old.live t (eqb-false t.0 row.token.0 e)) ∙ k)
  ];
}

-- a lock goes forward
lock_goes : (old new : Tokens) (t : Token) (exclusive : Bool) (time : ℕ) (host : List ℕ) (r : Result Grant LockError) → LockStep old t exclusive time host r new → GoesForward old new
lock_goes old new t exclusive time host (Ok Grant.New) step =
    subst (GoesForward old) (sym step.1) (granted_goes old (record { token = t; exclusive = exclusive; time = time; host = host }) step.0.1)
lock_goes old new t exclusive time host (Ok Grant.Held) step = stays old new step.1
lock_goes old new t exclusive time host (Err LockError.Dead) step = stays old new step.2
lock_goes old new t exclusive time host (Err LockError.OtherKind) step = stays old new step.1
lock_goes old new t exclusive time host (Err LockError.Busy) step = stays old new step.3
lock_goes old new t exclusive time host (Err LockError.Full) step = stays old new step.4
lock_goes old new t exclusive time host (Err LockError.Memory) step = stays old new step.1

-- a refresh goes forward
refresh_goes : (old new : Tokens) (t : Token) (time : ℕ) (r : Result (Unit {0}) RefreshError) → RefreshStep old t time r new → GoesForward old new
refresh_goes old new t time (Ok done) step = subst (GoesForward old) (sym step.1) (record {
  next = omega arith;
  fresh = λ u h. inl h;
  live = λ u b h. inl (sym (kind_among-rows_at t time old.live u) ∙ h);
})
refresh_goes old new t time (Err RefreshError.Dead) step = stays old new step.1

-- an unlock goes forward
unlock_goes : (old new : Tokens) (t : Token) (found : Bool) → UnlockStep old t found new → GoesForward old new
unlock_goes old new t true step = subst (GoesForward old) (sym step.1) (record {
  next = omega arith;
  fresh = λ u h. inl (among_without t old.fresh u h).1;
  live = λ u b h. inl (some-rows_without t old.live u b h);
})
unlock_goes old new t false step = stays old new step.1

-- an option without a value is None
pub none_from_is_some : {A : Type 0} → (o : Option A) → is_some o ≡ false → o ≡ None
none_from_is_some None h = refl
none_from_is_some (Some x) h = absurd (true≢false h)

-- what was neither fresh nor live isn't live after a step, by cases on how it would be
none_after : (old new : Tokens) (t : Token) → GoesForward old new → is_fresh old t ≡ false → is_live old t ≡ false → (o : Option Bool) → live_as new t ≡ o → is_some o ≡ false
none_after old new t go f l None e = refl
none_after old new t go f l (Some b) e = elim (go.live t b e) [
  | inl k ↦ absurd (true≢false (sym (ap (λ o. is_some o) k) ∙ l))
  | inr k ↦ absurd (true≢false (sym k ∙ f))
]

-- what was neither fresh nor live isn't live after a step
not_live_after : (old new : Tokens) (t : Token) → GoesForward old new → is_fresh old t ≡ false → is_live old t ≡ false → is_live new t ≡ false
not_live_after old new t go f l = none_after old new t go f l (live_as new t) refl

-- without a number that isn't there the numbers are the same
pub without_none : (t : Token) (us : List Token) → is_among us t ≡ false → without t us ≡ us
without_none t [] h = refl
without_none t (u ∷ us) h = elim (cases_Bool (eqb u.0 t.0)) [
  | inl e ↦ absurd (true≢false (rw e at h))
  | inr e ↦ rw e (ap (λ vs. u ∷ vs) (without_none t us (rw e at h)))
]

-- without a token's row that isn't there the rows are the same
pub rows_without_none : (t : Token) (rs : List LockRow) → kind_among rs t ≡ None → rows_without t rs ≡ rs
rows_without_none t [] h = refl
rows_without_none t (r ∷ rs) h =
    let parts = none_parts r rs t h in
    elim (cases_Bool (eqb r.token.0 t.0)) [
      | inl e ↦ absurd (parts.0 (eqb-true r.token.0 t.0 e))
      | inr e ↦ rw e (ap (λ vs. r ∷ vs) (rows_without_none t rs parts.1))
    ]

-- a row that is live as exclusive is exclusive
exclusive_among : (rs : List LockRow) (t : Token) → kind_among rs t ≡ Some true → has_exclusive rs ≡ true
exclusive_among [] t h = absurd (let k : None ≡ Some true = h in cc)
exclusive_among (r ∷ rs) t h = elim (cases_Bool r.exclusive) [
  | inl e ↦ rw e refl
  | inr e ↦ rw e (elim (cases_Bool (eqb r.token.0 t.0)) [
    | inl k ↦ let found : Some r.exclusive ≡ Some true = rw k at h in absurd (true≢false (sym (let x : r.exclusive ≡ true = cc in x) ∙ e))
    | inr k ↦ exclusive_among rs t (rw k at h)
  ])
]

-- in one row there is one token
one_token : (r : LockRow) (t : Token) → kind_among (r ∷ []) t ≢ None → t.0 ≡ r.token.0
one_token r t n = elim (cases_Bool (eqb r.token.0 t.0)) [
  | inl e ↦ sym (eqb-true r.token.0 t.0 e)
  | inr e ↦ absurd (n (rw e refl))
]

-- where one row is all there is, what is live is its token
alone_in : (rs : List LockRow) (t u : Token) → length rs ≡ 1 → kind_among rs t ≡ Some true → kind_among rs u ≢ None → u ≡ t
alone_in [] t u l h n = absurd (omega arith)
alone_in (r ∷ []) t u l h n =
    let a = one_token r t (λ e. let k : None ≡ Some true = sym e ∙ h in cc) in
    let b = one_token r u n in
    let same : u.0 ≡ t.0 = b ∙ sym a in λ i. record { 0 = same i }
alone_in (r ∷ s ∷ rs) t u l h n = absurd (omega arith)

-- each step goes forward
pub goes_forward : NumbersGoForward
goes_forward old new (by_ticket r step) = ticket_goes old new r step
goes_forward old new (by_lock t exclusive time host r fits is_host step) = lock_goes old new t exclusive time host r step
goes_forward old new (by_refresh t time r fits step) = refresh_goes old new t time r step
goes_forward old new (by_unlock t found step) = unlock_goes old new t found step

-- so the dead stay dead
pub dead_stays : DeadStaysDead
dead_stays old new t m dead =
    let go = goes_forward old new m in
    let parts = or_parts (is_fresh old t) (is_live old t) dead.1 in
    let next = go.next in (
      omega arith,
      or_from (is_fresh new t) (is_live new t)
          (elim (cases_Bool (is_fresh new t)) [
            | inl e ↦ elim (go.fresh t e) [ inl k ↦ absurd (true≢false (sym k ∙ parts.0)) | inr k ↦ absurd (omega arith) ]
            | inr e ↦ e
          ])
          (not_live_after old new t go parts.0 parts.1),
    )

-- after a ticket what was live is
ticket_keeps : (old new : Tokens) (r : Result Token TicketError) (u : Token) (b : Bool) → TicketStep old r new → live_as old u ≡ Some b → live_as new u ≡ Some b
ticket_keeps old new (Ok issue) u b step live = rw step.2 live
ticket_keeps old new (Err TicketError.Exhausted) u b step live = rw step.1 live
ticket_keeps old new (Err TicketError.Memory) u b step live = rw step.1 live

-- after a lock is granted what was live is
granted_keeps : (old : Tokens) (row : LockRow) (u : Token) (b : Bool) → live_as old row.token ≡ None → live_as old u ≡ Some b → live_as (granted old row) u ≡ Some b
granted_keeps old row u b none live =
    kind_among-with_row row old.live u (λ n.
    let same : u ≡ row.token = λ i. record { 0 = n i } in
    let k : None ≡ Some b = sym none ∙ ap (λ v. live_as old v) (sym same) ∙ live in cc) ∙ live

-- after a lock what was live is
lock_keeps : (old new : Tokens) (t : Token) (exclusive : Bool) (time : ℕ) (host : List ℕ) (r : Result Grant LockError) (u : Token) (b : Bool)
    → LockStep old t exclusive time host r new → live_as old u ≡ Some b → live_as new u ≡ Some b
lock_keeps old new t exclusive time host (Ok Grant.New) u b step live =
    rw step.1 (granted_keeps old (record { token = t; exclusive = exclusive; time = time; host = host }) u b step.0.0 live)
lock_keeps old new t exclusive time host (Ok Grant.Held) u b step live = rw step.1 live
lock_keeps old new t exclusive time host (Err LockError.Dead) u b step live = rw step.2 live
lock_keeps old new t exclusive time host (Err LockError.OtherKind) u b step live = rw step.1 live
lock_keeps old new t exclusive time host (Err LockError.Busy) u b step live = rw step.3 live
lock_keeps old new t exclusive time host (Err LockError.Full) u b step live = rw step.4 live
lock_keeps old new t exclusive time host (Err LockError.Memory) u b step live = rw step.1 live

-- after a refresh what was live is
refresh_keeps : (old new : Tokens) (t : Token) (time : ℕ) (r : Result (Unit {0}) RefreshError) (u : Token) (b : Bool)
    → RefreshStep old t time r new → live_as old u ≡ Some b → live_as new u ≡ Some b
refresh_keeps old new t time (Ok done) u b step live = rw step.1 (kind_among-rows_at t time old.live u ∙ live)
refresh_keeps old new t time (Err RefreshError.Dead) u b step live = rw step.1 live

-- after another's unlock what was live is
unlocked_keeps : (old : Tokens) (t u : Token) (b : Bool) → (u.0 ≡ t.0 → ⊥) → live_as old u ≡ Some b → live_as (unlocked old t) u ≡ Some b
unlocked_keeps old t u b n live = kind_among-rows_without t old.live u n ∙ live

-- after an unlock what was live is, where it isn't what was unlocked
unlock_keeps : (old new : Tokens) (t : Token) (found : Bool) (u : Token) (b : Bool) → UnlockStep old t found new → live_as old u ≡ Some b
    → (live_as new u ≡ Some b) ⊎ (new ≡ unlocked old u)
unlock_keeps old new t true u b step live = elim (cases_Bool (eqb u.0 t.0)) [
  | inl e ↦ inr (step.1 ∙ ap (λ v. unlocked old v) (let n = eqb-true u.0 t.0 e in let same : t ≡ u = λ i. record { 0 = sym n i } in same))
  | inr e ↦ inl (ap (λ l. live_as l u) step.1 ∙ unlocked_keeps old t u b (eqb-false u.0 t.0 e) live)
]
unlock_keeps old new t false u b step live = inl (ap (λ l. live_as l u) step.1 ∙ live)

-- what is live stays so until its own unlock
pub live_stays : LiveStaysLive
live_stays old new u b (by_ticket r step) live = inl (ticket_keeps old new r u b step live)
live_stays old new u b (by_lock t exclusive time host r fits is_host step) live = inl (lock_keeps old new t exclusive time host r u b step live)
live_stays old new u b (by_refresh t time r fits step) live = inl (refresh_keeps old new t time r u b step live)
live_stays old new u b (by_unlock t found step) live = unlock_keeps old new t found u b step live

-- an unlock of what is neither fresh nor live changes nothing
pub unlocked_same : NothingToUnlock
unlocked_same l t h =
    let parts = or_parts (is_fresh l t) (is_live l t) h in
    let fresh = without_none t l.fresh parts.0 in
    let live = rows_without_none t l.live (none_from_is_some (live_as l t) parts.1) in
    λ i. record { next = l.next; fresh = fresh i; live = live i }

-- what an unlock says of a number that may be fresh or live
pub unlock_told : (l : Tokens) (t : Token) (found : Bool) → found ≡ is_fresh_or_live l t → UnlockStep l t found (unlocked l t)
unlock_told l t true h = (sym h, refl)
unlock_told l t false h = (sym h, unlocked_same l t (sym h))

-- beside a live exclusive number none is live
pub exclusive_alone : ExclusiveIsAlone
exclusive_alone l t u is h n = alone_in l.live t u (is.alone (exclusive_among l.live t h)) h n

-- a number that was put at the end is there
among_itself : (us : List Token) (t : Token) → is_among (us ++ t ∷ []) t ≡ true
among_itself [] t = elim (cases_Bool (eqb t.0 t.0)) [ inl e ↦ rw e refl | inr e ↦ absurd (eqb-false t.0 t.0 e refl) ]
among_itself (u ∷ us) t = elim (cases_Bool (eqb u.0 t.0)) [ inl e ↦ rw e refl | inr e ↦ rw e (among_itself us t) ]

-- an issued number is fresh
pub issued_fresh : IssuedIsFresh
issued_fresh old new t step =
    let issue : Token = record { 0 = old.next } in
    let same : issue ≡ t = (let n = step.1 in λ i. record { 0 = sym n i }) in
    rw step.2 (subst (λ (u : Token). is_among (with_room old.fresh ++ issue ∷ []) u ≡ true) same (among_itself (with_room old.fresh) issue))

-- a locked number is live as it was asked for
pub locked_live : LockedIsLive
locked_live old new t exclusive time host Grant.New step =
    rw step.1 (kind_among-with_row_same (record { token = t; exclusive = exclusive; time = time; host = host }) old.live step.0.0)
locked_live old new t exclusive time host Grant.Held step = rw step.1 step.0

-- an unlocked number is neither fresh nor live
pub unlocked_neither : UnlockedIsNeither
unlocked_neither old new t true step =
    rw step.1 (or_from (is_fresh (unlocked old t) t) (is_live (unlocked old t) t)
    (false_from_ne_true (is_fresh (unlocked old t) t) (λ h. (among_without t old.fresh t h).0 refl))
    (ap (λ o. is_some o) (kind_among-rows_without_same t old.live t refl)))
unlocked_neither old new t false step = rw step.1 step.0
