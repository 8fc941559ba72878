use Rattle.std.proofs.Common.{◌≡◌, ℕ, ◌+◌, ◌<◌, ◌≤◌, ◌^◌, Bool, true, false, List, [], ◌∷◌, length, not, ltb, eqb, Result, Ok, Err, inl, inr, refl, sym, ◌∙◌, subst, arith, lit≤, lit<}
use Rattle.std.proofs.lemmas.Bool.{cases_Bool, eqb-true, eqb-false, ltb-false, false≢true}
use Rattle.std.proofs.lemmas.List.Elements.{All-nil}
use Rattle.std.proofs.Math.ListN.{length-append}
use Rattle.repo_name.specs.Rows.{IsHost, IsRow}
use Rattle.repo_name.specs.declared.rows.LockRow.{LockRow}
use Rattle.repo_name.specs.declared.tokens.Token.{Token}
use Rattle.repo_locks.specs.TokenMachine.{Tokens, last_number, is_among, has_exclusive, is_busy, tokens_of, with_room, with_row, rows_without, issued, granted, refreshed, unlocked, MayBeGranted, TicketStep, LockStep, RefreshStep, UnlockStep}
use Rattle.repo_locks.specs.declared.outcomes.TicketError.{TicketError}
use Rattle.repo_locks.specs.Lawful.{Ascends, IsLedger}
use Rattle.repo_locks.specs.declared.outcomes.Grant.{Grant}
use Rattle.repo_locks.specs.declared.outcomes.LockError.{LockError}
use Rattle.repo_locks.specs.declared.outcomes.RefreshError.{RefreshError}
use Rattle.repo_locks.specs.Laws.{by_ticket, by_lock, by_refresh, by_unlock, StartIsLawful, StepsStayLawful}
use Rattle.repo_locks.proofs.Ascending.{Ascends-weaker, Ascends-filter, Ascends-drop_one, Ascends-push, Ascends-with_row, among_within, kind_beyond, tokens_of-rows_without, tokens_of-rows_at}
use Rattle.repo_locks.proofs.Changed.{length-drop_one, length-filter_le, All-filter, among_drop_one, among_push, among_without, length-with_row, kind_among-with_row, All-with_row, has_exclusive-with_row, none-rows_without, has_exclusive-rows_without, exclusive_is_one, length-rows_at, kind_among-rows_at, has_exclusive-rows_at, All-rows_at}

-- with room made, the numbers ascend as before, are fewer than may be, and none is new
with_room_facts : (high : ℕ) (fresh : List Token) → Ascends 0 high fresh → length fresh ≤ 1024
    → Ascends 0 high (with_room fresh) × (length (with_room fresh) < 1024) × ((t : Token) → is_among (with_room fresh) t ≡ true → is_among fresh t ≡ true)
with_room_facts high fresh a l = elim (cases_Bool (eqb (length fresh) 1024)) [
  | inl e ↦ let full = eqb-true (length fresh) 1024 e in let shorter = length-drop_one fresh (omega arith) in rw e (Ascends-drop_one 0 high fresh a, omega arith, λ t h. among_drop_one fresh t h)
  | inr e ↦ let apart = eqb-false (length fresh) 1024 e in rw e (a, omega arith, λ t h. h)
]

-- a ticket keeps the law
pub issued_lawful : (l : Tokens) → IsLedger l → l.next < last_number → IsLedger (issued l)
issued_lawful l is below =
    let room = with_room_facts l.next l.fresh is.fresh is.few_fresh in
    let t : Token = record { 0 = l.next } in
    record {
      first = omega arith;
      last = omega arith;
      fresh = Ascends-push 0 l.next (with_room l.fresh) t is.first (omega arith) room.0;
      few_fresh = let few = room.1 in omega (arith, length-append (with_room l.fresh) (t ∷ []));
      live = Ascends-weaker 0 0 l.next (l.next + 1) _ (omega arith) (omega arith) is.live;
      few_live = is.few_live;
      apart = λ u h. elim (among_push (with_room l.fresh) t u h) [
        | inl k ↦ is.apart u (room.2 u k)
        | inr k ↦ kind_beyond 0 l.next l.live u is.live (omega arith)
      ];
      alone = is.alone;
      rows = is.rows;
    }

-- where nothing stands against a lock, it is alone or no lock is exclusive
granted_alone : (lock : LockRow) (l : Tokens) → is_busy l lock.exclusive ≡ false → has_exclusive (with_row lock l.live) ≡ true → length (with_row lock l.live) ≡ 1
granted_alone lock l free h = elim (cases_Bool lock.exclusive) [
  | inl e ↦ let none : ltb 0 (length l.live) ≡ false = rw e at free in
      let empty = ltb-false 0 (length l.live) none in
      let one = length-with_row lock l.live in omega arith
  | inr e ↦ let none : has_exclusive l.live ≡ false = rw e at free in
      absurd (false≢true (sym (has_exclusive-with_row lock l.live e none) ∙ h))
]

-- a lock that is granted keeps the law
pub granted_lawful : (l : Tokens) (lock : LockRow) → IsLedger l → MayBeGranted l lock.token lock.exclusive → IsRow lock → IsLedger (granted l lock)
granted_lawful l lock is may is_row =
    let within = among_within 0 l.next l.fresh lock.token is.fresh may.1 in
    record {
      first = is.first;
      last = is.last;
      fresh = Ascends-filter (λ u. not (eqb u.0 lock.token.0)) 0 l.next l.fresh is.fresh;
      few_fresh = let le = length-filter_le (λ (u : Token). not (eqb u.0 lock.token.0)) l.fresh in let few = is.few_fresh in omega arith;
      live = Ascends-with_row lock 0 l.next l.live within.0 within.1 may.0 is.live;
      few_live = let one = length-with_row lock l.live in let room = may.3 in omega arith;
      apart = λ u h. let before = among_without lock.token l.fresh u h in
          kind_among-with_row lock l.live u before.0 ∙ is.apart u before.1;
      alone = granted_alone lock l may.2;
      rows = All-with_row IsRow lock l.live is_row is.rows;
    }

-- an unlock keeps the law
pub unlocked_lawful : (l : Tokens) (t : Token) → IsLedger l → IsLedger (unlocked l t)
unlocked_lawful l t is = record {
  first = is.first;
  last = is.last;
  fresh = Ascends-filter (λ u. not (eqb u.0 t.0)) 0 l.next l.fresh is.fresh;
  few_fresh = let le = length-filter_le (λ (u : Token). not (eqb u.0 t.0)) l.fresh in let few = is.few_fresh in omega arith;
  live = rw tokens_of-rows_without (Ascends-filter (λ u. not (eqb u.0 t.0)) 0 l.next (tokens_of l.live) is.live);
  few_live = let le = length-filter_le (λ (r : LockRow). not (eqb r.token.0 t.0)) l.live in let few = is.few_live in omega arith;
  apart = λ u h. none-rows_without t l.live u (is.apart u (among_without t l.fresh u h).1);
  alone = λ h.
      let one = is.alone (has_exclusive-rows_without t l.live h) in
      let some = exclusive_is_one (rows_without t l.live) h in
      let le = length-filter_le (λ (r : LockRow). not (eqb r.token.0 t.0)) l.live in omega arith;
  rows = All-filter IsRow (λ r. not (eqb r.token.0 t.0)) l.live is.rows;
}

-- a refresh keeps the law
pub refreshed_lawful : (l : Tokens) (t : Token) (time : ℕ) → time < 2 ^ 64 → IsLedger l → IsLedger (refreshed l t time)
refreshed_lawful l t time fits is = record {
  first = is.first;
  last = is.last;
  fresh = is.fresh;
  few_fresh = is.few_fresh;
  live = rw tokens_of-rows_at is.live;
  few_live = rw length-rows_at is.few_live;
  apart = λ u h. kind_among-rows_at t time l.live u ∙ is.apart u h;
  alone = λ h. length-rows_at t time l.live ∙ is.alone (sym (has_exclusive-rows_at t time l.live) ∙ h);
  rows = All-rows_at t time l.live fits is.rows;
}

-- the start keeps the law
pub start_lawful : StartIsLawful
start_lawful = record {
  first = lit≤ tt;
  last = lit< tt;
  fresh = tt;
  few_fresh = lit≤ tt;
  live = tt;
  few_live = lit≤ tt;
  apart = λ t h. refl;
  alone = λ h. absurd (false≢true h);
  rows = All-nil IsRow;
}

-- so does each outcome of a ticket
tickets_lawful : (old new : Tokens) (r : Result Token TicketError) → TicketStep old r new → IsLedger old → IsLedger new
tickets_lawful old new (Ok t) step is = subst IsLedger (sym step.2) (issued_lawful old is step.0)
tickets_lawful old new (Err TicketError.Exhausted) step is = subst IsLedger (sym step.1) is
tickets_lawful old new (Err TicketError.Memory) step is = subst IsLedger (sym step.1) is

-- so does each outcome of a lock
locks_lawful : (old new : Tokens) (t : Token) (exclusive : Bool) (time : ℕ) (host : List ℕ) (r : Result Grant LockError) → time < 2 ^ 64 → IsHost host
    → LockStep old t exclusive time host r new → IsLedger old → IsLedger new
locks_lawful old new t exclusive time host (Ok Grant.New) fits is_host step is =
    let lock : LockRow = record { token = t; exclusive = exclusive; time = time; host = host } in
    let below = (among_within 0 old.next old.fresh t is.fresh step.0.1).1 in
    let last = is.last in
    subst IsLedger (sym step.1) (granted_lawful old lock is step.0 (record { token = omega arith; time = fits; host = is_host }))
locks_lawful old new t exclusive time host (Ok Grant.Held) fits is_host step is = subst IsLedger (sym step.1) is
locks_lawful old new t exclusive time host (Err LockError.Dead) fits is_host step is = subst IsLedger (sym step.2) is
locks_lawful old new t exclusive time host (Err LockError.OtherKind) fits is_host step is = subst IsLedger (sym step.1) is
locks_lawful old new t exclusive time host (Err LockError.Busy) fits is_host step is = subst IsLedger (sym step.3) is
locks_lawful old new t exclusive time host (Err LockError.Full) fits is_host step is = subst IsLedger (sym step.4) is
locks_lawful old new t exclusive time host (Err LockError.Memory) fits is_host step is = subst IsLedger (sym step.1) is

-- so does each outcome of a refresh
refreshes_lawful : (old new : Tokens) (t : Token) (time : ℕ) (r : Result (Unit {0}) RefreshError) → time < 2 ^ 64 → RefreshStep old t time r new → IsLedger old → IsLedger new
refreshes_lawful old new t time (Ok done) fits step is = subst IsLedger (sym step.1) (refreshed_lawful old t time fits is)
refreshes_lawful old new t time (Err RefreshError.Dead) fits step is = subst IsLedger (sym step.1) is

-- so does each outcome of an unlock
unlocks_lawful : (old new : Tokens) (t : Token) (found : Bool) → UnlockStep old t found new → IsLedger old → IsLedger new
unlocks_lawful old new t true step is = subst IsLedger (sym step.1) (unlocked_lawful old t is)
unlocks_lawful old new t false step is = subst IsLedger (sym step.1) is

-- so does each step
pub steps_lawful : StepsStayLawful
steps_lawful old new (by_ticket r step) is = tickets_lawful old new r step is
steps_lawful old new (by_lock t exclusive time host r fits is_host step) is = locks_lawful old new t exclusive time host r fits is_host step is
steps_lawful old new (by_refresh t time r fits step) is = refreshes_lawful old new t time r fits step is
steps_lawful old new (by_unlock t found step) is = unlocks_lawful old new t found step is
