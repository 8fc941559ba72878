use Rattle.std.specs.Prelude.{◌≡◌, ◌≢◌, ◌≤◌, ◌<◌, ◌^◌, ◌⊎◌, ℕ, Bool, true, false, List, None, Some, Result, Ok}
use Rattle.repo_name.specs.Rows.{IsHost}
use Rattle.repo_name.specs.declared.tokens.Token.{Token}
use Rattle.repo_locks.specs.declared.outcomes.Grant.{Grant}
use Rattle.repo_locks.specs.declared.outcomes.TicketError.{TicketError}
use Rattle.repo_locks.specs.declared.outcomes.LockError.{LockError}
use Rattle.repo_locks.specs.declared.outcomes.RefreshError.{RefreshError}
use Rattle.repo_locks.specs.TokenMachine.{Tokens, start, IsDead, is_fresh, live_as, is_fresh_or_live, unlocked, TicketStep, LockStep, RefreshStep, UnlockStep}
use Rattle.repo_locks.specs.Lawful.{IsLedger}

-- one step of the machine, whatever it was asked and gave
pub data Moves (old new : Tokens) : Type 0 where
  by_ticket : (r : Result Token TicketError) → TicketStep old r new → Moves old new
  by_lock : (t : Token) (exclusive : Bool) (time : ℕ) (host : List ℕ) (r : Result Grant LockError) → time < 2 ^ 64 → IsHost host
      → LockStep old t exclusive time host r new → Moves old new
  by_refresh : (t : Token) (time : ℕ) (r : Result (Unit {0}) RefreshError) → time < 2 ^ 64 → RefreshStep old t time r new → Moves old new
  by_unlock : (t : Token) (found : Bool) → UnlockStep old t found new → Moves old new

-- the start is lawful
abbrev pub StartIsLawful : Type 0
StartIsLawful = IsLedger start

-- a step of a lawful ledger leaves a lawful one
abbrev pub StepsStayLawful : Type 0
StepsStayLawful = (old new : Tokens) → Moves old new → IsLedger old → IsLedger new

-- an issued number is fresh
abbrev pub IssuedIsFresh : Type 0
IssuedIsFresh = (old new : Tokens) (t : Token) → TicketStep old (Ok t) new → is_fresh new t ≡ true

-- a number that is locked is live as it was asked for
abbrev pub LockedIsLive : Type 0
LockedIsLive = (old new : Tokens) (t : Token) (exclusive : Bool) (time : ℕ) (host : List ℕ) (grant : Grant)
    → LockStep old t exclusive time host (Ok grant) new → live_as new t ≡ Some exclusive

-- a number that is unlocked is neither fresh nor live
abbrev pub UnlockedIsNeither : Type 0
UnlockedIsNeither = (old new : Tokens) (t : Token) (found : Bool) → UnlockStep old t found new → is_fresh_or_live new t ≡ false

-- what is fresh was fresh before or next, and what is live was live before in the same way, or fresh
pub record GoesForward (old new : Tokens) : Type 0 where
  pub next : old.next ≤ new.next
  pub fresh : (t : Token) → is_fresh new t ≡ true → (is_fresh old t ≡ true) ⊎ (t.0 ≡ old.next)
  pub live : (t : Token) (exclusive : Bool) → live_as new t ≡ Some exclusive → (live_as old t ≡ Some exclusive) ⊎ (is_fresh old t ≡ true)

-- a number goes from not issued to fresh, from there to live, and never back
abbrev pub NumbersGoForward : Type 0
NumbersGoForward = (old new : Tokens) → Moves old new → GoesForward old new

-- a dead number stays dead
abbrev pub DeadStaysDead : Type 0
DeadStaysDead = (old new : Tokens) (t : Token) → Moves old new → IsDead old t → IsDead new t

-- a live number stays live in its way, until its own unlock
abbrev pub LiveStaysLive : Type 0
LiveStaysLive = (old new : Tokens) (t : Token) (exclusive : Bool) → Moves old new → live_as old t ≡ Some exclusive
    → (live_as new t ≡ Some exclusive) ⊎ (new ≡ unlocked old t)

-- an unlock of a number that is neither fresh nor live would change nothing
abbrev pub NothingToUnlock : Type 0
NothingToUnlock = (l : Tokens) (t : Token) → is_fresh_or_live l t ≡ false → unlocked l t ≡ l

-- beside a live exclusive number none is live
abbrev pub ExclusiveIsAlone : Type 0
ExclusiveIsAlone = (l : Tokens) (t u : Token) → IsLedger l → live_as l t ≡ Some true → live_as l u ≢ None → u ≡ t
