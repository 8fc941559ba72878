use Rattle.std.specs.Prelude.{◌≡◌, ◌≢◌, ◌+◌, ◌-◌, ◌≤◌, ◌<◌, ◌^◌, ◌++◌, ◌∷◌, ◌==◌, ◌||◌, [], ℕ, Bool, true, false, not, nat_lt, List, length, map, filter, drop, max, Option, Some, None, is_some, unwrap_or, if◌then◌else◌, Result, Ok, Err}
use Rattle.repo_name.specs.declared.rows.LockRow.{LockRow}
use Rattle.repo_name.specs.declared.tokens.Token.{Token}
use Rattle.repo_locks.specs.declared.outcomes.Grant.{Grant}
use Rattle.repo_locks.specs.declared.outcomes.TicketError.{TicketError}
use Rattle.repo_locks.specs.declared.outcomes.LockError.{LockError}
use Rattle.repo_locks.specs.declared.outcomes.RefreshError.{RefreshError}

-- a store's numbers: the next one, the fresh ones ascending, and the rows of the live ones ascending by token
pub record Tokens : Type 0 where
  pub next : ℕ
  pub fresh : List Token
  pub live : List LockRow

-- before any ticket
abbrev pub start : Tokens
start = record { next = 1; fresh = []; live = [] }

-- how many numbers may be fresh at once
abbrev pub fresh_limit : ℕ
fresh_limit = 1024

-- how many numbers may be live at once
abbrev pub live_limit : ℕ
live_limit = 256

-- the number that is never issued
abbrev pub last_number : ℕ
last_number = 2 ^ 64 - 1

-- a number stands in a list
abbrev pub is_among : List Token → Token → Bool
is_among [] t = false
is_among (u ∷ us) t = if u.0 == t.0 then true else is_among us t

-- how a number is live in some rows: None where it isn't, else whether its row is exclusive
abbrev pub kind_among : List LockRow → Token → Option Bool
kind_among [] t = None
kind_among (r ∷ rs) t = if r.token.0 == t.0 then Some r.exclusive else kind_among rs t

-- one of the rows is exclusive
abbrev pub has_exclusive : List LockRow → Bool
has_exclusive [] = false
has_exclusive (r ∷ rs) = if r.exclusive then true else has_exclusive rs

-- the tokens of some rows
abbrev pub tokens_of : List LockRow → List Token
tokens_of rs = map (λ r. r.token) rs

-- a number is fresh
abbrev pub is_fresh : Tokens → Token → Bool
is_fresh l t = is_among l.fresh t

-- how a number is live: None where it isn't, else whether it is exclusive
abbrev pub live_as : Tokens → Token → Option Bool
live_as l t = kind_among l.live t

-- a number is live
abbrev pub is_live : Tokens → Token → Bool
is_live l t = is_some (live_as l t)

-- a number is live and exclusive
abbrev pub is_exclusive : Tokens → Token → Bool
is_exclusive l t = unwrap_or (live_as l t) false

-- a number is fresh or live
abbrev pub is_fresh_or_live : Tokens → Token → Bool
is_fresh_or_live l t = is_fresh l t || is_live l t

-- a number was issued, and is neither fresh nor live
abbrev pub IsDead : Tokens → Token → Type 0
IsDead l t = (t.0 < l.next) × (is_fresh_or_live l t ≡ false)

-- something is live and this is to be exclusive, or an exclusive one is live
abbrev pub is_busy : Tokens → Bool → Bool
is_busy l true = nat_lt 0 (length l.live)
is_busy l false = has_exclusive l.live

-- numbers but one
abbrev pub without : Token → List Token → List Token
without t us = filter (λ u. not (u.0 == t.0)) us

-- rows but a token's
abbrev pub rows_without : Token → List LockRow → List LockRow
rows_without t rs = filter (λ r. not (r.token.0 == t.0)) rs

-- a row in its place among rows that ascend by token
abbrev pub with_row : LockRow → List LockRow → List LockRow
with_row row [] = row ∷ []
with_row row (r ∷ rs) = if nat_lt row.token.0 r.token.0 then row ∷ r ∷ rs else r ∷ with_row row rs

-- a row whose time, if it is the token's, is the greater of its own and this one
abbrev pub brought_up : Token → ℕ → LockRow → LockRow
brought_up t time r = record r { time = if r.token.0 == t.0 then max r.time time else r.time }

-- rows in which a token's time is the greater of its own and this one
abbrev pub rows_at : Token → ℕ → List LockRow → List LockRow
rows_at t time rs = map (brought_up t time) rs

-- where as many are fresh as may be, the least goes
abbrev pub with_room : List Token → List Token
with_room fresh = if length fresh == fresh_limit then drop 1 fresh else fresh

-- the next number is issued, and is fresh
abbrev pub issued : Tokens → Tokens
issued l = record { next = l.next + 1; fresh = with_room l.fresh ++ (record { 0 = l.next }) ∷ []; live = l.live }

-- a fresh number becomes live
abbrev pub granted : Tokens → LockRow → Tokens
granted l row = record { next = l.next; fresh = without row.token l.fresh; live = with_row row l.live }

-- a live number's time is the greater of the two
abbrev pub refreshed : Tokens → Token → ℕ → Tokens
refreshed l t time = record { next = l.next; fresh = l.fresh; live = rows_at t time l.live }

-- a number is neither fresh nor live any more
abbrev pub unlocked : Tokens → Token → Tokens
unlocked l t = record { next = l.next; fresh = without t l.fresh; live = rows_without t l.live }

-- a ticket: the number that was next, or why there is none
abbrev pub TicketStep : Tokens → Result Token TicketError → Tokens → Type 0
TicketStep old (Ok t) new = (old.next < last_number) × (t.0 ≡ old.next) × (new ≡ issued old)
TicketStep old (Err TicketError.Exhausted) new = (old.next ≡ last_number) × (new ≡ old)
TicketStep old (Err TicketError.Memory) new = (old.next < last_number) × (new ≡ old)

-- a number may become live: it is fresh, nothing live stands against it, and there is room
abbrev pub MayBeGranted : Tokens → Token → Bool → Type 0
MayBeGranted l t exclusive = (live_as l t ≡ None) × (is_fresh l t ≡ true) × (is_busy l exclusive ≡ false) × (length l.live < live_limit)

-- a lock: granted now, live before as it is asked for, or why it is refused
abbrev pub LockStep : Tokens → Token → Bool → ℕ → List ℕ → Result Grant LockError → Tokens → Type 0
LockStep old t exclusive time host (Ok Grant.New) new = MayBeGranted old t exclusive × (new ≡ granted old (record { token = t; exclusive = exclusive; time = time; host = host }))
LockStep old t exclusive time host (Ok Grant.Held) new = (live_as old t ≡ Some exclusive) × (new ≡ old)
LockStep old t exclusive time host (Err LockError.Dead) new = (live_as old t ≡ None) × (is_fresh old t ≡ false) × (new ≡ old)
LockStep old t exclusive time host (Err LockError.OtherKind) new = (live_as old t ≡ Some (not exclusive)) × (new ≡ old)
LockStep old t exclusive time host (Err LockError.Busy) new = (live_as old t ≡ None) × (is_fresh old t ≡ true) × (is_busy old exclusive ≡ true) × (new ≡ old)
LockStep old t exclusive time host (Err LockError.Full) new =
    (live_as old t ≡ None) × (is_fresh old t ≡ true) × (is_busy old exclusive ≡ false) × (live_limit ≤ length old.live) × (new ≡ old)
LockStep old t exclusive time host (Err LockError.Memory) new = MayBeGranted old t exclusive × (new ≡ old)

-- a refresh: the token is live and its time is brought up, or it isn't live
abbrev pub RefreshStep : Tokens → Token → ℕ → Result (Unit {0}) RefreshError → Tokens → Type 0
RefreshStep old t time (Ok done) new = (live_as old t ≢ None) × (new ≡ refreshed old t time)
RefreshStep old t time (Err RefreshError.Dead) new = (live_as old t ≡ None) × (new ≡ old)

-- an unlock: true where the number was fresh or live
abbrev pub UnlockStep : Tokens → Token → Bool → Tokens → Type 0
UnlockStep old t true new = (is_fresh_or_live old t ≡ true) × (new ≡ unlocked old t)
UnlockStep old t false new = (is_fresh_or_live old t ≡ false) × (new ≡ old)
