-- The time that counts, in nanoseconds, and how long a connection may stand still.
use Rattle.std.specs.Prelude.{◌+◌, ◌-◌, ◌^◌, ◌&&◌, if◌then◌else◌, ℕ, Bool, true, false, Option, Some, None, leb, min, option_map}
use Rattle.repo_store.specs.declared.serving.ServeError.{ServeError}
use Rattle.repo_many.specs.declared.progress.Progress.{Progress}

-- the greatest number of nanoseconds that a time has, some 584 years
abbrev pub most : ℕ
most = 2 ^ 64 - 1

-- the time after so many nanoseconds more, at most the greatest
abbrev pub later : ℕ → ℕ → ℕ
later time passed = min (time + min passed most) most

-- What passed counts, unless it passed in a round in which something moved and which took a tenth of a second or longer.
abbrev pub time_after : ℕ → ℕ → Bool → ℕ
time_after time passed moved = if moved && leb 100000000 passed then time else later time passed

-- a connection that moved last at this time was idle for too long
abbrev pub is_idle : Option ℕ → ℕ → ℕ → Bool
is_idle None time since = false
is_idle (Some limit) time since = leb limit (time - since)

-- what becomes of a connection that stands still: it fails if it was idle for too long, in writing if it is to be given something
abbrev pub endured : Bool → Bool → Progress
endured false gives = Progress.Still
endured true false = Progress.Failed ServeError.Read
endured true true = Progress.Failed ServeError.Write

-- how long it may stand still yet
abbrev pub time_left : Option ℕ → ℕ → ℕ → Option ℕ
time_left limit time since = option_map (λ l. l - (time - since)) limit

-- the shorter of two waits, of which `None` is for ever
abbrev pub shorter : Option ℕ → Option ℕ → Option ℕ
shorter (Some one) (Some other) = Some (min one other)
shorter (Some one) None = Some one
shorter None other = other

-- How long a wait may be, after which the connection that moved at the earliest time is idle for too long; a second at most while some wait for room.
abbrev pub wait_for : Option ℕ → ℕ → Option ℕ → Bool → Option ℕ
wait_for limit time None wanted = shorter (if wanted then Some 1000000000 else None) None
wait_for limit time (Some earliest) wanted = shorter (if wanted then Some 1000000000 else None) (time_left limit time earliest)
