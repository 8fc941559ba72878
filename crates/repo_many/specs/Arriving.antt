-- Connections that come, and when the next one is looked for.
use Rattle.std.specs.Prelude.{◌+◌, ◌-◌, ◌^◌, ℕ, Option, Bool, true, false, Some, None, is_none, leb, min}
use Rattle.repo_many.specs.declared.doors.Door.{Door}
use Rattle.repo_many.specs.declared.doors.Look.{Look}

-- one connection more was taken
abbrev pub one_more : Door → Door
one_more d = record { taken = min (d.taken + 1) (2 ^ 64 - 1); ready = d.ready; again = None; told = d.told }

-- the door after a look: one that couldn't be taken isn't counted, and is tried again after a tenth of a second
abbrev pub noted : Door → Look → ℕ → Door
noted d Look.Nobody time = record { taken = d.taken; ready = false; again = None; told = d.told }
noted d Look.Came time = one_more d
noted d Look.Lost time = one_more d
noted d Look.Refused time = record { taken = d.taken; ready = d.ready; again = Some (min (time + 100000000) (2 ^ 64 - 1)); told = d.told }

-- a look that is reported: one was taken that can't be served, or one couldn't be taken, the first time since one was
abbrev pub is_reported : Door → Look → Bool
is_reported d Look.Nobody = false
is_reported d Look.Came = false
is_reported d Look.Lost = true
is_reported d Look.Refused = is_none d.again

-- whether it is time to look: one may wait, and if one couldn't be taken, the pause behind that is over
abbrev pub is_time_by : Bool → Option ℕ → ℕ → Bool
is_time_by ready None time = ready
is_time_by ready (Some again) time = leb again time

abbrev pub is_time : Door → ℕ → Bool
is_time d time = is_time_by d.ready d.again time
