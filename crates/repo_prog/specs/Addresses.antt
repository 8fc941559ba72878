-- The addresses of servers, as words of the command line.
use Rattle.std.specs.Prelude.{◌≡◌, ◌≢◌, ◌<◌, ◌^◌, ◌++◌, [], ℕ, List, codes}
use Rattle.std.specs.Str.Parse.{IsNumeral, digits_value, without_leading_plus}

-- a port: decimal digits, before which a plus may stand, of a number below 2 ^ 16
abbrev pub IsPort : List ℕ → Type 0
IsPort text = IsNumeral 10 (without_leading_plus text) × (digits_value 10 (without_leading_plus text) < 2 ^ 16)

-- an address, as a socket's call takes it: a host that isn't empty, a colon, and a port
abbrev pub IsAddress : List ℕ → Type 0
IsAddress text = (host port : List ℕ) × (text ≡ host ++ (codes ":" ++ port)) × (host ≢ []) × IsPort port

-- an address that leaves the port to the system, behind this host: the port is 0
abbrev pub LeavesPort : List ℕ → List ℕ → Type 0
LeavesPort text host = (port : List ℕ) × (text ≡ host ++ (codes ":" ++ port)) × IsPort port × (digits_value 10 (without_leading_plus port) ≡ 0)
