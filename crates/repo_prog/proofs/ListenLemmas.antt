-- What a server writes once it listens.
use Rattle.std.proofs.Common.{◌≡◌, ◌++◌, ℕ, List, Option, Result, Ok, Err, IfOk, inr}
use Rattle.repo_prog.specs.Addresses.{LeavesPort}
use Rattle.repo_prog.specs.Commands.{Listens, ListensAtMost, ListensBy, address_line, listening_line}

-- the lines of an address that leaves its port to the system
pub left_listens : {S E : Type 0} (bytes_of : S → List ℕ) (address host : List ℕ) (port : ℕ) (r : Result S E) → LeavesPort address host
    → IfOk r (λ s. bytes_of s ≡ listening_line ++ address_line host port) → IfOk r (λ s. ListensBy address (bytes_of s))
left_listens bytes_of address host port (Ok s) leaves e = inr (host, port, leaves, e)
left_listens bytes_of address host port (Err error) leaves e = tt

-- all of it was written
pub whole_listens : (address : List ℕ) (start contents : Option (List ℕ)) → Listens address start contents → ListensAtMost address start contents
whole_listens address start contents told = inr (told.0, told.1, inr told.2)
