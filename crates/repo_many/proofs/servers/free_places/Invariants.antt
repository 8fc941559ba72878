use Rattle.std.proofs.Common.{◌≢◌, ℕ, Some, slice_get}
use Rattle.repo_many.specs.declared.places.Place.{Place}
use Rattle.repo_many.specs.declared.sockets.Socket.{Socket}
use Rattle.repo_many.proofs.servers.free_places.Given as goal

abbrev pub invariant-loop-place : goal.invariant-loop-place
invariant-loop-place g l = (j : ℕ) (s : Socket _) → slice_get l.places.items j ≢ Some (Place.Taken s)
