-- The place of as many components as were added.
use Rattle.std.proofs.Common.{◌≡◌, take, string_bytes}
use Rattle.repo_files.specs.inner.Places.{place_of}
use Rattle.repo_files.proofs.places.place_below.Given as goal

abbrev pub invariant-loop-name : goal.invariant-loop-name
invariant-loop-name l = string_bytes l.place ≡ place_of l.folder (take l.name-index l.path)
