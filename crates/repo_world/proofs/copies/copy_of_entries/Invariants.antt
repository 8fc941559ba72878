-- Equal ones of the first entries, so many, were made.
use Rattle.std.proofs.Common.{◌≡◌, take}
use Rattle.repo_world.proofs.copies.copy_of_entries.Given as goal

abbrev pub invariant-loop-entry : goal.invariant-loop-entry
invariant-loop-entry l = l.copies.items ≡ take l.entry-index l.entries
