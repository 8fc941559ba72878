use Rattle.std.proofs.Common.{◌≡◌, length}
use Rattle.repo_files.proofs.rooms.packs_in.Given as goal

abbrev pub invariant-loop-first : goal.invariant-loop-first
invariant-loop-first l = length l.paths.items ≡ l.first
