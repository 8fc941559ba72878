use Rattle.std.proofs.Common.{◌≡◌, ◌+◌, drop}
use Rattle.repo_many.specs.Rooms.{index_of}
use Rattle.repo_many.proofs.large_frames.index_of.Given as goal

abbrev pub invariant-loop-index : goal.invariant-loop-index
invariant-loop-index l = index_of l.frames l.place ≡ l.index + index_of (drop l.index l.frames) l.place
