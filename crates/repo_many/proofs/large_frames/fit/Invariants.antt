use Rattle.std.proofs.Common.{◌≡◌, ◌+◌, drop}
use Rattle.repo_many.specs.Rooms.{room_of}
use Rattle.repo_many.proofs.large_frames.fit.Given as goal

abbrev pub invariant-loop-frame : goal.invariant-loop-frame
invariant-loop-frame l = l.limit + room_of (drop l.frame-index l.frames) ≡ l.left + room_of l.frames
