use Rattle.std.proofs.Common.{◌≡◌, ℕ, ◌<◌, [], length, slice_index_or}
use Rattle.repo_sha.specs.inner.Lanes.{lane}
use Rattle.repo_sha.proofs.lane_rounds.one_by_one.Given as goal

abbrev pub invariant-lanes : goal.invariant-lanes
invariant-lanes l = (length l.apart ≡ 8) × ((i : ℕ) → i < l.j → slice_index_or l.apart i [] ≡ lane i l.fn.hashes)
