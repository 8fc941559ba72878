use Rattle.std.proofs.Common.{◌≡◌, ℕ, ◌<◌, List, None, length}
use Rattle.repo_sha.specs.inner.Batches.{AreAmong, IsUnderWay, at}
use Rattle.repo_sha.proofs.batches.end_all.Given as goal

abbrev pub invariant-lanes : goal.invariant-lanes
invariant-lanes l = record {
  among : AreAmong (length l.digests) l.lanes;
  empty : (j : ℕ) → j < l.lane → at l.lanes j ≡ None;
  under_way : (texts : List (List ℕ)) → IsUnderWay texts (length texts) l.fn.lanes l.fn.digests
      → IsUnderWay texts (length texts) l.lanes l.digests;
}
