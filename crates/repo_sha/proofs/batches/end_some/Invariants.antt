use Rattle.std.proofs.Common.{ℕ, List, length}
use Rattle.repo_sha.specs.inner.Batches.{AreAmong, IsUnderWay}
use Rattle.repo_sha.proofs.batches.end_some.Given as goal

abbrev pub invariant-turns : goal.invariant-turns
invariant-turns l = record {
  among : AreAmong (length l.digests) l.lanes;
  under_way : (texts : List (List ℕ)) → IsUnderWay texts (length texts) l.fn.lanes l.fn.digests
      → IsUnderWay texts (length texts) l.lanes l.digests;
}
