use Rattle.std.proofs.Common.{◌≡◌, drop}
use Rattle.repo_sha.specs.inner.Batches.{IsUnderWay}
use Rattle.repo_sha.specs.Pieces.{pieces}
use Rattle.repo_sha.proofs.batches.begin_all.Given as goal

abbrev pub invariant-pieces : goal.invariant-pieces
invariant-pieces l = record {
  under_way : IsUnderWay (pieces l.bytes l.lengths) l.number l.lanes l.digests;
  rest : pieces l.rest (drop l.number l.lengths) ≡ drop l.number (pieces l.bytes l.lengths);
}
