use Rattle.std.proofs.Common.{◌≡◌, length}
use Rattle.repo_sha.specs.inner.Batches.{at, with_digest}
use Rattle.repo_sha.proofs.UnderWay.{among_emptied, among_gone_on, length-with_digest, way_ended, way_gone_on}
use Rattle.repo_sha.proofs.batches.end_some.Goals as goal

pub turns-preserved : goal.turns-preserved
turns-preserved c =
    let lanes = c.go_on-lane.new.lanes in
    let lane = c.go_on-lane.result in
    let digests = c.turns.digests in
    let goes = c.go_on-lane.ensures in
    let same : length (with_digest (at lanes lane) digests) ≡ length digests = length-with_digest (at lanes lane) digests in
    record {
      among = rw (c.release.ensures.lanes, c.release.ensures.digests, same)
          (among_emptied (length digests) lanes lane (among_gone_on (length digests) goes.same.0 c.turns.lanes lanes goes.same.1 c.turns.invariant.among));
      under_way = λ texts way. rw (c.release.ensures.lanes, c.release.ensures.digests)
          (way_ended texts (length texts) lanes lane digests goes.lane
          (way_gone_on texts (length texts) goes.same.0 c.turns.lanes lanes digests goes.same.1 (c.turns.invariant.under_way texts way)));
    }
