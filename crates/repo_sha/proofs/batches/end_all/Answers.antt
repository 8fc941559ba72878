use Rattle.std.proofs.Common.{◌≡◌, None, length, ◌∙◌, arith, inl, inr}
use Rattle.std.proofs.lemmas.Bool.{cases_eq}
use Rattle.std.proofs.lemmas.List.{get_or-set_other}
use Rattle.repo_sha.specs.inner.Batches.{at, with_digest}
use Rattle.repo_sha.proofs.UnderWay.{among_emptied, at_emptied, length-with_digest, way_ended, way_last}
use Rattle.repo_sha.proofs.batches.end_all.Goals as goal

pub lanes-preserved : goal.lanes-preserved
lanes-preserved c =
    let lanes = c.lanes.lanes in
    let lane = c.lanes.lane in
    let invariant = c.lanes.invariant in
    let same : length (with_digest (at lanes lane) c.lanes.digests) ≡ length c.lanes.digests = length-with_digest (at lanes lane) c.lanes.digests in
    record {
      among = rw (c.release.ensures.lanes, c.release.ensures.digests, same) (among_emptied (length c.lanes.digests) lanes lane invariant.among);
      empty = λ j lt. rw c.release.ensures.lanes (elim (cases_eq j lane) [
        | inl e ↦ rw e (at_emptied lanes lane)
        | inr ne ↦ get_or-set_other lanes lane j None None ne ∙ invariant.empty j (omega (arith, ne))
      ]);
      under_way = λ texts way. rw (c.release.ensures.lanes, c.release.ensures.digests)
          (way_ended texts (length texts) lanes lane c.lanes.digests (omega arith) (invariant.under_way texts way));
    }

pub returns : goal.returns
returns c texts way =
    way_last texts c.lanes.lanes c.lanes.digests (λ j lt. c.lanes.invariant.empty j (omega arith)) (c.lanes.invariant.under_way texts way)
