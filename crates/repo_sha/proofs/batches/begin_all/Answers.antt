use Rattle.std.proofs.Common.{◌≡◌, ◌<◌, ◌∙◌, min, length, slice_index, refl, sym, arith}
use Rattle.repo_sha.specs.inner.Batches.{IsUnderWay}
use Rattle.repo_sha.specs.Pieces.{pieces}
use Rattle.repo_sha.proofs.PieceLemmas.{length-pieces, next_piece}
use Rattle.repo_sha.proofs.UnderWay.{at_emptied, front_of, way_begun, way_ended, way_first, way_gone_on}
use Rattle.repo_sha.proofs.batches.begin_all.Goals as goal
use Rattle.repo_sha.proofs.batches.begin_all.Goals.{then-number-lt-LANES, else-number-lt-LANES}

pub pieces-init : goal.pieces-init
pieces-init c =
    let texts = pieces c.args.bytes.now c.args.lengths.now in
    record {
      under_way = way_first texts c.args.lanes.now c.args.digests.now (c.requires.count ∙ sym (length-pieces c.args.bytes.now c.args.lengths.now)) c.requires.empty;
      rest = refl;
    }

pub pieces-preserved : goal.pieces-preserved
pieces-preserved c =
    let lengths = c.args.lengths.now in
    let texts = pieces c.args.bytes.now lengths in
    let number = c.pieces.number in
    let rest = c.pieces.rest.now in
    let lanes = c.if-number-lt-LANES.lanes in
    let lane = c.if-number-lt-LANES.lane in
    let low : lane < 8 = elim c.if-number-lt-LANES.branch [
      | then-number-lt-LANES w ↦ omega arith
      | else-number-lt-LANES w ↦ omega (arith, w.go_on-lane.ensures.lane)
    ] in
    let before : IsUnderWay texts number lanes c.pieces.digests = elim c.if-number-lt-LANES.branch [
      | then-number-lt-LANES w ↦ rw w.lanes-is c.pieces.invariant.under_way
      | else-number-lt-LANES w ↦ rw w.lanes-is (way_gone_on texts number w.go_on-lane.ensures.same.0 c.pieces.lanes _ c.pieces.digests w.go_on-lane.ensures.same.1 c.pieces.invariant.under_way)
    ] in
    let freed : IsUnderWay texts number c.release.new.lanes c.release.new.digests =
    rw (c.release.ensures.lanes, c.release.ensures.digests) (way_ended texts number lanes lane c.pieces.digests low before) in
    let next = next_piece c.args.bytes.now lengths rest number c.pieces-test.true c.pieces.invariant.rest in
    let least : c.min.result ≡ min (slice_index lengths number) (length rest) = omega (arith, c.min.ensures) in
    let front = front_of (slice_index lengths number) c.min.result rest c.split_at.result.0.now c.split_at.result.1.now least c.split_at.ensures.front c.split_at.ensures.back in
    record {
      under_way = way_begun texts number c.release.new.lanes lane c.release.new.digests c.begin.result low (omega arith)
          (omega (arith, length-pieces c.args.bytes.now lengths)) (rw c.release.ensures.lanes (at_emptied lanes lane)) c.begin.ensures.number
          (c.begin.ensures.bytes ∙ front.0 ∙ next.0) freed;
      rest = rw front.1 next.1;
    }
