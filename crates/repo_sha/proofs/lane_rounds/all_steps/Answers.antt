use Rattle.std.proofs.Common.{◌≡◌, refl, ◌*◌, arith}
use Rattle.sha2.specs.Sha256.{rounds}
use Rattle.sha2.proofs.Schedule256.{IsRoundsAt_at}
use Rattle.repo_sha.specs.inner.Lanes.{lane}
use Rattle.repo_sha.proofs.lane_rounds.all_steps.Goals as goal

pub turns-init : goal.turns-init
unfolding rounds
turns-init c j lt block begins =
    let h = lane j c.args.hashes in
    let s1 = c.four_first_steps-v.ensures j lt block h begins refl in
    let s2 = c.four_first_steps-v-2.ensures j lt block h begins s1 in
    let s3 = c.four_first_steps-v-3.ensures j lt block h begins s2 in
    (begins, c.four_first_steps-v-4.ensures j lt block h begins s3)

pub turns-preserved : goal.turns-preserved
turns-preserved c j lt block begins =
    let h = lane j c.args.hashes in
    let s1 = c.four_steps-after.ensures j lt block h (IsRoundsAt_at block h _ _ _ _ (omega arith) (c.turns.invariant j lt block begins)) in
    let s2 = c.four_steps-after-in-turns.ensures j lt block h s1 in
    let s3 = c.four_steps-after-in-turns-2.ensures j lt block h s2 in
    let s4 = c.four_steps-after-in-turns-3.ensures j lt block h s3 in
    IsRoundsAt_at block h _ _ _ _ (omega arith) s4

pub returns : goal.returns
returns c j lt block begins =
    let done : 16 * c.turns.turn ≡ 64 = omega (arith, c.turns.auto.turn-end (omega arith)) in
    rw done at (c.turns.invariant j lt block begins).1
