use Rattle.std.proofs.Common.{◌≡◌, ◌*◌, ap, refl, ◌∙◌, arith}
use Rattle.sha2.specs.Sha256.{rounds}
use Rattle.repo_sha.specs.inner.Schedules.{schedule_of}
use Rattle.repo_sha.proofs.rounds.all_steps.Goals as goal

pub turns-init : goal.turns-init
unfolding rounds
turns-init c block sums = refl

pub turns-preserved : goal.turns-preserved
turns-preserved c block sums =
    c.eight_steps-after.ensures block c.args.hash sums (c.turns.invariant block sums) ∙ ap (rounds c.args.hash (schedule_of block)) (omega arith)

pub returns : goal.returns
returns c block sums =
    let done : 8 * c.turns.turn ≡ 64 = omega (arith, c.turns.auto.turn-end) in
    rw done at (c.turns.invariant block sums)
