use Rattle.std.proofs.Common.{ap, ◌∙◌, arith}
use Rattle.sha2.specs.Sha256.{rounds}
use Rattle.repo_sha.specs.inner.Schedules.{schedule_of}
use Rattle.repo_sha.proofs.rounds.eight_steps.Goals as goal

pub returns : goal.returns
returns c block h sums held =
    let after = rounds h (schedule_of block) in
    let s1 = c.step-v.ensures block h sums held in
    let s2 = c.step-v-2.ensures block h sums s1 in
    let s3 = c.step-v-3.ensures block h sums (s2 ∙ ap after (omega arith)) in
    let s4 = c.step-v-4.ensures block h sums (s3 ∙ ap after (omega arith)) in
    let s5 = c.step-v-5.ensures block h sums (s4 ∙ ap after (omega arith)) in
    let s6 = c.step-v-6.ensures block h sums (s5 ∙ ap after (omega arith)) in
    let s7 = c.step-v-7.ensures block h sums (s6 ∙ ap after (omega arith)) in
    c.step.ensures block h sums (s7 ∙ ap after (omega arith)) ∙ ap after (omega arith)
