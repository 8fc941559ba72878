use Rattle.std.proofs.Common.{ap, ◌∙◌, arith}
use Rattle.sha2.specs.Sha256.{rounds}
use Rattle.repo_sha.specs.inner.Schedules.{schedule_of}
use Rattle.repo_sha.proofs.lane_rounds.four_first_steps.Goals as goal

pub returns : goal.returns
returns c j lt block h begins held =
    let after = rounds h (schedule_of block) in
    let s1 = c.first_step-v.ensures j lt block h begins held in
    let s2 = c.first_step-v-2.ensures j lt block h begins s1 in
    let s3 = c.first_step-v-3.ensures j lt block h begins (s2 ∙ ap after (omega arith)) in
    c.first_step.ensures j lt block h begins (s3 ∙ ap after (omega arith)) ∙ ap after (omega arith)
