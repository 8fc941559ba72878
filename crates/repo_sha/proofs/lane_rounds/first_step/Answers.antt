use Rattle.std.proofs.Common.{refl, sym, arith}
use Rattle.sha2.proofs.Schedule256.{rounds_first}
use Rattle.repo_sha.specs.inner.Lanes.{lane, words_in}
use Rattle.repo_sha.proofs.LaneLemmas.{word_in}
use Rattle.repo_sha.proofs.lane_rounds.first_step.Goals as goal

pub returns : goal.returns
returns c j lt block h begins held =
    rounds_first block h (words_in j c.args.window.now) (lane j c.args.v) c.args.t _ _ _ c.requires begins held
    refl (sym (word_in j c.args.window.now c.args.t (omega arith))) (c.round.ensures j lt)
