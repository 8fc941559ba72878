use Rattle.std.proofs.Common.{slice_index, ap, ◌∙◌, arith}
use Rattle.repo_sha.proofs.LaneLemmas.{begins_from, blocks_word}
use Rattle.repo_sha.proofs.schedules.first_words.Goals as goal

pub returns : goal.returns
returns c j lt =
    begins_from j c.words.window _ c.words.invariant.0
    (λ k low. ap (λ v. slice_index v j) (c.words.invariant.1 k (omega arith)) ∙ blocks_word c.args.blocks k j lt (omega arith))
