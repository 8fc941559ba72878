use Rattle.std.proofs.Common.{slice_index, ap, ◌∙◌, arith}
use Rattle.repo_sha.proofs.LaneLemmas.{hashes_word}
use Rattle.repo_sha.proofs.lane_rounds.side_by_side.Goals as goal

pub returns : goal.returns
returns c j k lane word =
    ap (λ v. slice_index v j) (c.words.invariant.1 k (omega arith)) ∙ hashes_word c.args.hashes k j lane (omega arith)
