use Rattle.std.proofs.Common.{slice_index, ap, ◌∙◌, arith}
use Rattle.std.proofs.lemmas.Simd.{get_or-replicate}
use Rattle.sha2.specs.Sha256.{add32}
use Rattle.repo_sha.proofs.SumLemmas.{scheduled_next}
use Rattle.repo_sha.proofs.schedules.put_next.Goals as goal

pub returns : goal.returns
returns c j lt block held =
    let word = c.next_word-word in
    scheduled_next j block c.args.window.now _ c.args.sums.now c.args.turn c.args.place word.result _ (omega arith) (omega arith) (omega arith) held
    (word.ensures.value j lt) word.ensures.window
    (c.add.ensures j lt ∙ ap (λ k. add32 k (slice_index word.result j)) (get_or-replicate 8 j _ 0 lt))
