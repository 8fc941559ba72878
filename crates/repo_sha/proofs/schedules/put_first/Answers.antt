use Rattle.std.proofs.Common.{◌≡◌, ◌+◌, ◌-◌, ◌%◌, slice_index, ap, sym, ◌∙◌, arith}
use Rattle.std.proofs.lemmas.Simd.{get_or-replicate}
use Rattle.sha2.specs.Sha256.{add32, round_constants}
use Rattle.repo_sha.specs.inner.Lanes.{lane_word, words_in}
use Rattle.repo_sha.specs.inner.Schedules.{schedule_of}
use Rattle.repo_sha.proofs.LaneLemmas.{word_in}
use Rattle.repo_sha.proofs.SumLemmas.{sums_next}
use Rattle.repo_sha.proofs.schedules.put_first.Goals as goal

pub returns : goal.returns
returns c j lt block begins held =
    let t = c.args.t in
    let w = c.args.window.now in
    let m : (16 + t) % 16 ≡ t = omega arith in
    let d : 16 + t - 16 ≡ t = omega arith in
    let is : slice_index (words_in j w) t ≡ slice_index (schedule_of block) t = rw (m, d) at (begins.1 t (omega arith)) in
    sums_next j block c.args.sums.now t _ (omega arith) held
    (c.add.ensures j lt ∙ ap (λ k. add32 k (lane_word w t j)) (get_or-replicate 8 j (slice_index round_constants t) 0 lt)
    ∙ ap (add32 (slice_index round_constants t)) (sym (word_in j w t (omega arith)) ∙ is))
