use Rattle.std.proofs.Common.{◌≡◌, ◌%◌, ◌+◌, arith, refl}
use Rattle.repo_sha.proofs.LaneLemmas.{word_in}
use Rattle.repo_sha.proofs.schedules.next_word.Goals as goal

pub returns-clause-value : goal.returns-clause-value
returns-clause-value c j h =
    let w = c.args.window.now in
    let place = c.args.place in
    let at : place % 16 ≡ place = omega arith in
    rw (
      at,
      c.add-word.ensures j h,
      c.add.ensures j h,
      c.add-near.ensures j h,
      c.small_sigma1.ensures j h,
      c.small_sigma0-far.ensures j h,
      word_in j w ((place + 14) % 16) (omega arith),
      word_in j w ((place + 9) % 16) (omega arith),
      word_in j w ((place + 1) % 16) (omega arith),
      word_in j w place (omega arith),
    ) refl
