use Rattle.std.proofs.Common.{◌*◌, arith}
use Rattle.sha2.specs.Sha256.{word_at}
use Rattle.repo_sha.proofs.LaneLemmas.{eight_mapped}
use Rattle.repo_sha.proofs.schedules.words.Goals as goal

pub returns : goal.returns
returns c =
    rw (
      c.word.ensures,
      c.word-2.ensures,
      c.word-3.ensures,
      c.word-4.ensures,
      c.word-5.ensures,
      c.word-6.ensures,
      c.word-7.ensures,
      c.word-8.ensures,
    )
    (eight_mapped (λ block. word_at block.now (4 * c.args.t)) _ c.args.blocks (omega arith))
