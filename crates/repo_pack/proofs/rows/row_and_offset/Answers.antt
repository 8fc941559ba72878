use Rattle.std.proofs.Common.{◌≡◌, ◌*◌, ◌∙◌, ap, drop, refl, arith}
use Rattle.repo_pack.specs.PackReading.{length_in, rows_in}
use Rattle.repo_pack.proofs.RowLemmas.{lengths_more}
use Rattle.repo_pack.proofs.rows.row_and_offset.Goals as goal

pub loop-before-init : goal.loop-before-init
unfolding rows_in
loop-before-init c = record { offset_is = refl; small = omega arith }

pub loop-before-preserved : goal.loop-before-preserved
loop-before-preserved c =
    let len : c.length_at.result ≡ length_in (drop (37 * c.loop-before.before) c.args.header.now) = c.length_at.ensures ∙ ap length_in c.from_entry.ensures in
    record { offset_is = omega (arith, lengths_more c.loop-before.before c.args.header.now); small = omega arith }
