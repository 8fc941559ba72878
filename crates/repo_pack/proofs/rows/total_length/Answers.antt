use Rattle.std.proofs.Common.{rules, ℕ, ◌≡◌, ◌*◌, ◌/◌, ◌∙◌, length, drop, true, refl, sym, ap, subst, arith}
use Rattle.repo_pack.specs.PackLayout.{IsBlobLength}
use Rattle.repo_pack.specs.PackReading.{length_in, rows_in}
use Rattle.repo_pack.proofs.RowLemmas.{lengths_more, each_more, each_at}
use Rattle.repo_pack.proofs.rows.total_length.Goals as goal

pub loop-place-init : goal.loop-place-init
unfolding rows_in
loop-place-init c = record { each = λ k d h. absurd (omega arith); total_is = refl; small = omega arith }

pub loop-place-preserved : goal.loop-place-preserved
loop-place-preserved c =
    let len : c.length_at-length.result ≡ length_in (drop (37 * c.loop-place.place) c.args.header.now) = c.length_at-length.ensures ∙ ap length_in c.from_entry.ensures in
    let one : IsBlobLength c.length_at-length.result = search rules in
    record {
      each = each_more c.loop-place.place c.args.header.now c.loop-place.invariant.each (subst (λ (n : ℕ). IsBlobLength n) len one);
      total_is = omega (arith, lengths_more c.loop-place.place c.args.header.now);
      small = omega arith;
    }

pub returns-then-not-is_blob_length-clause-each : goal.returns-then-not-is_blob_length-clause-each
returns-then-not-is_blob_length-clause-each c = (
  λ none. absurd cc,
  λ each.
      let place = c.loop-place.place in
      let len : c.length_at-length.result ≡ length_in (drop (37 * place) c.args.header.now) = c.length_at-length.ensures ∙ ap length_in c.from_entry.ensures in
      let one = each_at (length c.args.header.now / 37) place c.args.header.now c.loop-place-test.true each in
      let yes : c.is_blob_length.result ≡ true = c.is_blob_length.ensures.1 (subst (λ (n : ℕ). IsBlobLength n) (sym len) one) in
      cc,
)
