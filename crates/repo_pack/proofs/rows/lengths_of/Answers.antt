use Rattle.std.proofs.Common.{◌≡◌, ◌*◌, ◌++◌, ◌∷◌, [], ◌∙◌, sym, ap, drop}
use Rattle.repo_pack.specs.declared.rows.Row.{Row}
use Rattle.repo_pack.specs.PackReading.{length_in, rows_in}
use Rattle.repo_pack.proofs.NameLemmas.{map-rows_in_more}
use Rattle.repo_pack.proofs.rows.lengths_of.Goals as goal

pub loop-place-init : goal.loop-place-init
unfolding rows_in
loop-place-init c = c.new-lengths.ensures.items

pub loop-place-preserved : goal.loop-place-preserved
loop-place-preserved c =
    let len : c.length_at.result ≡ length_in (drop (37 * c.loop-place.place) c.args.header.now) = c.length_at.ensures ∙ ap length_in c.from_entry.ensures in
    let so_far = c.loop-place.invariant in
    let more = map-rows_in_more (λ (row : Row). row.length) c.loop-place.place c.args.header.now in
    c.in_ok-push.ensures.items ∙ ap (λ n. c.loop-place.lengths.items ++ n ∷ []) len ∙ ap (λ ns. ns ++ length_in (drop (37 * c.loop-place.place) c.args.header.now) ∷ []) so_far ∙ sym more
