use Rattle.std.proofs.Common.{rules, ◌≡◌, ◌+◌, ◌++◌, ◌∷◌, [], get_or, drop, sym, ap, ◌∙◌, arith, vec_len}
use Rattle.std.proofs.lemmas.List.{append-nil}
use Rattle.std.proofs.lemmas.List.Sums.{sum_by-drop_more}
use Rattle.repo_name.specs.declared.kinds.BlobKind.TheVariants.{Content}
use Rattle.repo_pack.specs.declared.rows.Row.{Row}
use Rattle.repo_pack.specs.PackWriting.{placed_row, placed_from}
use Rattle.repo_pack.proofs.WriterLemmas.{placed_more, placed_end}
use Rattle.repo_pack.proofs.writers.add_placed.Goals as goal

pub loop-row-preserved : goal.loop-row-preserved
loop-row-preserved c =
    let pack = c.args.pack in
    let rows = c.args.rows.now in
    let k = c.loop-row.row-index in
    let front = c.loop-row.placed.items in
    let offset = c.loop-row.offset in
    let d : Row = record { kind = Content; name = record { 0 = [] }; length = 0 } in
    let row = get_or rows k d in
    let len = row.length in
    let pushed : c.push.new.self.items ≡ front ++ placed_row pack offset row ∷ [] = search rules in
    let longer : vec_len c.push.new.self ≡ vec_len c.loop-row.placed + 1 = search rules in
    record {
      placed = ap (λ t. t ++ placed_from pack (offset + len) (drop (k + 1) rows)) pushed ∙ placed_more front pack offset rows k d c.loop-row-test.true ∙ c.loop-row.invariant.placed;
      room = omega arith;
      offset = omega (arith, sum_by-drop_more (λ (row : Row). row.length) rows k d c.loop-row-test.true);
    }

pub returns : goal.returns
returns c =
    let front = c.loop-row.placed.items in
    sym (append-nil front) ∙ ap (λ t. front ++ t) (sym (placed_end c.args.pack c.loop-row.offset c.args.rows.now c.loop-row.row-index c.loop-row-test.false)) ∙ c.loop-row.invariant.placed
