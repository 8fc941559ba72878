use Rattle.std.proofs.Common.{rules, ap, sym, subst, ◌∙◌, ◌≡◌, ◌++◌, ◌∷◌, length, append_assoc}
use Rattle.std.specs.BTreeMap.{values}
use Rattle.std.specs.List.{flat_map, All}
use Rattle.std.proofs.lemmas.List.Elements.{All-tail}
use Rattle.std.proofs.lemmas.Map.Entries.{length-values_of}
use Rattle.repo_name.specs.Rows.{count, row_bytes, IsRow}
use Rattle.repo_locks.proofs.writing.append_live.Goals as goal

pub loop-row-init : goal.loop-row-init
loop-row-init c =
    let out = c.args.out.now.items in
    let rows = values c.args.rows.now in
    let all : c.into_iter-row-iterator.result ≡ rows = search rules in
    let counted = c.in_ok-append_count.ensures.ok ∙ ap (λ n. out ++ count n) (c.len.ensures.len ∙ sym (length-values_of c.args.rows.now.entries)) in
    record {
      written = ap (λ us. us ++ flat_map row_bytes c.into_iter-row-iterator.result) counted ∙ append_assoc out (count (length rows)) (flat_map row_bytes c.into_iter-row-iterator.result)
          ∙ ap (λ us. out ++ (count (length rows) ++ flat_map row_bytes us)) all;
      rows = subst (All IsRow) (sym all) c.requires.rows;
    }

pub loop-row-preserved : goal.loop-row-preserved
loop-row-preserved c =
    let inv = c.loop-row.invariant in
    let row = c.in-Some.row.now in
    let next : c.loop-row.row-iterator ≡ row ∷ c.next.new.self = search rules in
    let out = c.loop-row.out.items in
    record {
      written = ap (λ us. us ++ flat_map row_bytes c.next.new.self) c.in_ok-append_row.ensures.ok ∙ append_assoc out (row_bytes row) (flat_map row_bytes c.next.new.self)
          ∙ ap (λ us. out ++ flat_map row_bytes us) (sym next) ∙ inv.written;
      rows = All-tail IsRow row c.next.new.self (subst (All IsRow) next inv.rows);
    }
