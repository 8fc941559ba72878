use Rattle.std.proofs.Common.{arith, rules, ◌∙◌, sym, ap, Err, ◌≡◌, ◌++◌, ◌∷◌, []}
use Rattle.std.proofs.lemmas.List.Elements.{All-push}
use Rattle.repo_name.proofs.RowLemmas.{rows_one, same_error}
use Rattle.repo_name.specs.Rows.{row_bytes, IsRow}
use Rattle.repo_name.proofs.CountLemmas.{too_few, flat_map-push}
use Rattle.repo_name.specs.declared.rows.RowError.{RowError}
use Rattle.repo_name.proofs.rows.rows_at.Goals as goal

pub returns-in_err-row-clause-shape : goal.returns-in_err-row-clause-shape
returns-in_err-row-clause-shape c is_shape ts rest counted is h =
    let inv = c.loop.invariant in
    let none = c.in_err-row.ensures.shape (ap Err (same_error c.from_residual-in_err-row.result RowError.Shape c.in_err-row.field-0.0 is_shape c.from_residual-in_err-row.ensures.1)) in
    too_few row_bytes IsRow rows_one c.loop.rows.items c.loop.rest.now inv.each none ts rest (omega arith) is (sym inv.read ∙ h)

pub loop-preserved : goal.loop-preserved
loop-preserved c =
    let found = c.in_ok-row.ensures.found in
    let pushed : c.push.new.self.items ≡ c.loop.rows.items ++ c.in_ok-row.row ∷ [] = search rules in
    record {
      counted = search rules;
      each = rw pushed (All-push IsRow c.loop.rows.items c.in_ok-row.row c.loop.invariant.each found.0);
      read = rw pushed (flat_map-push row_bytes c.loop.rows.items c.in_ok-row.row c.args.bytes.now c.loop.rest.now c.in_ok-row.after.now c.loop.invariant.read found.1);
    }
