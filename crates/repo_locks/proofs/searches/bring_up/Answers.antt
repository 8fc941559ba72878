use Rattle.std.proofs.Common.{ap, sym, ◌∙◌, is_some}
use Rattle.std.specs.BTreeMap.{is_at, values}
use Rattle.std.specs.Map.{set_value}
use Rattle.repo_name.specs.declared.rows.LockRow.{LockRow}
use Rattle.repo_locks.proofs.TokenMaps.{token_cmp, row_known, no_row, rows_at_none, written_under}
use Rattle.repo_locks.proofs.searches.bring_up.Goals as goal

pub returns-in-Some : goal.returns-in-Some
returns-in-Some c =
    let old = c.args.rows.now.entries in
    let row : LockRow = c.in-Some.row.now in
    let new : LockRow = record row { time = c.max-row.result } in
    let set = (c.get_mut.follows.holds new).0 ∙ ap (λ n. set_value (is_at (token_cmp c.args.token)) old (record row { time = n })) c.max-row.ensures in
    let both = written_under old (c.get_mut.follows.lender new).entries c.args.token c.args.time row c.requires.ascend.0 c.requires.under c.requires.ascend.1 (sym c.in-Some.ensures.value) set in
    record {
      was = ap (λ o. is_some o) c.in-Some.ensures.value ∙ row_known old c.args.token c.requires.under;
      brought = both.0;
      under = both.1;
    }

pub returns-in-None-clause-was : goal.returns-in-None-clause-was
returns-in-None-clause-was c = ap (λ o. is_some o) c.in-None.ensures.value ∙ row_known c.args.rows.now.entries c.args.token c.requires.under

pub returns-in-None-clause-brought : goal.returns-in-None-clause-brought
returns-in-None-clause-brought c =
    let none = no_row c.args.rows.now.entries c.args.token c.requires.under c.in-None.ensures.value in
    ap (λ m. values m) c.get_mut.follows.holds-at-none ∙ sym (rows_at_none c.args.token c.args.time (values c.args.rows.now) none)
