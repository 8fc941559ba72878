use Rattle.std.proofs.Common.{arith, rules, ap, sym, ◌∙◌, ◌++◌, ◌∷◌, [], append_assoc}
use Rattle.repo_locks.specs.TokenMachine.{with_row}
use Rattle.repo_locks.proofs.Ascending.{kind_beyond}
use Rattle.repo_locks.proofs.TokenMaps.{rows_before, last_row}
use Rattle.repo_locks.proofs.making.map_of_rows.Goals as goal

pub put_row-requires-clause-free : goal.put_row-requires-clause-free
put_row-requires-clause-free c =
    let inv = c.loop-row.invariant in
    let row = c.in-Some.row in
    let before = rows_before c.requires.0 c.args.rows.items c.loop-row.yielded c.loop-row.row-iterator.rest.items c.next.new.self.rest.items row c.requires.1 inv.left c.in-Some.ensures.steps.0 in
    rw inv.put (kind_beyond 0 row.token.0 c.loop-row.yielded row.token before (omega arith))

pub loop-row-preserved : goal.loop-row-preserved
loop-row-preserved c =
    let inv = c.loop-row.invariant in
    let row = c.in-Some.row in
    let before = rows_before c.requires.0 c.args.rows.items c.loop-row.yielded c.loop-row.row-iterator.rest.items c.next.new.self.rest.items row c.requires.1 inv.left c.in-Some.ensures.steps.0 in
    record {
      put = c.in_ok-put_row.ensures.ok ∙ ap (λ rs. with_row row rs) inv.put ∙ last_row 0 c.loop-row.yielded row before;
      under = c.put_row.ensures.under;
      counted = search rules;
      left = inv.left ∙ ap (λ us. c.loop-row.yielded ++ us) c.in-Some.ensures.steps.0 ∙ sym (append_assoc c.loop-row.yielded (row ∷ []) c.next.new.self.rest.items);
    }
