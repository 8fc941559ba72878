use Rattle.std.proofs.Common.{arith, rules, ◌∙◌, sym, ap, Err, ◌<◌, ◌^◌, ◌≡◌, ◌++◌, [], length, append-nil}
use Rattle.repo_name.specs.Rows.{number, rows_bytes}
use Rattle.repo_locks.proofs.Texts.{after_next, after_fresh, after_live, row_shape}
use Rattle.repo_locks.proofs.reading.parts_of.Goals as goal

pub returns-in_err-live-clause-shape : goal.returns-in_err-live-clause-shape
returns-in_err-live-clause-shape c is_shape l has =
    let read : c.args.bytes.now ≡ number c.in_ok-next.next ++ c.in_ok-next.rest.now = search rules in
    let below : c.in_ok-next.next < 2 ^ 64 = search rules in
    let fresh = c.in_ok-fresh.ensures.found in
    let fits = has.0 in
    let n = after_next c.in_ok-next.next c.in_ok-next.rest.now l below fits.next (sym read ∙ has.1) in
    let f = after_fresh c.in_ok-fresh.fresh.items l.fresh c.in_ok-fresh.rest.now (rows_bytes l.live) fresh.0 fits.few_fresh fresh.1 fits.fresh (sym fresh.2 ∙ n.1) in
    let none = c.in_err-live.ensures.shape (ap Err (row_shape c.from_residual-in_err-live.result c.in_err-live.field-0.0 is_shape c.from_residual-in_err-live.ensures.1)) in
    none l.live [] fits.few_live fits.live (f.1 ∙ sym (append-nil (rows_bytes l.live)))

pub returns-then-not-is_empty-clause-shape : goal.returns-then-not-is_empty-clause-shape
returns-then-not-is_empty-clause-shape c is_shape l has =
    let read : c.args.bytes.now ≡ number c.in_ok-next.next ++ c.in_ok-next.rest.now = search rules in
    let below : c.in_ok-next.next < 2 ^ 64 = search rules in
    let fresh = c.in_ok-fresh.ensures.found in
    let live = c.in_ok-live.ensures.found in
    let fits = has.0 in
    let n = after_next c.in_ok-next.next c.in_ok-next.rest.now l below fits.next (sym read ∙ has.1) in
    let f = after_fresh c.in_ok-fresh.fresh.items l.fresh c.in_ok-fresh.rest.now (rows_bytes l.live) fresh.0 fits.few_fresh fresh.1 fits.fresh (sym fresh.2 ∙ n.1) in
    let r = after_live c.in_ok-live.live.items l.live c.in_ok-live.rest.now [] live.0 fits.few_live live.1 fits.live (sym live.2 ∙ f.1 ∙ sym (append-nil (rows_bytes l.live))) in
    let empty : length c.in_ok-live.rest.now ≡ 0 = ap length r.1 in
    let some : 0 < length c.in_ok-live.rest.now = search rules in
    omega arith
