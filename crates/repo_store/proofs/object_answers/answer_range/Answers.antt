use Rattle.std.proofs.Common.{rules, arith}
use Rattle.repo_store.proofs.Arming.{fetched, fetch_failed, unasked}
use Rattle.repo_store.proofs.object_answers.answer_range.Goals as goal

pub returns-then-length-eq0-clause-armed : goal.returns-then-length-eq0-clause-armed
returns-then-length-eq0-clause-armed g c h =
    unasked _ _ (g.S.Shelf.store c.args.shelf.now) _ _ (g.S.Shelf.store c.args.shelf.now) (search rules) (λ w. w.0 tt) (λ fault. absurd (cc)) (search rules)

pub returns-in-Ok-Missing-clause-armed : goal.returns-in-Ok-Missing-clause-armed
returns-in-Ok-Missing-clause-armed g c h =
    fetched _ _ _ _ (g.S.Shelf.store c.args.shelf.now) _ _ (g.S.Shelf.store c.range.new.self) c.in-Ok-Missing.field-0 (c.in-Ok-Missing.ensures.armed h) (omega arith) (λ w. w.0 tt) (λ fault. absurd (cc)) (search rules)

pub returns-in-Ok-Outside-clause-armed : goal.returns-in-Ok-Outside-clause-armed
returns-in-Ok-Outside-clause-armed g c h =
    fetched _ _ _ _ (g.S.Shelf.store c.args.shelf.now) _ _ (g.S.Shelf.store c.range.new.self) c.in-Ok-Outside.field-0 (c.in-Ok-Outside.ensures.armed h) (omega arith) (λ w. w.0 tt) (λ fault. absurd (cc)) (search rules)

pub returns-in-Err-clause-armed : goal.returns-in-Err-clause-armed
returns-in-Err-clause-armed g c h =
    fetch_failed _ _ _ _ (g.S.Shelf.store c.args.shelf.now) _ _ (g.S.Shelf.store c.range.new.self) c.in-Err.error (search rules) (c.in-Err.ensures.armed h) (omega arith) (search rules) (c.in-Err.ensures.law h)
