use Rattle.std.proofs.Common.{rules, arith}
use Rattle.repo_store.proofs.Arming.{fetched, fetch_failed, got_plain}
use Rattle.repo_store.proofs.object_answers.answer_config.Goals as goal

pub returns-in-Ok-clause-armed : goal.returns-in-Ok-clause-armed
returns-in-Ok-clause-armed g c h =
    fetched _ _ _ _ (g.S.Shelf.store c.args.shelf.now) _ _ (g.S.Shelf.store c.config.new.self) c.in-Ok.found (c.in-Ok.ensures.armed h) (omega arith) (λ w. w.0 tt) (got_plain _ _ _ c.say_of.ensures.says) (search rules)

pub returns-in-Err-clause-armed : goal.returns-in-Err-clause-armed
returns-in-Err-clause-armed g c h =
    fetch_failed _ _ _ _ (g.S.Shelf.store c.args.shelf.now) _ _ (g.S.Shelf.store c.config.new.self) c.in-Err.error (search rules) (c.in-Err.ensures.armed h) (omega arith) tt (c.in-Err.ensures.law h)
