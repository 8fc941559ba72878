use Rattle.repo_prog.proofs.commands.run.Goals as goal

pub returns-clause-follows : goal.returns-clause-follows
returns-clause-follows g c = (c.order_of.result, c.order_of.ensures.reads, c.follow.ensures.follows, c.follow.ensures.checked)
