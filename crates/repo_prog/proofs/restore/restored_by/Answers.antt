use Rattle.repo_prog.proofs.restore.restored_by.Goals as goal

pub returns-clause-came : goal.returns-clause-came
returns-clause-came g c = (c.restored.new.sink, c.restored.ensures.came)
