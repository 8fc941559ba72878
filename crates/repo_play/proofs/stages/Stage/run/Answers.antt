use Rattle.repo_play.proofs.stages.Stage.run.Goals as goal

pub returns-in-Keeping-clause-does : goal.returns-in-Keeping-clause-does
returns-in-Keeping-clause-does g c = rw c.in-Keeping.is c.run.ensures.does

pub returns-in-Keeping-clause-nonsense : goal.returns-in-Keeping-clause-nonsense
returns-in-Keeping-clause-nonsense g c = rw c.in-Keeping.is c.run.ensures.nonsense

pub returns-in-Appending-clause-does : goal.returns-in-Appending-clause-does
returns-in-Appending-clause-does g c = rw c.in-Appending.is c.run-in-Appending.ensures.does

pub returns-in-Appending-clause-nonsense : goal.returns-in-Appending-clause-nonsense
returns-in-Appending-clause-nonsense g c = rw c.in-Appending.is c.run-in-Appending.ensures.nonsense
