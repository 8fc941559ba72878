use Rattle.repo_sha.proofs.batches.go_on.Goals as goal

pub returns-in-Some-clause-same : goal.returns-in-Some-clause-same
returns-in-Some-clause-same c = (c.in-Some.turn.steps, c.advance.ensures)
