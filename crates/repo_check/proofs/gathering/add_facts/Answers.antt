use Rattle.repo_check.proofs.gathering.add_facts.Goals as goal

pub returns-in-Well : goal.returns-in-Well
returns-in-Well c = rw c.in-Well.is c.add.ensures.ok
