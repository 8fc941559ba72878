use Rattle.repo_reach.proofs.joints.read_with_next.Goals as goal

pub returns-in_ok-nodes-in-Err-clause-ok : goal.returns-in_ok-nodes-in-Err-clause-ok
returns-in_ok-nodes-in-Err-clause-ok c = (c.in_ok-nodes-in-Err.ensures.ok, c.in-Err.ensures.none c.in_ok-check_fault-in-Err.ensures.fault)
