use Rattle.repo_prog.proofs.ServedLemmas.{in_turn_ran}
use Rattle.repo_prog.proofs.serve.serve_listener.Goals as goal

pub returns-clause-ran : goal.returns-clause-ran
returns-clause-ran g c honest = in_turn_ran _ _ _ _ _ _ _ _ _ _ _ _ _ (c.serve_connections.ensures.served honest)
