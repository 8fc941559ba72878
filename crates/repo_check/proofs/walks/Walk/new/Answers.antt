use Rattle.repo_check.specs.Walks.{known_of}
use Rattle.repo_check.proofs.Walking.{begins_walk}
use Rattle.repo_check.proofs.walks.Walk.new.Goals as goal

pub returns-clause-begun : goal.returns-clause-begun
returns-clause-begun c = λ roots h. begins_walk roots (known_of c.new.result) c.args.visits h
