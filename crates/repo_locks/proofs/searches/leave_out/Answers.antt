use Rattle.std.proofs.Common.{◌∙◌}
use Rattle.repo_locks.proofs.TokenMaps.{contains_among, removed_without}
use Rattle.repo_locks.proofs.searches.leave_out.Goals as goal

pub returns-clause-was : goal.returns-clause-was
returns-clause-was c = c.remove.ensures.test ∙ contains_among c.args.numbers.now.keys c.args.token

pub returns-clause-left : goal.returns-clause-left
returns-clause-left c = c.remove.ensures.keys ∙ removed_without 0 c.requires.0 c.args.numbers.now.keys c.args.token c.requires.1
