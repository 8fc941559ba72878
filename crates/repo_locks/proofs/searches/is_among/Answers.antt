use Rattle.std.proofs.Common.{◌∙◌}
use Rattle.repo_locks.proofs.TokenMaps.{contains_among}
use Rattle.repo_locks.proofs.searches.is_among.Goals as goal

pub returns : goal.returns
returns c = c.contains.ensures ∙ contains_among c.args.numbers.now.keys c.args.token
