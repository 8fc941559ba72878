use Rattle.repo_check.proofs.Reached.{content_is_reached}
use Rattle.repo_check.proofs.laws.content_is_reached.Goals as goal

pub returns : goal.returns
returns c = content_is_reached
