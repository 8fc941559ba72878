use Rattle.repo_runs.proofs.Requests as lemmas
use Rattle.repo_runs.proofs.bag_laws.puts_are_of_version.Goals as goal

pub returns : goal.returns
returns c = lemmas.puts_of_version
