use Rattle.repo_runs.proofs.Apart as lemmas
use Rattle.repo_runs.proofs.examples.nothing_clashes_in_runs.Goals as goal

pub returns : goal.returns
returns c = lemmas.nothing_clashes
