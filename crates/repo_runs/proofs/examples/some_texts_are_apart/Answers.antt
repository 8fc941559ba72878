use Rattle.repo_runs.proofs.Apart as lemmas
use Rattle.repo_runs.proofs.examples.some_texts_are_apart.Goals as goal

pub returns : goal.returns
returns c = lemmas.texts_apart
