use Rattle.repo_runs.proofs.Joining as lemmas
use Rattle.repo_runs.proofs.examples.lone_talk_is_a_run.Goals as goal

pub returns : goal.returns
returns c = lemmas.lone_talk
