use Rattle.repo_runs.proofs.WrongRules as lemmas
use Rattle.repo_runs.proofs.wrong_rules.snapshot_first_breaks_sound.Goals as goal

pub returns : goal.returns
returns c = lemmas.snapshot_first_breaks
