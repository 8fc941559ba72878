use Rattle.repo_runs.proofs.WrongRules as lemmas
use Rattle.repo_runs.proofs.wrong_rules.packs_first_break_sound.Goals as goal

pub returns : goal.returns
returns c = lemmas.packs_first_break
