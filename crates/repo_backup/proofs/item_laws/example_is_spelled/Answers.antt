use Rattle.repo_backup.proofs.SpelledExample as law
use Rattle.repo_backup.proofs.item_laws.example_is_spelled.Goals as goal

pub returns : goal.returns
returns c = law.example_is_spelled
