use Rattle.repo_prune.proofs.PruneRuns.{prune_sound}
use Rattle.repo_prune.proofs.laws.prune_keeps_sound.Goals as goal

pub returns : goal.returns
returns c = prune_sound
