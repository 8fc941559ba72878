use Rattle.repo_prune.proofs.TreeReading.{was_missing, was_broken, was_done}
use Rattle.repo_prune.proofs.reading.go_on.Goals as goal

pub returns-in-Missing : goal.returns-in-Missing
returns-in-Missing c = λ facts texts trees w turn. was_missing facts texts trees c.in-Missing.name (rw c.in-Missing.is at w) (rw c.in-Missing.is at turn)

pub returns-in-Broken : goal.returns-in-Broken
returns-in-Broken c = λ facts texts trees w turn. rw c.bad_tree.ensures (was_broken facts texts trees c.in-Broken.name (rw c.in-Broken.is at turn))

pub returns-in-Done : goal.returns-in-Done
returns-in-Done c = λ facts texts trees w turn. was_done facts texts trees (rw c.in-Done.is at w) (rw c.in-Done.is at turn)
