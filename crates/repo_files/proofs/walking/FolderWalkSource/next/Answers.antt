use Rattle.std.proofs.Common.{sym, ◌∙◌}
use Rattle.repo_files.proofs.walking.FolderWalkSource.next.Goals as goal

pub returns-in-Ok-clause-fails : goal.returns-in-Ok-clause-fails
returns-in-Ok-clause-fails g c = λ sound error gone. sound error (sym c.in-Ok.ensures.failed ∙ gone)
