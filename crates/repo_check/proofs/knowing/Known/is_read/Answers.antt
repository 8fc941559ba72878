use Rattle.std.proofs.Common.{sym}
use Rattle.repo_check.proofs.knowing.Known.is_read.Goals as goal

pub returns-in-Some-clause-yes : goal.returns-in-Some-clause-yes
returns-in-Some-clause-yes c = λ yes. (c.in-Some.field-0.now, sym c.in-Some.ensures.value)
