use Rattle.std.proofs.Common.{inr}
use Rattle.repo_many.proofs.connections.Connections.settle.Goals as goal

pub returns-in-AtEnd-clause-freed : goal.returns-in-AtEnd-clause-freed
returns-in-AtEnd-clause-freed g c = λ free. inr (c.args.self.now.hall.entered, c.close_at.ensures.renewed free)

pub returns-in-Failed-clause-freed : goal.returns-in-Failed-clause-freed
returns-in-Failed-clause-freed g c = λ free. inr (c.args.self.now.hall.entered, c.close_at-in-Failed.ensures.renewed free)

pub returns-in-TooSlow-clause-freed : goal.returns-in-TooSlow-clause-freed
returns-in-TooSlow-clause-freed g c = λ free. inr (c.args.self.now.hall.entered, c.close_at-in-TooSlow.ensures.renewed free)
