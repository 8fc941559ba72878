use Rattle.std.proofs.Common.{subst}
use Rattle.repo_world.specs.Flows.{Flow, FlowStands}
use Rattle.repo_world.proofs.traffic.Traffic.seat.Goals as goal

pub returns-clause-stands : goal.returns-clause-stands
returns-clause-stands c = subst (λ (f : Flow). FlowStands f.seats f.messages) c.self.view_is c.self.invariant
