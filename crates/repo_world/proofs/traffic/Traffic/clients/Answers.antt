use Rattle.std.proofs.Common.{subst}
use Rattle.repo_session.specs.Traces.{Each}
use Rattle.repo_world.specs.Flows.{Flow, clients_in}
use Rattle.repo_world.specs.Rules.{IsRuled}
use Rattle.repo_world.proofs.FlowParts.{clients_ruled}
use Rattle.repo_world.proofs.traffic.Traffic.clients.Goals as goal

pub returns-clause-ruled : goal.returns-clause-ruled
returns-clause-ruled c = subst (λ (f : Flow). Each IsRuled (clients_in f)) c.self.view_is (clients_ruled c.self.inside.seats.items c.self.invariant.ruled)
