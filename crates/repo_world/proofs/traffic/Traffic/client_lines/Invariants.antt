use Rattle.std.proofs.Common.{◌≡◌, take, string_bytes}
use Rattle.repo_world.specs.Flows.{clients_in}
use Rattle.repo_world.specs.Reports.{client_lines}
use Rattle.repo_world.proofs.traffic.Traffic.client_lines.Given as goal

abbrev pub invariant-loop-number : goal.invariant-loop-number
invariant-loop-number l = string_bytes l.text ≡ client_lines 0 (take l.number (clients_in l.self))
