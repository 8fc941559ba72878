use Rattle.std.proofs.Common.{◌≡◌, take, string_bytes}
use Rattle.repo_prog.specs.Tellings.{fault_lines}
use Rattle.repo_prog.proofs.telling.fault_lines.Given as goal

abbrev pub invariant-loop-fault : goal.invariant-loop-fault
invariant-loop-fault l = string_bytes l.lines ≡ fault_lines (take l.fault-index l.faults)
