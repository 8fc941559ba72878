use Rattle.std.proofs.Common.{take, All}
use Rattle.repo_name.specs.Naming.{IsName}
use Rattle.repo_name.proofs.payloads.are_names.Given as goal

abbrev pub invariant-loop-name : goal.invariant-loop-name
invariant-loop-name l = All IsName (take l.name-index l.names)
