use Rattle.std.proofs.Common.{◌⊎◌, ◌↔◌, take, Contains}
use Rattle.repo_name.specs.declared.names.Name.{Name}
use Rattle.repo_reach.specs.Used.{IsIn}
use Rattle.repo_reach.proofs.used.add_names.Given as goal

abbrev pub invariant-loop-name : goal.invariant-loop-name
invariant-loop-name l = (n : Name) → IsIn l.set n ↔ (IsIn l.fn.set n ⊎ Contains (take l.name-index l.names) n)
