use Rattle.std.proofs.Common.{◌≡◌, ◌++◌}
use Rattle.repo_check.specs.Telling.{told}
use Rattle.repo_check.proofs.telling.tell.Given as goal

abbrev pub invariant-loop-name : goal.invariant-loop-name
invariant-loop-name l = l.fn.faults.items ++ told l.thing l.names l.found ≡ l.faults.items ++ told l.thing l.name-iterator.a.rest.now l.name-iterator.b.rest.now
