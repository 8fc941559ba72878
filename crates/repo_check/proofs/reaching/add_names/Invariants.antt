use Rattle.std.proofs.Common.{◌↔◌, ◌⊎◌, IsTrue, drop, Contains}
use Rattle.std.specs.BTreeSet.{contains}
use Rattle.repo_name.specs.Naming.{name_cmp}
use Rattle.repo_name.specs.declared.names.Name.{Name}
use Rattle.repo_check.proofs.reaching.add_names.Given as goal

abbrev pub invariant-loop-name : goal.invariant-loop-name
invariant-loop-name l = (n : Name) → (IsTrue (contains name_cmp l.set n) ⊎ Contains (drop l.name-index l.names) n) ↔ (IsTrue (contains name_cmp l.fn.set n) ⊎ Contains l.names n)
