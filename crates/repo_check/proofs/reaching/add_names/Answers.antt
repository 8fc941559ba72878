use Rattle.std.proofs.Common.{◌⊎◌, IsTrue, [], Contains}
use Rattle.std.specs.BTreeSet.{contains}
use Rattle.repo_name.specs.Naming.{name_cmp}
use Rattle.repo_name.specs.declared.names.Name.{Name}
use Rattle.repo_check.proofs.Giving.{names_next}
use Rattle.repo_check.proofs.reaching.add_names.Goals as goal

pub loop-name-preserved : goal.loop-name-preserved
loop-name-preserved c =
    let no_name : Name = record { 0 = [] } in
    let Whole : Name → Type 0 = λ n. IsTrue (contains name_cmp c.args.set.now n) ⊎ Contains c.args.names.now n in
    names_next c.loop-name.set c.insert.new.self c.args.names.now c.loop-name.name-index no_name c.loop-name-test.true c.in_ok-insert.ensures.updates.0 Whole c.loop-name.invariant
