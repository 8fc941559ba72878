use Rattle.std.proofs.Common.{◌≡◌, List, Vec, Global, subst}
use Rattle.std.specs.List.Sorted.{IsStrictlySortedBy}
use Rattle.repo_name.specs.Naming.{name_cmp}
use Rattle.repo_name.specs.NameMaps.{found}
use Rattle.repo_name.specs.declared.names.Name.{Name}
use Rattle.repo_check.specs.Gathering.{AreGiven, HasGiven}
use Rattle.repo_check.specs.declared.visiting.Visit.{Visit}
use Rattle.repo_check.proofs.Giving.{are_given, ok_both}
use Rattle.repo_check.proofs.reaching.given_in.Goals as goal

pub returns : goal.returns
returns c =
    let trees = found c.args.walk.now.known.kept in
    let visits = c.args.walk.now.visits in
    let set = c.in_ok-set.set in
    let has = subst (λ (vs : List Visit). HasGiven c.args.gift trees vs set) c.as_slice.ensures c.in_ok-set.ensures in
    ok_both (λ (names : Vec Name Global). names.items ≡ set.keys) (λ (names : Vec Name Global). IsStrictlySortedBy name_cmp names.items) (λ (names : Vec Name Global). AreGiven c.args.gift trees visits names.items) c.names_of.result
    (λ names same sorted. are_given c.args.gift trees visits set names.items has same sorted) c.names_of.ensures.names c.names_of.ensures.ascend
