use Rattle.std.proofs.Common.{◌≢◌, ℕ, List, subst}
use Rattle.repo_name.specs.Naming as naming
use Rattle.repo_check.proofs.TreeLooks.{tree_misnamed, tree_none, unwelcome}
use Rattle.repo_check.proofs.trees.look_at_tree.Goals as goal

pub returns-in_default : goal.returns-in_default
returns-in_default c =
    let place = c.args.fact.place in
    tree_none c.args.lookup.now c.args.fact c.args.say.now c.look_at_none.result (unwelcome place.pack place.offset place.length c.args.say.now c.in_default.not-Bytes) c.look_at_none.ensures

pub returns-then-not-has_name : goal.returns-then-not-has_name
returns-then-not-has_name c = tree_misnamed c.args.fact c.args.say.now (
  c.in-Bytes.bytes,
  c.in-Bytes.is,
  subst (λ (x : List ℕ). naming.name x ≢ c.args.fact.name) c.as_slice-bytes.ensures (c.has_name.ensures.lacks c.if-not-has_name.true),
)
