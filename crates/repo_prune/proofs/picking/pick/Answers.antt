use Rattle.std.proofs.Common.{Vec, Global, List, sym, subst}
use Rattle.std.specs.BTreeSet.{contains}
use Rattle.std.proofs.lemmas.Result.{IfOk-weaker}
use Rattle.repo_name.specs.Naming.{name_cmp}
use Rattle.repo_name.specs.declared.names.Name.{Name}
use Rattle.repo_prune.specs.inner.Picking.{ArePicked}
use Rattle.repo_prune.proofs.Picks.{picked_by_set}
use Rattle.repo_prune.proofs.picking.pick.Goals as goal

pub returns : goal.returns
returns c = record {
  picked = IfOk-weaker c.those.result _ _ (λ (picked : Vec Name Global) is.
      let listed = c.args.listed.now in
      let names = c.args.names.now in
      let P : List Name → Type 0 = λ ns. ArePicked listed names c.args.among ns in
      subst P (sym is) (picked_by_set (λ n. contains name_cmp c.in_ok-set.set n) listed names c.args.among c.in_ok-set.ensures)) c.those.ensures;
}
