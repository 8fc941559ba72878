use Rattle.std.proofs.Common.{Vec, Global, false}
use Rattle.std.proofs.lemmas.Result.{IfOk-weaker}
use Rattle.repo_name.specs.declared.names.Name.{Name}
use Rattle.repo_prune.specs.inner.Picking.{ArePicked}
use Rattle.repo_prune.proofs.Hosts.{chosen_by_host}
use Rattle.repo_prune.proofs.picking.chosen_of.Goals as goal

pub returns : goal.returns
returns c =
    let listed = c.args.listed.now in
    let kept = c.in_ok-kept.kept.items in
    let gone = c.in_ok-gone.gone.items in
    let others = c.in_ok-others.others.items in
    let first : ArePicked listed kept false gone = rw c.as_slice.ensures.value at c.in_ok-gone.ensures.picked in
    record {
      chosen = IfOk-weaker c.pick-2.result _ _ (λ (picked : Vec Name Global) h.
          let one = rw c.as_slice-2.ensures.value at h in
          let last : ArePicked gone others false picked.items = rw c.as_slice-3.ensures.value at one in
          chosen_by_host c.args.host.now c.args.policy.now c.args.rows.now kept others listed gone picked.items c.in_ok-kept.ensures.kept c.in_ok-others.ensures.others first last) c.pick-2.ensures.picked;
    }
