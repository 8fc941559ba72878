use Rattle.std.proofs.Common.{Vec, Global, sym, subst}
use Rattle.std.proofs.lemmas.Result.{IfOk-weaker}
use Rattle.repo_name.specs.declared.names.Name.{Name}
use Rattle.repo_prune.specs.declared.choices.Choice.{Choice}
use Rattle.repo_prune.specs.Forgetting.{AreChosenOf}
use Rattle.repo_prune.proofs.Picks.{chosen_by_names, chosen_by_policy}
use Rattle.repo_prune.proofs.picking.chosen.Goals as goal

pub returns-in-Names : goal.returns-in-Names
returns-in-Names c = record {
  chosen = IfOk-weaker c.pick.result _ _ (λ (picked : Vec Name Global) h.
      let rows = c.args.rows.now in
      let listed = c.args.listed.now in
      let C : Choice → Type 0 = λ choice. AreChosenOf choice rows listed picked.items in
      subst C (sym c.in-Names.is) (chosen_by_names c.in-Names.names rows listed picked.items (rw c.as_slice.ensures.value at h))) c.pick.ensures.picked;
}

pub returns-in_ok-kept-in-Keep : goal.returns-in_ok-kept-in-Keep
returns-in_ok-kept-in-Keep c = record {
  chosen = IfOk-weaker c.pick-in-Keep.result _ _ (λ (picked : Vec Name Global) h.
      let rows = c.args.rows.now in
      let listed = c.args.listed.now in
      let kept = c.in_ok-kept-in-Keep.kept.items in
      let C : Choice → Type 0 = λ choice. AreChosenOf choice rows listed picked.items in
      subst C (sym c.in-Keep.is) (chosen_by_policy c.in-Keep.policy rows kept listed picked.items c.in_ok-kept-in-Keep.ensures.kept (rw c.as_slice-in-Keep.ensures.value at h))) c.pick-in-Keep.ensures.picked;
}
