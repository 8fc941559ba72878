use Rattle.std.proofs.lemmas.Result.{IfOk-weaker, on_err_weaker}
use Rattle.repo_prune.proofs.prunes.Prune.take_range.Goals as goal

pub returns-in-Walking-clause-steps : goal.returns-in-Walking-clause-steps
returns-in-Walking-clause-steps c = IfOk-weaker c.take_tree.result _ _ (λ step h pack offset len. h _ _ pack offset len c.in-Walking.is) c.take_tree.ensures.steps

pub returns-in-Walking-clause-knows : goal.returns-in-Walking-clause-knows
returns-in-Walking-clause-knows c = on_err_weaker c.take_tree.result (λ h pack offset len. h _ _ pack offset len c.in-Walking.is) c.take_tree.ensures.knows

pub returns-in-Moving-clause-steps : goal.returns-in-Moving-clause-steps
returns-in-Moving-clause-steps c = IfOk-weaker c.take_blob.result _ _ (λ step h pack offset len. h _ _ pack offset len c.in-Moving.is) c.take_blob.ensures.steps

pub returns-in-Moving-clause-knows : goal.returns-in-Moving-clause-knows
returns-in-Moving-clause-knows c = on_err_weaker c.take_blob.result (λ h pack offset len. h _ _ pack offset len c.in-Moving.is) c.take_blob.ensures.knows
