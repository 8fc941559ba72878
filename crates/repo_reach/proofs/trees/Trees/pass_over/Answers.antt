use Rattle.std.proofs.Common.{ap, ◌∙◌}
use Rattle.repo_reach.specs.declared.joints.Joint.{Joint}
use Rattle.repo_reach.proofs.Looking.{on_ok, on_err}
use Rattle.repo_reach.proofs.Adding.{added_none, stayed}
use Rattle.repo_reach.proofs.trees.Trees.pass_over.Goals as goal

pub returns-clause-walk : goal.returns-clause-walk
returns-clause-walk c = on_ok c.push.result (λ a texts w none. added_none texts c.args.self.now c.push.new.self a.0 c.args.name w none a.1 (a.2, ap (λ (j : Joint). j.next) (a.3 ∙ c.none.ensures)) a.4) c.push.ensures.added

pub returns-clause-added : goal.returns-clause-added
returns-clause-added c = on_ok c.push.result (λ a. (a.0, a.1, (a.2, ap (λ (j : Joint). j.next) (a.3 ∙ c.none.ensures)), a.4)) c.push.ensures.added

pub returns-clause-err : goal.returns-clause-err
returns-clause-err c = on_err c.push.result (λ same texts w. stayed texts c.args.self.now c.push.new.self w same) c.push.ensures.same
