use Rattle.std.proofs.Common.{sym, subst}
use Rattle.repo_reach.specs.Joints.{IsJoint}
use Rattle.repo_reach.proofs.Looking.{on_ok, on_err}
use Rattle.repo_reach.proofs.Adding.{added_text, stayed}
use Rattle.repo_reach.proofs.trees.Trees.add.Goals as goal

pub returns-clause-walk : goal.returns-clause-walk
returns-clause-walk c = on_ok c.push.result (λ a texts text w none named reads. added_text texts text c.args.nodes.now c.args.next c.args.self.now c.push.new.self a.0 c.args.name w none named reads a.1
    (c.in_ok-links.links, a.2, c.in_ok-links.ensures, subst (IsJoint c.args.nodes.now c.args.next) (sym a.3) c.in_ok-joint.ensures) a.4) c.push.ensures.added

pub returns-clause-added : goal.returns-clause-added
returns-clause-added c = on_ok c.push.result (λ a. (a.0, a.1, (c.in_ok-links.links, a.2, c.in_ok-links.ensures, subst (IsJoint c.args.nodes.now c.args.next) (sym a.3) c.in_ok-joint.ensures), a.4)) c.push.ensures.added

pub returns-clause-err : goal.returns-clause-err
returns-clause-err c = on_err c.push.result (λ same texts w. stayed texts c.args.self.now c.push.new.self w same) c.push.ensures.same
