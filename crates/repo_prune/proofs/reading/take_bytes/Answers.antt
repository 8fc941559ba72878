use Rattle.std.proofs.Common.{sym, subst}
use Rattle.std.proofs.lemmas.Result.{IfOk-weaker}
use Rattle.repo_reach.specs.Joints.{SaysNext}
use Rattle.repo_prune.proofs.TreeReading.{no_tree}
use Rattle.repo_prune.proofs.reading.take_bytes.Goals as goal

pub returns-in-Ok-clause-on : goal.returns-in-Ok-clause-on
returns-in-Ok-clause-on c = IfOk-weaker c.add_tree.result _ _ (λ walked on texts fact a is named. on texts fact c.args.bytes.now a is named (subst (λ ns. SaysNext c.args.bytes.now ns c.in-Ok.next) (sym c.as_slice.ensures.value) c.in-Ok.ensures.ok)) c.add_tree.ensures.on

pub returns-in_ok-check_fault-in-Err-clause-on : goal.returns-in_ok-check_fault-in-Err-clause-on
returns-in_ok-check_fault-in-Err-clause-on c = λ texts fact a is named.
    rw c.bad_tree.ensures (no_tree c.args.lookup.now texts c.args.trees.now fact c.args.name c.args.bytes.now a is named (c.in-Err.ensures.none c.in_ok-check_fault-in-Err.ensures.fault))
