use Rattle.std.proofs.Common.{List, refl, subst, sym}
use Rattle.repo_wire.specs.declared.messages.Say.{Say}
use Rattle.repo_tree.specs.declared.nodes.Node.{Node}
use Rattle.repo_reach.specs.Joints.{SaysNext}
use Rattle.repo_reach.proofs.Reading.{says_tree}
use Rattle.repo_check.specs.Answers.{Gathered}
use Rattle.repo_check.specs.Keeping.{Keeps}
use Rattle.repo_check.specs.Measures.{AreGivenFacts, Judges}
use Rattle.repo_check.proofs.Arriving.{with_bytes}
use Rattle.repo_check.proofs.Measuring.{judged}
use Rattle.repo_check.proofs.TreeLooks.{tree_unread}
use Rattle.repo_check.proofs.trees.look_at_text.Goals as goal

pub returns-in_ok-kept-in-Ok : goal.returns-in_ok-kept-in-Ok
returns-in_ok-kept-in-Ok c =
    let x = c.args.bytes.now in
    let n = c.args.fact.name in
    let nodes = c.in-Ok.nodes.items in
    let next = c.in-Ok.next in
    let kept = c.in_ok-kept-in-Ok.kept in
    let keeps = subst (λ (ns : List Node). Keeps ns next kept) c.as_slice.ensures.value c.in_ok-kept-in-Ok.ensures in
    let says = c.in-Ok.ensures.ok in (
      with_bytes n x,
      (refl, refl),
      record {
        bytes = x;
        nodes = nodes;
        has = (refl, c.requires);
        tree = says_tree x nodes next says;
        lead = keeps.lead;
        says = subst (λ m. SaysNext x nodes m) (sym keeps.joint.next_is) says;
        ends = keeps.joint.ends;
        judged = let P : List Node → Type 0 = λ ns. (answers : Gathered) → AreGivenFacts answers c.args.lookup.now → Judges answers c.args.fact.place x ns c.has_lengths-right.result in
            subst P c.as_slice-in-Ok.ensures.value (judged c.args.lookup.now c.args.fact.place x c.as_slice-in-Ok.result.now c.has_lengths-right.result c.has_lengths-right.ensures.has c.has_lengths-right.ensures.lacks);
      },
    )

pub returns-in_ok-check_fault-in-Err : goal.returns-in_ok-check_fault-in-Err
returns-in_ok-check_fault-in-Err c =
    tree_unread c.args.fact c.args.bytes.now (Say.Bytes c.args.bytes.now) refl c.requires (λ nodes tree. c.in-Err.ensures.none c.in_ok-check_fault-in-Err.ensures.fault nodes tree)
