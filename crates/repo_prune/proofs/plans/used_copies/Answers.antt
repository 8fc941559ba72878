use Rattle.std.proofs.Common.{Vec, Global, ap, ◌∙◌}
use Rattle.repo_prune.proofs.Planning.{copy_then, none_then, at_contained}
use Rattle.repo_index.specs.declared.facts.Fact.{Fact}
use Rattle.repo_prune.proofs.plans.used_copies.Goals as goal
use Rattle.repo_prune.proofs.plans.used_copies.Goals.{then-is_used_copy+in_ok-push, else-is_used_copy}

pub loop-fact-preserved : goal.loop-fact-preserved
loop-fact-preserved c = λ all.
    let own = c.args.own.now in
    let i = c.loop-fact.fact-index in
    let within = c.loop-fact-test.true in
    let before = c.loop-fact.invariant all in
    let is = c.is_used_copy.ensures (all _ (at_contained own i _ within)) in
    elim c.if-is_used_copy.branch [
      | then-is_used_copy+in_ok-push w ↦ copy_then c.args.used.now c.args.lookup.now own c.loop-fact.copies.items i _ within before (is.0 w.if-is_used_copy.true) _ (ap (λ (v : Vec Fact Global). v.items) w.copies-is ∙ w.in_ok-push.ensures.items)
      | else-is_used_copy w ↦ none_then c.args.used.now c.args.lookup.now own c.loop-fact.copies.items i _ within before (λ copy. let yes = is.1 copy in let no = w.if-is_used_copy.false in absurd (cc)) _ (ap (λ (v : Vec Fact Global). v.items) w.copies-is)
    ]
