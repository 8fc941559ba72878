use Rattle.std.proofs.Common.{◌∙◌}
use Rattle.repo_reach.proofs.Looking.{waiting_due, walk_popped, waits_within, is_no}
use Rattle.repo_reach.proofs.trees.Trees.next_waiting.Goals as goal

pub returns-then-not-is_looked-clause-due : goal.returns-then-not-is_looked-clause-due
returns-then-not-is_looked-clause-due c = λ texts w.
    let next = c.in-Some.ensures.some in
    let now = c.loop-visit.invariant.1 texts w in
    waiting_due texts _ next.0 c.in-Some.visit now next.1 (λ l. (let yes = (c.is_looked.ensures.looked texts now (waits_within texts _ next.0 c.in-Some.visit now next.1)).1 l in let no = c.if-not-is_looked.true in absurd (cc)))

pub returns-then-not-is_looked-clause-left : goal.returns-then-not-is_looked-clause-left
returns-then-not-is_looked-clause-left c = c.is_looked.ensures.left (is_no _ c.if-not-is_looked.true)

pub loop-visit-preserved : goal.loop-visit-preserved
loop-visit-preserved c =
    let inv = c.loop-visit.invariant in
    let next = c.in-Some.ensures.some in
    let same = c.drop_top.ensures.kept in (
      record { seen = same.seen ∙ inv.0.seen; places = same.places ∙ inv.0.places; roots = same.roots ∙ inv.0.roots },
      λ texts w.
          let old = inv.1 texts w in
          let looked = (c.is_looked.ensures.looked texts old (waits_within texts _ next.0 c.in-Some.visit old next.1)).0 c.if-not-is_looked.false in
          walk_popped texts c.loop-visit.self _ next.0 c.in-Some.visit old next.1 looked same c.drop_top.ensures.root (c.drop_top.ensures.waiting next.0 c.in-Some.visit next.1),
    )
