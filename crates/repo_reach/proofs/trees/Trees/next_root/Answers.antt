use Rattle.std.proofs.Common.{arith, subst}
use Rattle.repo_reach.specs.Walks.{IsLooked}
use Rattle.repo_reach.proofs.Looking.{root_due, counted, is_no}
use Rattle.repo_reach.proofs.trees.Trees.next_root.Goals as goal

pub returns-then-not-is_looked-clause-due : goal.returns-then-not-is_looked-clause-due
returns-then-not-is_looked-clause-due c = λ texts w.
    let next = c.in-Some.ensures.some in
    let top = next.depth in
    root_due texts _ c.in-Some.visit next (λ l. (let yes = (c.is_looked.ensures.looked texts (c.loop-visit.invariant.2 texts w) (omega (arith, top))).1 l in let no = c.if-not-is_looked.true in absurd (cc)))

pub returns-then-not-is_looked-clause-left : goal.returns-then-not-is_looked-clause-left
returns-then-not-is_looked-clause-left c = c.is_looked.ensures.left (is_no _ c.if-not-is_looked.true)

pub loop-visit-preserved : goal.loop-visit-preserved
loop-visit-preserved c =
    let s = c.loop-visit.self in
    let inv = c.loop-visit.invariant in
    let next = c.in-Some.ensures.some in (
      record { seen = inv.0.seen; places = inv.0.places; roots = inv.0.roots },
      inv.1,
      λ texts w.
          let old = inv.2 texts w in
          let top = next.depth in
          let looked = (c.is_looked.ensures.looked texts old (omega (arith, top))).0 c.if-not-is_looked.false in
          record { seen = old.seen; places = old.places; met = counted texts s.roots.items s.root s.seen.items s.waiting.items (record { tree = c.in-Some.visit.tree; follows = c.in-Some.visit.follows }) next.next (subst (λ d. IsLooked s.seen.items c.in-Some.visit.tree c.in-Some.visit.follows d) top looked) old.met },
    )
