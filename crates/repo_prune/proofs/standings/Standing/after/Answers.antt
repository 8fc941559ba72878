use Rattle.std.proofs.Common.{arith, rules, ◌≡◌, Some, Option, slice_get, refl, subst}
use Rattle.repo_prune.specs.declared.standings.Standing.{Standing}
use Rattle.repo_prune.specs.inner.Walks.{RowsBefore}
use Rattle.repo_prune.proofs.Going.{apart, first_stands, next_stands}
use Rattle.repo_prune.proofs.standings.Standing.after.Goals as goal

pub returns-then-eq : goal.returns-then-eq
returns-then-eq c = λ rows place descends here before.
    let m = c.args.row.now in
    let s = c.in-Some.before in
    let stood = subst (λ (b : Option Standing). RowsBefore rows place b) c.in-Some.is before in
    next_stands rows descends place m here stood.0 stood.1 s.row.now s stood.2 (search rules) c.next.result c.next.ensures.row refl c.next.ensures.goes

pub returns-else-eq : goal.returns-else-eq
returns-else-eq c = λ rows place descends here before.
    let m = c.args.row.now in
    let s = c.in-Some.before in
    let stood = subst (λ (b : Option Standing). RowsBefore rows place b) c.in-Some.is before in
    let counts = c.first.ensures.counts in
    first_stands rows descends place m here (λ j r q less. apart rows descends stood.0 s.row.now m stood.2.here (subst (λ i. slice_get rows i ≡ Some m) stood.1 here) (search rules) j r q (omega (arith, less, stood.1)))
    c.first.result c.first.ensures.row counts.0 counts.1 counts.2 counts.3

pub returns-in-None : goal.returns-in-None
returns-in-None c = λ rows place descends here before.
    let m = c.args.row.now in
    let none = subst (λ (b : Option Standing). RowsBefore rows place b) c.in-None.is before in
    let counts = c.first-in-None.ensures.counts in
    first_stands rows descends place m here (λ j r q less. absurd (omega (arith, less, none))) c.first-in-None.result c.first-in-None.ensures.row counts.0 counts.1 counts.2 counts.3
