use Rattle.std.proofs.Common.{arith, inl, inr, subst, Contains}
use Rattle.repo_index.specs.Lookups.{Joins}
use Rattle.repo_index.specs.declared.facts.Fact.{Fact}
use Rattle.repo_name.proofs.Containing.{none_contained}
use Rattle.repo_check.specs.Gathering.{facts_noted}
use Rattle.repo_check.proofs.Gatherings.{gathers_all, gathers_next}
use Rattle.repo_check.proofs.gathering.lookup_of.Goals as goal

pub loop-note-preserved : goal.loop-note-preserved
loop-note-preserved c =
    let old = c.loop-note.lookup in
    let new = c.add_facts.new.lookup in
    gathers_next facts_noted c.args.notes.now c.loop-note.note-index c.note-item.result c.loop-note-test.true (λ (fact : Fact). Contains old fact) (λ (fact : Fact). Contains new fact)
    (subst (λ note. Joins old (facts_noted note) new) c.note-item.is c.in_ok-add_facts.ensures) c.loop-note.invariant

pub returns : goal.returns
returns c = λ fact.
    let stop = c.loop-note-test.false in
    let all = gathers_all facts_noted c.args.notes.now c.loop-note.note-index (omega (arith, stop)) (λ (f : Fact). Contains c.loop-note.lookup f) c.loop-note.invariant fact in
    (λ is. inr (all.0 is), λ h. all.1 (elim h [ inl none ↦ absurd (none_contained fact none) | inr there ↦ there ]))
