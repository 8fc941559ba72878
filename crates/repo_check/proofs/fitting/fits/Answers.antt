use Rattle.std.proofs.Common.{IsTrue, IsFalse, List, [], Contains, subst}
use Rattle.repo_name.specs.declared.names.Name.{Name}
use Rattle.repo_index.specs.IndexText.{facts_in}
use Rattle.repo_index.specs.Lookups.{Joins}
use Rattle.repo_index.specs.declared.facts.Fact.{Fact}
use Rattle.repo_index.proofs.LookupLemmas.{joins_same}
use Rattle.repo_check.specs.Fitting.{ListsAsKnown, ListsOtherwise, Fits, Misfits, facts_by}
use Rattle.repo_check.specs.Rounds.{round_of}
use Rattle.repo_check.proofs.Arriving.{ok_then}
use Rattle.repo_check.proofs.Fittings.{fits_by, misfits_by}
use Rattle.repo_check.proofs.fitting.fits.Goals as goal

pub returns-clause-yes : goal.returns-clause-yes
returns-clause-yes c = λ ascend.
    let packs = facts_by (round_of c.args.packs.now) in
    ok_then _ (λ is. IsTrue is → Fits c.args.text.now packs) c.all_as_known.result
    (λ is all yes. fits_by c.args.text.now packs c.in_ok-own.own c.in_ok-names.names (joins_same [] (facts_in c.args.text.now) c.add.new.self c.in_ok-own.own (subst (λ (base : List Fact). Joins base (facts_in c.args.text.now) c.add.new.self) c.new-facts.ensures c.in_ok-add.ensures.ok) c.in_ok-own.ensures) c.in_ok-names.ensures (subst (λ (ns : List Name). (pack : Name) → Contains ns pack → ListsAsKnown c.in_ok-own.own packs pack) c.as_slice.ensures.value (all yes))) (c.all_as_known.ensures.yes ascend)

pub returns-clause-no : goal.returns-clause-no
returns-clause-no c = λ ascend.
    let packs = facts_by (round_of c.args.packs.now) in
    ok_then _ (λ is. IsFalse is → Misfits c.args.text.now packs) c.all_as_known.result
    (λ is all other. misfits_by c.args.text.now packs c.in_ok-own.own c.in_ok-names.names (joins_same [] (facts_in c.args.text.now) c.add.new.self c.in_ok-own.own (subst (λ (base : List Fact). Joins base (facts_in c.args.text.now) c.add.new.self) c.new-facts.ensures c.in_ok-add.ensures.ok) c.in_ok-own.ensures) c.in_ok-names.ensures (subst (λ (ns : List Name). (pack : Name) × Contains ns pack × ListsOtherwise c.in_ok-own.own packs pack) c.as_slice.ensures.value (all other))) (c.all_as_known.ensures.no ascend)
