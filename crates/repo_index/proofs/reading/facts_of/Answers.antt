use Rattle.std.proofs.Common.{rules, ◌≡◌, ◌++◌, ◌∷◌, []}
use Rattle.std.proofs.lemmas.Result.{err_from_is_err_and}
use Rattle.repo_index.specs.IndexText.{BlobSays}
use Rattle.repo_index.specs.IndexFaults.{BlobFault}
use Rattle.repo_json.proofs.ListingLemmas.{begins_more, fault_here}
use Rattle.repo_index.proofs.reading.facts_of.Goals as goal

pub returns-in_err-fact-clause-fault : goal.returns-in_err-fact-clause-fault
returns-in_err-fact-clause-fault c =
    let p = err_from_is_err_and c.from_residual.result c.from_residual.ensures.1 in
    rw (p.1, p.2) (λ _. fault_here (BlobSays c.args.pack) (BlobFault c.in_err-fact.field-0.0) c.args.values.now c.loop-value.value-index c.value-item.result
    c.loop-value.facts.items c.loop-value-test.true c.value-item.is c.loop-value.invariant c.in_err-fact.ensures.fault)

pub loop-value-preserved : goal.loop-value-preserved
loop-value-preserved c =
    let items : c.push.new.self.items ≡ c.loop-value.facts.items ++ c.in_ok-fact.fact ∷ [] = search rules in
    rw items (begins_more (BlobSays c.args.pack) c.args.values.now c.loop-value.value-index c.value-item.result c.loop-value.facts.items c.in_ok-fact.fact
    c.loop-value-test.true c.value-item.is c.loop-value.invariant c.in_ok-fact.ensures.ok)
