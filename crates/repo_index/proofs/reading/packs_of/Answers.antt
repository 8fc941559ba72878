use Rattle.std.proofs.Common.{rules, ◌≡◌, ◌++◌, ◌∷◌, []}
use Rattle.std.proofs.lemmas.Result.{err_from_is_err_and}
use Rattle.repo_index.specs.IndexText.{PackLists}
use Rattle.repo_index.specs.IndexFaults.{PackFault}
use Rattle.repo_json.proofs.ListingLemmas.{begins_more, fault_here}
use Rattle.repo_index.proofs.reading.packs_of.Goals as goal

pub returns-in_err-pack-clause-fault : goal.returns-in_err-pack-clause-fault
returns-in_err-pack-clause-fault c =
    let p = err_from_is_err_and c.from_residual.result c.from_residual.ensures.1 in
    rw (p.1, p.2) (λ other. fault_here PackLists (PackFault c.in_err-pack.field-0.0) c.args.values.now c.loop-value.value-index c.value-item.result
    c.loop-value.packs.items c.loop-value-test.true c.value-item.is c.loop-value.invariant (c.in_err-pack.ensures.fault other))

pub loop-value-preserved : goal.loop-value-preserved
loop-value-preserved c =
    let items : c.push.new.self.items ≡ c.loop-value.packs.items ++ c.in_ok-pack.pack ∷ [] = search rules in
    rw items (begins_more PackLists c.args.values.now c.loop-value.value-index c.value-item.result c.loop-value.packs.items c.in_ok-pack.pack
    c.loop-value-test.true c.value-item.is c.loop-value.invariant c.in_ok-pack.ensures.ok)
