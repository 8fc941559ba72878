use Rattle.std.proofs.Common.{◌++◌, ◌∷◌, []}
use Rattle.repo_index.specs.IndexText.{IsNameText}
use Rattle.repo_json.proofs.ListingLemmas.{begins_more}
use Rattle.repo_index.proofs.reading.check_names.Goals as goal

pub loop-value-preserved : goal.loop-value-preserved
loop-value-preserved c =
    let names = c.loop-value.invariant.0 in
    let name = c.in_ok-check_name.ensures.ok in (
      names ++ name.0 ∷ [],
      begins_more IsNameText c.args.values.now c.loop-value.value-index c.value-item.result names name.0
          c.loop-value-test.true c.value-item.is c.loop-value.invariant.1 name.1,
    )
