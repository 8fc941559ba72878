use Rattle.std.proofs.Common.{◌+◌}
use Rattle.std.proofs.lemmas.Option.{slice_get-get_or}
use Rattle.repo_restore.proofs.Summing.{sums_next, lacks_first}
use Rattle.repo_restore.proofs.nodes.check_file.Goals as goal

pub loop-name-preserved : goal.loop-name-preserved
loop-name-preserved c =
    let so = c.loop-name.invariant in (
      so.0 + c.in-Some.place.length,
      sums_next c.args.lookup.now c.args.content.now so.0 c.loop-name.name-index _ c.in-Some.place c.loop-name-test.true so.1 c.in-Some.ensures.found,
      c.take_away-left.ensures c.args.size so.0 so.2,
    )

pub returns-in_default : goal.returns-in_default
returns-in_default c =
    let so = c.loop-name.invariant in
    lacks_first c.args.lookup.now c.args.content.now so.0 c.loop-name.name-index _ so.1 (slice_get-get_or c.args.content.now c.loop-name.name-index _ c.loop-name-test.true) c.in_default.ensures.none
