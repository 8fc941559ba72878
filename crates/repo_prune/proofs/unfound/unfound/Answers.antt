use Rattle.std.proofs.Common.{refl}
use Rattle.repo_prune.proofs.Finding.{trees_more, trees_all, all_given}
use Rattle.repo_prune.proofs.unfound.unfound.Goals as goal

pub loop-seen-preserved : goal.loop-seen-preserved
loop-seen-preserved c =
    trees_more c.args.lookup.now c.args.used.now c.args.all.now c.loop-seen.seen-index c.seen-item.result c.loop-seen-test.true c.seen-item.is c.content_of.result.now c.content_of.ensures (c.in_default.ensures.none refl) c.loop-seen.invariant

pub returns-clause-none : goal.returns-clause-none
returns-clause-none c = λ _ found are k n h.
    let given = trees_all c.args.lookup.now c.args.used.now c.args.all.now c.loop-seen.seen-index c.loop-seen-test.false c.loop-seen.invariant in
    all_given c.args.lookup.now c.args.used.now c.args.all.now given found are k n h
