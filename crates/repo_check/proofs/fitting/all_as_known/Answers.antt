use Rattle.std.proofs.Common.{[]}
use Rattle.repo_name.specs.declared.names.Name.{Name}
use Rattle.repo_check.specs.Fitting.{ListsAsKnown, facts_by}
use Rattle.repo_check.specs.Rounds.{round_of}
use Rattle.repo_check.proofs.Measuring.{left_each}
use Rattle.repo_check.proofs.fitting.all_as_known.Goals as goal

pub loop-pack-preserved : goal.loop-pack-preserved
loop-pack-preserved c = λ ascend rest.
    let no_name : Name = record { 0 = [] } in
    c.loop-pack.invariant ascend (left_each (λ pack. ListsAsKnown c.args.own.now (facts_by (round_of c.args.packs.now)) pack) c.args.names.now c.loop-pack.pack-index no_name c.loop-pack-test.true
    (c.in_ok-lists_as_known.ensures.yes ascend c.if-not-branch.false) rest)
