use Rattle.std.proofs.Common.{sym, subst}
use Rattle.std.specs.List.Sorted.{IsStrictlySortedBy}
use Rattle.repo_name.specs.Naming.{name_cmp}
use Rattle.repo_index.specs.Lookups.{ArePacksOf}
use Rattle.repo_index.proofs.PackLemmas.{same_packs_of}
use Rattle.repo_prune.proofs.Covering.{plan_covers}
use Rattle.repo_prune.proofs.Planning.{none_planned, planned_then, all_planned}
use Rattle.repo_prune.proofs.plans.Plan.of.Goals as goal

pub loop-pack-init : goal.loop-pack-init
loop-pack-init c = none_planned c.args.used.now c.args.lookup.now _ c.new.ensures.items c.new-2.ensures.items c.as_slice-names.result.now

pub loop-pack-preserved : goal.loop-pack-preserved
loop-pack-preserved c =
    planned_then c.args.used.now c.args.lookup.now c.as_slice-names.result.now c.loop-pack.pack-index _ c.loop-pack-test.true (subst (IsStrictlySortedBy name_cmp) (sym c.as_slice-names.ensures.value) c.in_ok-packs.ensures.ascend) c.loop-pack.plan c.add.new.self c.loop-pack.invariant (c.in_ok-add.ensures c.in_ok-placed.ensures)

pub returns-clause-plan : goal.returns-clause-plan
returns-clause-plan c = all_planned c.args.used.now c.args.lookup.now c.as_slice-names.result.now c.loop-pack.pack-index c.loop-pack-test.false (subst (ArePacksOf c.args.lookup.now) (sym c.as_slice-names.ensures.value) (same_packs_of c.args.lookup.now c.in_ok-placed.placed c.in_ok-packs.packs c.in_ok-placed.ensures c.in_ok-packs.ensures)) c.loop-pack.plan c.loop-pack.invariant

pub returns-clause-covers : goal.returns-clause-covers
returns-clause-covers c = plan_covers c.args.used.now c.args.lookup.now c.loop-pack.plan (all_planned c.args.used.now c.args.lookup.now c.as_slice-names.result.now c.loop-pack.pack-index c.loop-pack-test.false (subst (ArePacksOf c.args.lookup.now) (sym c.as_slice-names.ensures.value) (same_packs_of c.args.lookup.now c.in_ok-placed.placed c.in_ok-packs.packs c.in_ok-placed.ensures c.in_ok-packs.ensures)) c.loop-pack.plan c.loop-pack.invariant)
