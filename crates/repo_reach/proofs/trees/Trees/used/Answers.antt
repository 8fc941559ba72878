use Rattle.std.proofs.Common.{◌↔◌, List, subst}
use Rattle.repo_name.specs.declared.kinds.BlobKind.{BlobKind}
use Rattle.repo_name.specs.declared.names.Name.{Name}
use Rattle.repo_reach.specs.Laws.{IsUsed}
use Rattle.repo_reach.specs.Used.{UsedHasPair, HaveJoined}
use Rattle.repo_reach.specs.declared.looks.Seen.{Seen}
use Rattle.repo_reach.proofs.Using.{none_given, then_joined, all_used}
use Rattle.repo_reach.proofs.trees.Trees.used.Goals as goal

pub loop-seen-init : goal.loop-seen-init
loop-seen-init c = none_given _ c.new.ensures.empty c.new-2.ensures.empty c.as_slice-all.result.now

pub loop-seen-preserved : goal.loop-seen-preserved
loop-seen-preserved c =
    then_joined c.as_slice-all.result.now c.loop-seen.seen-index c.seen-item.result c.loop-seen-test.true c.loop-seen.used c.add.new.self (subst (λ (s : Seen). HaveJoined c.loop-seen.used s c.add.new.self) c.seen-item.is c.in_ok-add.ensures) c.loop-seen.invariant

pub returns : goal.returns
returns c = subst (λ (all : List Seen). (k : BlobKind) (n : Name) → UsedHasPair c.loop-seen.used k n ↔ IsUsed all k n) c.as_slice-all.ensures.value (all_used c.as_slice-all.result.now c.loop-seen.seen-index c.loop-seen-test.false c.loop-seen.used c.loop-seen.invariant)
