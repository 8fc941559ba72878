use Rattle.std.proofs.Common.{rules, ◌≡◌, ◌<◌, ◌-◌, List, length, sym, subst}
use Rattle.std.specs.List.{remove}
use Rattle.repo_many.specs.declared.large_frames.LargeFrame.{LargeFrame}
use Rattle.repo_many.specs.Rooms.{AreApart, AreBounded}
use Rattle.repo_many.proofs.Queueing.{removed_apart}
use Rattle.repo_many.proofs.Rooming.{gone_bounded, left_bounded}
use Rattle.repo_many.proofs.large_frames.LargeFrames.leave.Goals as goal

pub returns-then-index-self-clause-bounded : goal.returns-then-index-self-clause-bounded
returns-then-index-self-clause-bounded c bounded =
    let old = c.args.self.now in
    let i = c.index_of-index.result in
    let same : c.remove.new.self.items ≡ remove old.frames.items i = c.remove.ensures.items in
    let less : i < length old.frames.items = search rules in
    subst (λ (fs : List LargeFrame). AreBounded old.limit fs (old.given - 1)) (sym same) (left_bounded old.limit old.given i old.frames.items less c.if-index-self.true bounded)

pub returns-else-index-self-clause-bounded : goal.returns-else-index-self-clause-bounded
returns-else-index-self-clause-bounded c bounded =
    let old = c.args.self.now in
    let i = c.index_of-index.result in
    let same : c.remove.new.self.items ≡ remove old.frames.items i = c.remove.ensures.items in
    let less : i < length old.frames.items = search rules in
    subst (λ (fs : List LargeFrame). AreBounded old.limit fs old.given) (sym same) (gone_bounded old.limit old.given i old.frames.items c.if-index-self.false less bounded)

pub returns-then-index-self-clause-apart : goal.returns-then-index-self-clause-apart
returns-then-index-self-clause-apart c apart = subst (λ (fs : List LargeFrame). AreApart fs) (sym c.remove.ensures.items) (removed_apart c.index_of-index.result c.args.self.now.frames.items apart)

pub returns-else-index-self-clause-apart : goal.returns-else-index-self-clause-apart
returns-else-index-self-clause-apart c apart = subst (λ (fs : List LargeFrame). AreApart fs) (sym c.remove.ensures.items) (removed_apart c.index_of-index.result c.args.self.now.frames.items apart)
