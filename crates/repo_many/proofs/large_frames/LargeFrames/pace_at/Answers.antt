use Rattle.std.proofs.Common.{rules, arith, ◌≡◌, ◌≤◌, Some, None, length, slice_get, ◌∙◌, ap}
use Rattle.repo_many.specs.declared.large_frames.LargeFrame.{LargeFrame}
use Rattle.repo_many.specs.Rooms.{index_of}
use Rattle.repo_many.proofs.Queueing.{set_apart}
use Rattle.repo_many.proofs.Rooming.{at_index, beyond, minute_place, minute_room, set_bounded}
use Rattle.repo_many.proofs.large_frames.LargeFrames.pace_at.Goals as goal

pub returns-in-Some-clause-bounded : goal.returns-in-Some-clause-bounded
returns-in-Some-clause-bounded c bounded =
    let old = c.args.self.now in
    let at : slice_get old.frames.items c.index_of-index.result ≡ Some c.in-Some.frame.now = at_index _ _ _ c.in-Some.ensures.item.3.0 c.in-Some.ensures.value in
    let same = ap (λ (f : LargeFrame). f.bytes) c.pace.ensures.minute ∙ minute_room c.is_free-is_free.result c.args.time c.in-Some.frame.now in
    set_bounded old.limit old.given c.index_of-index.result old.frames.items c.in-Some.frame.now c.pace.new.self at same bounded

pub returns-in-None-clause-slow : goal.returns-in-None-clause-slow
returns-in-None-clause-slow c =
    let fs = c.args.self.now.frames.items in
    let is : c.index_of-index.result ≡ index_of fs c.args.place = search rules in
    let far : length fs ≤ c.index_of-index.result = c.in-None.ensures.item.3 in
    let none : slice_get fs (index_of fs c.args.place) ≡ None = beyond fs (index_of fs c.args.place) (omega (arith, is, far)) in
    rw none

pub returns-in-Some-clause-apart : goal.returns-in-Some-clause-apart
returns-in-Some-clause-apart c apart =
    let at : slice_get c.args.self.now.frames.items c.index_of-index.result ≡ Some c.in-Some.frame.now = at_index _ _ _ c.in-Some.ensures.item.3.0 c.in-Some.ensures.value in
    let same = ap (λ (f : LargeFrame). f.place) c.pace.ensures.minute ∙ minute_place c.is_free-is_free.result c.args.time c.in-Some.frame.now in
    set_apart c.index_of-index.result c.args.self.now.frames.items c.in-Some.frame.now c.pace.new.self at same apart
