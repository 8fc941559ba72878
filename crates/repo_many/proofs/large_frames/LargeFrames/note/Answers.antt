use Rattle.std.proofs.Common.{◌≡◌, Some, slice_get, refl}
use Rattle.repo_many.proofs.Rooming.{at_index, set_bounded}
use Rattle.repo_many.proofs.Queueing.{set_apart}
use Rattle.repo_many.proofs.large_frames.LargeFrames.note.Goals as goal

pub returns-in-Some-clause-bounded : goal.returns-in-Some-clause-bounded
returns-in-Some-clause-bounded c bounded =
    let old = c.args.self.now in
    let at : slice_get old.frames.items c.index_of-index.result ≡ Some c.in-Some.frame.now = at_index _ _ _ c.in-Some.ensures.item.3.0 c.in-Some.ensures.value in
    set_bounded old.limit old.given c.index_of-index.result old.frames.items c.in-Some.frame.now _ at refl bounded

pub returns-in-Some-clause-apart : goal.returns-in-Some-clause-apart
returns-in-Some-clause-apart c apart =
    let at : slice_get c.args.self.now.frames.items c.index_of-index.result ≡ Some c.in-Some.frame.now = at_index _ _ _ c.in-Some.ensures.item.3.0 c.in-Some.ensures.value in
    set_apart c.index_of-index.result c.args.self.now.frames.items c.in-Some.frame.now _ at refl apart
