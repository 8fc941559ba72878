use Rattle.std.proofs.Common.{rules, ◌≡◌, ◌<◌, ℕ, List, length, sym, subst}
use Rattle.repo_many.specs.declared.large_frames.LargeFrame.{LargeFrame}
use Rattle.repo_many.specs.Rooms.{AreBounded, given_to, queued}
use Rattle.repo_many.proofs.Rooming.{given_bounded, queued_bounded}
use Rattle.repo_many.proofs.Queueing.{queued_apart}
use Rattle.repo_many.proofs.large_frames.LargeFrames.room_for.Goals as goal

pub returns-then-index-self-clause-bounded : goal.returns-then-index-self-clause-bounded
returns-then-index-self-clause-bounded c bounded =
    let old = c.args.self.now in
    let mid = c.enqueue.new.self in
    let e = c.in_ok-index.ensures in
    let more = queued_bounded old.limit old.given old.frames.items c.args.frame bounded in
    let same : mid.frames.items ≡ queued old.frames.items c.args.frame = search rules in
    let asked : AreBounded old.limit mid.frames.items old.given = subst (λ (fs : List LargeFrame). AreBounded old.limit fs old.given) (sym same) more in
    let less : c.in_ok-index.index < length mid.frames.items = search rules in
    let given = given_bounded old.limit old.given c.in_ok-index.index mid.frames.items less asked in
    let limit : c.admit.new.self.limit ≡ old.limit = search rules in
    let frames : c.admit.new.self.frames.items ≡ mid.frames.items = search rules in
    let is : c.admit.new.self.given ≡ given_to old.limit mid.frames.items old.given c.in_ok-index.index = search rules in
    subst (λ (n : ℕ). AreBounded c.admit.new.self.limit c.admit.new.self.frames.items n) (sym is)
    (subst (λ (fs : List LargeFrame). AreBounded c.admit.new.self.limit fs (given_to old.limit mid.frames.items old.given c.in_ok-index.index)) (sym frames)
    (subst (λ (n : ℕ). AreBounded n mid.frames.items (given_to old.limit mid.frames.items old.given c.in_ok-index.index)) (sym limit) given))

pub returns-then-index-self-clause-apart : goal.returns-then-index-self-clause-apart
returns-then-index-self-clause-apart c apart =
    let same : c.enqueue.new.self.frames.items ≡ queued c.args.self.now.frames.items c.args.frame = search rules in
    rw c.admit.ensures.frames (rw same (queued_apart c.args.self.now.frames.items c.args.frame apart))

pub returns-else-index-self-clause-apart : goal.returns-else-index-self-clause-apart
returns-else-index-self-clause-apart c apart =
    let same : c.enqueue.new.self.frames.items ≡ queued c.args.self.now.frames.items c.args.frame = search rules in
    rw c.admit.ensures.frames (rw same (queued_apart c.args.self.now.frames.items c.args.frame apart))
