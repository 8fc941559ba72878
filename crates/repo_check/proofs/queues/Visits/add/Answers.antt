use Rattle.std.proofs.Common.{arith, ◌≡◌, ◌<◌, length, OnOk, subst, Contains}
use Rattle.repo_check.specs.Visiting.{AddsVisit}
use Rattle.repo_check.specs.inner.Placing.{GivesPlace, slot_of}
use Rattle.repo_check.proofs.Queueing.{after_push, index_added, index_kept, pushed}
use Rattle.repo_check.proofs.queues.Visits.add.Goals as goal

pub invariant_of-self-in_err-put_place : goal.invariant_of-self-in_err-put_place
invariant_of-self-in_err-put_place c =
    let fresh : Contains c.self.inside.list.items c.args.visit → ⊥ = λ h. (let yes = c.has.ensures.1 (subst (λ vs. Contains vs c.args.visit) c.self.view_is h) in let no = c.if-has.false in absurd (cc (yes, no))) in
    index_kept c.self.inside.index.items c.make_room.new.index.items c.put_place.new.index.items c.self.inside.list.items c.args.visit c.self.invariant fresh c.make_room.ensures.kept c.put_place.ensures.kept

pub invariant_of-self-2 : goal.invariant_of-self-2
invariant_of-self-2 c =
    let list = c.self.inside.list.items in
    let index = c.self.inside.index.items in
    let mid = c.make_room.new.index.items in
    let new = c.put_place.new.index.items in
    let fresh : Contains list c.args.visit → ⊥ = λ h. (let yes = c.has.ensures.1 (subst (λ vs. Contains vs c.args.visit) c.self.view_is h) in let no = c.if-has.false in absurd (cc (yes, no))) in
    let ok = c.self.inside.list.ok in
    let count = c.len.ensures in
    let long : c.len.result ≡ length list = omega (arith, ok, count) in
    let room : slot_of c.args.visit < length mid = subst (λ s. s < length mid) c.slot_of.ensures c.in_ok-make_room.ensures.room in
    let put : GivesPlace new (slot_of c.args.visit) c.args.visit.tree (length list) = subst (λ k. GivesPlace new (slot_of c.args.visit) c.args.visit.tree k) long (c.in_ok-put_place.ensures.put room) in
    after_push c.push.result new list c.push.new.list.items c.args.visit c.push.ensures.ok c.push.ensures.err
    (index_kept index mid new list c.args.visit c.self.invariant fresh c.make_room.ensures.kept c.put_place.ensures.kept)
    (index_added index mid new list c.args.visit c.self.invariant fresh c.make_room.ensures.kept c.put_place.ensures.kept put)

pub returns-clause-ok : goal.returns-clause-ok
returns-clause-ok c = subst (λ vs. OnOk c.push.result (AddsVisit vs c.args.visit c.push.new.list.items)) c.self.view_is (pushed c.push.result c.self.inside.list.items c.push.new.list.items c.args.visit c.push.ensures.ok)
