use Rattle.std.proofs.Common.{arith, ◌≡◌, ◌<◌, ◌-◌, Some, None, [], length, refl, sym, ap, subst, ◌∙◌}
use Rattle.repo_backup.specs.BackupStates.{GoesSo}
use Rattle.repo_backup.specs.Items.{fed_of, size_of}
use Rattle.repo_backup.specs.Pieces.{WorkTakes, LeavesPacked, LeavesRoom, sealing_at}
use Rattle.repo_backup.specs.Plans.{left_fed, behind, before}
use Rattle.repo_backup.specs.declared.piece_works.Took.{Took}
use Rattle.repo_backup.specs.declared.walks.Went.{Went}
use Rattle.repo_backup.proofs.BackupStepping.{went_on, went_pack, went_large, went_wrong, went_nowhere, way_ready}
use Rattle.repo_backup.proofs.StepFeeding.{less_left}
use Rattle.repo_backup.proofs.walks.feed_next.Goals as goal

pub returns-then-not-is_ready-clause-ok : goal.returns-then-not-is_ready-clause-ok
returns-then-not-is_ready-clause-ok c =
    way_ready c.args.lookup.now c.args.steps.now c.args.position.now c.args.work.now (left_fed c.args.position.now c.args.steps.now) c.requires.going c.requires.unlaid
    (λ ready. (let yes = c.is_ready.ensures.1 ready in let no = c.if-not-is_ready.true in absurd (cc)))

pub returns-in-Some-clause-ok : goal.returns-in-Some-clause-ok
returns-in-Some-clause-ok c =
    let item = c.next_item.result.0 in
    let p = c.args.position.now in
    let steps = c.args.steps.now in
    let old = c.args.work.now in
    let new = c.feed.new.self in
    let facts = c.args.lookup.now in
    let ready = c.is_ready.ensures.0 c.if-not-is_ready.false in
    let k = c.in-Ok-All in
    let took : Took = Took.All k.count (Some c.in-Some.listed) in
    let is : k.field-0 ≡ took = k.field-0-is ∙ ap (Took.All k.count) c.in-Some.is in
    let takes : WorkTakes facts item old took new = subst (λ t. WorkTakes facts item old t new) is k.ensures.ok in
    let left : LeavesPacked (sealing_at item) took new = subst (λ t. LeavesPacked (sealing_at item) t new) is k.ensures.packed in
    let room : LeavesRoom took new = subst (λ t. LeavesRoom t new) is k.ensures.roomy in
    let less : c.saturating_sub.result ≡ size_of item - k.count = c.saturating_sub.ensures ∙ ap (λ n. n - k.count) c.bytes_in.ensures in
    let at : before (size_of item - k.count) (behind p (fed_of item)) ≡ c.before-in-Ok-All.result = sym (c.before-in-Ok-All.ensures ∙ (λ i. before (less i) (c.next_item.ensures.behind i))) in
    subst (λ q. GoesSo facts old (left_fed p steps) (Went.Pack c.in-Some.listed) new (left_fed q steps)) at (went_pack facts steps p item old new c.requires.going c.next_item.ensures.item ready k.ensures.aims k.ensures.params k.ensures.version k.count c.in-Some.listed takes left room)

pub returns-in-None-clause-ok : goal.returns-in-None-clause-ok
returns-in-None-clause-ok c =
    let item = c.next_item.result.0 in
    let p = c.args.position.now in
    let steps = c.args.steps.now in
    let old = c.args.work.now in
    let new = c.feed.new.self in
    let facts = c.args.lookup.now in
    let ready = c.is_ready.ensures.0 c.if-not-is_ready.false in
    let k = c.in-Ok-All in
    let took : Took = Took.All k.count None in
    let is : k.field-0 ≡ took = k.field-0-is ∙ ap (Took.All k.count) c.in-None.is in
    let takes : WorkTakes facts item old took new = subst (λ t. WorkTakes facts item old t new) is k.ensures.ok in
    let left : LeavesPacked (sealing_at item) took new = subst (λ t. LeavesPacked (sealing_at item) t new) is k.ensures.packed in
    let room : LeavesRoom took new = subst (λ t. LeavesRoom t new) is k.ensures.roomy in
    let less : c.saturating_sub.result ≡ size_of item - k.count = c.saturating_sub.ensures ∙ ap (λ n. n - k.count) c.bytes_in.ensures in
    let at : before (size_of item - k.count) (behind p (fed_of item)) ≡ c.before-in-Ok-All.result = sym (c.before-in-Ok-All.ensures ∙ (λ i. before (less i) (c.next_item.ensures.behind i))) in
    subst (λ q. GoesSo facts old (left_fed p steps) Went.On new (left_fed q steps)) at (went_on facts steps p item old new c.requires.going c.next_item.ensures.item ready k.ensures.aims k.ensures.params k.ensures.version k.count takes left room)

pub returns-in-None-clause-less : goal.returns-in-None-clause-less
returns-in-None-clause-less c = λ on.
    let item = c.next_item.result.0 in
    let p = c.args.position.now in
    let steps = c.args.steps.now in
    let old = c.args.work.now in
    let new = c.feed.new.self in
    let facts = c.args.lookup.now in
    let ready = c.is_ready.ensures.0 c.if-not-is_ready.false in
    let k = c.in-Ok-All in
    let took : Took = Took.All k.count None in
    let is : k.field-0 ≡ took = k.field-0-is ∙ ap (Took.All k.count) c.in-None.is in
    let takes : WorkTakes facts item old took new = subst (λ t. WorkTakes facts item old t new) is k.ensures.ok in
    let left : LeavesPacked (sealing_at item) took new = subst (λ t. LeavesPacked (sealing_at item) t new) is k.ensures.packed in
    let less : c.saturating_sub.result ≡ size_of item - k.count = c.saturating_sub.ensures ∙ ap (λ n. n - k.count) c.bytes_in.ensures in
    let at : before (size_of item - k.count) (behind p (fed_of item)) ≡ c.before-in-Ok-All.result = sym (c.before-in-Ok-All.ensures ∙ (λ i. before (less i) (c.next_item.ensures.behind i))) in
    let under : k.count < size_of item → ⊥ = λ less. takes.1 less refl in
    let all : k.count ≡ size_of item = omega (arith, under, takes.0.0) in
    subst (λ q. length (left_fed q steps) < length (left_fed p steps)) at (less_left [] steps p c.requires.going k.count item all c.next_item.ensures.item)

pub returns-in-Ok-TooLarge-clause-ok : goal.returns-in-Ok-TooLarge-clause-ok
returns-in-Ok-TooLarge-clause-ok c =
    let item = c.next_item.result.0 in
    let p = c.args.position.now in
    let steps = c.args.steps.now in
    let old = c.args.work.now in
    let new = c.feed.new.self in
    let facts = c.args.lookup.now in
    let ready = c.is_ready.ensures.0 c.if-not-is_ready.false in
    let takes : WorkTakes facts item old Took.TooLarge new = subst (λ t. WorkTakes facts item old t new) c.in-Ok-TooLarge.field-0-is c.in-Ok-TooLarge.ensures.ok in
    went_large facts steps p item old new c.requires.going c.next_item.ensures.item ready (left_fed p steps) c.in-Ok-TooLarge.ensures.version takes

pub returns-then-eq-clause-err : goal.returns-then-eq-clause-err
returns-then-eq-clause-err c =
    let item = c.next_item.result.0 in
    let p = c.args.position.now in
    let steps = c.args.steps.now in
    let old = c.args.work.now in
    let new = c.feed.new.self in
    let facts = c.args.lookup.now in
    let ready = c.is_ready.ensures.0 c.if-not-is_ready.false in
    let e = c.in-Err.ensures in
    went_nowhere facts steps p item old new c.requires.going c.next_item.ensures.item ready e.aims e.params e.version e.stays e.ready

pub returns-else-eq-clause-ok : goal.returns-else-eq-clause-ok
returns-else-eq-clause-ok c =
    let item = c.next_item.result.0 in
    let p = c.args.position.now in
    let steps = c.args.steps.now in
    let old = c.args.work.now in
    let new = c.feed.new.self in
    let facts = c.args.lookup.now in
    let ready = c.is_ready.ensures.0 c.if-not-is_ready.false in
    went_wrong facts steps p item old new c.requires.going c.next_item.ensures.item ready (left_fed p steps) c.in-Err.error (λ same. (let yes = rw same at c.eq.ensures in let no = c.if-eq.false in absurd (cc))) c.in-Err.ensures.refused
