use Rattle.std.proofs.Common.{arith, ◌≡◌, ◌∙◌, ◌≤◌, ◌<◌, ◌+◌, None, Some, length, suc, slice_get, slice_index_or, sym, ap, subst, List}
use Rattle.repo_world.specs.AnyClients.{any_given}
use Rattle.repo_world.specs.Seats.{Seated, kept_items}
use Rattle.repo_world.specs.World.{given_out}
use Rattle.repo_world.specs.declared.pasts.Past.{Past}
use Rattle.repo_world.proofs.Giving.{given_is, given_last, given_next, given_none}
use Rattle.repo_world.proofs.seats.Seat.emitted.Goals as goal

pub returns-then-place-len : goal.returns-then-place-len
returns-then-place-len c =
    let pasts = c.self.inside.pasts.items in
    let given = any_given c.self.inside.client in
    let beyond : length pasts ≤ c.args.place = omega (arith, c.len.ensures, c.if-place-len.true) in
    subst (λ (s : Seated). None ≡ slice_get (given_out s.client.trace) c.args.place) c.self.view_is (sym (given_is c.self.inside.replies.items given (kept_items c.self.inside.fed.items) pasts c.args.place ∙ given_none given pasts c.args.place beyond))

pub returns-in-Some : goal.returns-in-Some
returns-in-Some c =
    let pasts = c.self.inside.pasts.items in
    let given = any_given c.self.inside.client in
    let suc_is : c.args.place + 1 ≡ suc c.args.place = omega arith in
    let found = c.in-Some.ensures.lookup.3 in
    let within : suc c.args.place < length pasts = subst (λ n. n < length pasts) suc_is (subst (λ (l : List Past). c.args.place + 1 < length l) c.as_slice.ensures.value found.0) in
    let there : c.in-Some.next.now ≡ slice_index_or pasts (suc c.args.place) c.in-Some.next.now = subst (λ n. c.in-Some.next.now ≡ slice_index_or pasts n c.in-Some.next.now) suc_is
    (subst (λ (l : List Past). c.in-Some.next.now ≡ slice_index_or l (c.args.place + 1) c.in-Some.next.now) c.as_slice.ensures.value (found.1 c.in-Some.next.now)) in
    let lent : c.as_slice-in-Some.result.now ≡ c.in-Some.next.now.before.items = c.as_slice-in-Some.ensures.value in
    subst (λ (s : Seated). Some c.as_slice-in-Some.result.now ≡ slice_get (given_out s.client.trace) c.args.place) c.self.view_is
    (ap (λ l. Some l) lent ∙ (ap (λ (p : Past). Some p.before.items) there ∙ sym (given_is c.self.inside.replies.items given (kept_items c.self.inside.fed.items) pasts c.args.place ∙ given_next given pasts c.args.place c.in-Some.next.now within)))

pub returns-in-None : goal.returns-in-None
returns-in-None c =
    let pasts = c.self.inside.pasts.items in
    let given = any_given c.self.inside.client in
    let within : c.args.place < length pasts = omega (arith, c.len.ensures, c.if-place-len.false) in
    let end : length pasts ≤ c.args.place + 1 = subst (λ (l : List Past). length l ≤ c.args.place + 1) c.as_slice.ensures.value c.in-None.ensures.lookup.3 in
    let last : length pasts ≤ suc c.args.place = omega (arith, end) in
    let lent : c.emitted.result.now ≡ given = c.emitted.ensures in
    subst (λ (s : Seated). Some c.emitted.result.now ≡ slice_get (given_out s.client.trace) c.args.place) c.self.view_is
    (ap (λ l. Some l) lent ∙ sym (given_is c.self.inside.replies.items given (kept_items c.self.inside.fed.items) pasts c.args.place ∙ given_last given pasts c.args.place within last))
