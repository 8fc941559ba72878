use Rattle.std.proofs.Common.{rules, arith, ◌≡◌, [], length, sym, ap, subst, ◌∙◌}
use Rattle.repo_sha.specs.Pieces.{pieces}
use Rattle.repo_backup.specs.inner.Ends.{AreEnded}
use Rattle.repo_backup.proofs.Waits.{adds_none, adds_more, adds_all, next_here, next_within, next_sized, next_room, next_named, grows_same}
use Rattle.repo_backup.proofs.ended.Ended.add_to.Goals as goal

pub loop-place-init : goal.loop-place-init
loop-place-init c =
    let ns = c.self.inside.lengths.items in
    let bytes = c.as_slice-rest.ensures.value in
    adds_none c.args.lookup.now c.args.self.now c.as_slice-rest.result.now ns c.args.packing.now (ap (λ b. pieces b ns) bytes ∙ c.self.view_is) (subst (λ b. AreEnded b ns) (sym bytes) c.self.invariant) c.requires.room

pub split_at-requires : goal.split_at-requires
split_at-requires c =
    let known = c.args.lookup.now in
    let ended = c.args.self.now in
    let ns = c.self.inside.lengths.items in
    let place = c.loop-place.place in
    let rest = c.loop-place.rest.now in
    let old = c.args.packing.now in
    let now = c.loop-place.packing in
    let n = c.index.result.now in
    let count : c.len-place-end.result ≡ length ns = search rules in
    let here = next_here ns place n c.len-place-end.result count c.loop-place-test.true c.index.ensures in
    next_within known ended ns place rest old now c.loop-place.invariant c.requires.room n here

pub add-requires-clause-room : goal.add-requires-clause-room
add-requires-clause-room c =
    let known = c.args.lookup.now in
    let ended = c.args.self.now in
    let ns = c.self.inside.lengths.items in
    let place = c.loop-place.place in
    let rest = c.loop-place.rest.now in
    let old = c.args.packing.now in
    let now = c.loop-place.packing in
    let n = c.index.result.now in
    let count : c.len-place-end.result ≡ length ns = search rules in
    let here = next_here ns place n c.len-place-end.result count c.loop-place-test.true c.index.ensures in
    next_room known ended ns place rest old now c.loop-place.invariant c.requires.room n here

pub add-requires-clause-some : goal.add-requires-clause-some
add-requires-clause-some c =
    let known = c.args.lookup.now in
    let ended = c.args.self.now in
    let ns = c.self.inside.lengths.items in
    let place = c.loop-place.place in
    let rest = c.loop-place.rest.now in
    let old = c.args.packing.now in
    let now = c.loop-place.packing in
    let n = c.index.result.now in
    let count : c.len-place-end.result ≡ length ns = search rules in
    let here = next_here ns place n c.len-place-end.result count c.loop-place-test.true c.index.ensures in
    next_sized known ended ns place rest old now c.loop-place.invariant c.requires.room n here c.split_at.result.0.now c.split_at.ensures.front

pub add-requires-clause-named : goal.add-requires-clause-named
add-requires-clause-named c =
    let known = c.args.lookup.now in
    let ended = c.args.self.now in
    let ns = c.self.inside.lengths.items in
    let place = c.loop-place.place in
    let rest = c.loop-place.rest.now in
    let old = c.args.packing.now in
    let now = c.loop-place.packing in
    let n = c.index.result.now in
    let count : c.len-place-end.result ≡ length ns = search rules in
    let here = next_here ns place n c.len-place-end.result count c.loop-place-test.true c.index.ensures in
    next_named known ended ns place rest old now c.loop-place.invariant c.requires.room n here c.args.names.now (record { 0 = [] }) c.split_at.result.0.now c.requires.named c.split_at.ensures.front

pub loop-place-preserved : goal.loop-place-preserved
loop-place-preserved c =
    let known = c.args.lookup.now in
    let ended = c.args.self.now in
    let ns = c.self.inside.lengths.items in
    let place = c.loop-place.place in
    let rest = c.loop-place.rest.now in
    let old = c.args.packing.now in
    let now = c.loop-place.packing in
    let n = c.index.result.now in
    let count : c.len-place-end.result ≡ length ns = search rules in
    let here = next_here ns place n c.len-place-end.result count c.loop-place-test.true c.index.ensures in
    adds_more known ended ns place rest old now c.loop-place.invariant c.requires.room n here c.add.new.self c.split_at.result.0.now c.split_at.result.1.now c.split_at.ensures.front c.split_at.ensures.back c.in_ok-add.ensures.ok c.in_ok-add.ensures.one c.in_ok-add.ensures.grows c.add.ensures.target c.add.ensures.sealed

pub returns-in_err-add-clause-packs : goal.returns-in_err-add-clause-packs
returns-in_err-add-clause-packs c = λ sent sealed h. c.in_err-add.ensures.err sent sealed (c.loop-place.invariant.packs sent sealed h).0

pub returns-in_err-add-clause-grows : goal.returns-in_err-add-clause-grows
returns-in_err-add-clause-grows c = grows_same c.args.packing.now c.loop-place.packing c.add.new.self c.in_err-add.ensures.same c.loop-place.invariant.grows

pub returns-in_err-add-clause-target : goal.returns-in_err-add-clause-target
returns-in_err-add-clause-target c = c.add.ensures.target ∙ c.loop-place.invariant.target

pub returns-in_err-add-clause-sealed : goal.returns-in_err-add-clause-sealed
returns-in_err-add-clause-sealed c = c.add.ensures.sealed ∙ c.loop-place.invariant.sealed

pub returns-clause-ok : goal.returns-clause-ok
returns-clause-ok c =
    let ns = c.self.inside.lengths.items in
    let count : c.len-place-end.result ≡ length ns = search rules in
    adds_all c.args.lookup.now c.args.self.now ns c.loop-place.place c.loop-place.rest.now c.args.packing.now c.loop-place.packing c.loop-place.invariant (omega (arith, count, c.loop-place-test.false))

pub returns-clause-due : goal.returns-clause-due
returns-clause-due c = c.loop-place.invariant.due

pub returns-clause-packs : goal.returns-clause-packs
returns-clause-packs c = λ sent sealed h. (c.loop-place.invariant.packs sent sealed h).0

pub returns-clause-grows : goal.returns-clause-grows
returns-clause-grows c = c.loop-place.invariant.grows

pub returns-clause-target : goal.returns-clause-target
returns-clause-target c = c.loop-place.invariant.target

pub returns-clause-sealed : goal.returns-clause-sealed
returns-clause-sealed c = c.loop-place.invariant.sealed
