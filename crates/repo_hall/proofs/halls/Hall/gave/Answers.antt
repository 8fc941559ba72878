use Rattle.std.proofs.Common.{◌≡◌, take, slice_set, subst}
use Rattle.repo_hall.specs.declared.guests.Guest.{Guest}
use Rattle.repo_hall.specs.Guests.{out_of}
use Rattle.repo_hall.specs.Happenings.{Given}
use Rattle.repo_hall.proofs.Hosting.{get_there, hall_gives, happens_at, set_number, set_others}
use Rattle.repo_hall.proofs.halls.Hall.gave.Goals as goal

pub returns-clause-stands : goal.returns-clause-stands
returns-clause-stands c g found =
    let guests = c.args.self.now.guests.items in
    let old = c.index_mut.result.now in
    let at = get_there guests c.args.place old c.requires.place c.index_mut.ensures.value in
    let same : old ≡ g = cc (at, found) in
    let e = c.gave.ensures in
    let P : Guest → Type 0 = λ x. happens_at (λ k. Given k (take c.args.count (out_of x))) guests c.args.self.now.entered c.args.place (slice_set guests c.args.place c.gave.new.self) c.args.self.now.entered in
    subst P same (hall_gives guests c.args.self.now.entered c.args.place old c.gave.new.self c.args.count at e.reader e.number e.out e.ended)

pub returns-clause-guests : goal.returns-clause-guests
returns-clause-guests c =
    let guests = c.args.self.now.guests.items in
    let old = c.index_mut.result.now in
    let at = get_there guests c.args.place old c.requires.place c.index_mut.ensures.value in (
      set_others guests c.args.place c.gave.new.self,
      set_number guests c.args.place old c.gave.new.self at c.gave.ensures.number,
    )
