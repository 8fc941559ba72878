use Rattle.repo_hall.proofs.Hosting.{ok_then, err_then, get_there, hall_brings, hall_same, set_number, set_others}
use Rattle.repo_hall.proofs.halls.Hall.arrives.Goals as goal

pub returns-clause-ok : goal.returns-clause-ok
returns-clause-ok c = ok_then c.feed.result _ _ c.feed.ensures.ok (λ ok.
    let guests = c.args.self.now.guests.items in
    let old = c.index_mut.result.now in
    let at = get_there guests c.args.place old c.requires c.index_mut.ensures.value in
    let e = c.feed.ensures in
    hall_brings guests c.args.self.now.entered c.args.place old c.feed.new.self c.args.piece.now at ok e.number e.out e.ended)

pub returns-clause-err : goal.returns-clause-err
returns-clause-err c = err_then c.feed.result _ _ c.feed.ensures.err (λ err.
    let guests = c.args.self.now.guests.items in
    let old = c.index_mut.result.now in
    let at = get_there guests c.args.place old c.requires c.index_mut.ensures.value in
    let e = c.feed.ensures in
    hall_same guests c.args.self.now.entered c.args.place old c.feed.new.self at err e.number e.out e.ended)

pub returns-clause-guests : goal.returns-clause-guests
returns-clause-guests c =
    let guests = c.args.self.now.guests.items in
    let old = c.index_mut.result.now in
    let at = get_there guests c.args.place old c.requires c.index_mut.ensures.value in (
      set_others guests c.args.place c.feed.new.self,
      set_number guests c.args.place old c.feed.new.self at c.feed.ensures.number,
    )
