use Rattle.std.proofs.Common.{rules, ◌≡◌, ◌<◌, Some, length, slice_get, sym, ap, ◌∙◌}
use Rattle.repo_many.proofs.Connecting.{get_at, woken_still}
use Rattle.repo_many.proofs.places.wake.Goals as goal

pub returns : goal.returns
returns g c =
    let places = c.args.places.now.items in
    let less : c.args.place < length places = search rules in
    let at : slice_get places c.args.place ≡ Some c.replace-here.result = get_at places c.args.place c.index_mut.result.now less c.index_mut.ensures.value ∙ ap Some (sym c.replace-here.ensures.value) in
    rw c.woken.ensures (woken_still places c.args.place c.replace-here.new.dest c.replace-here.result less at)
