use Rattle.std.proofs.Common.{rules, ◌≡◌, ◌<◌, Some, length, slice_get, inr, ap, ◌∙◌}
use Rattle.repo_many.specs.declared.places.Place.{Place}
use Rattle.repo_many.proofs.Connecting.{get_at, set_other, set_there}
use Rattle.repo_many.proofs.places.seat.Goals as goal

pub returns : goal.returns
returns g c =
    let places = c.args.places.now.items in
    let less : c.args.place < length places = search rules in
    let free : slice_get places c.args.place ≡ Some Place.Free = get_at places c.args.place c.index.result.now less c.index.ensures ∙ ap Some (c.is_free.ensures c.if-not-is_free.false) in
    ((λ j other. set_other places c.args.place _ j other), inr (free, (c.in-Some.socket, set_there places c.args.place _ less)))
