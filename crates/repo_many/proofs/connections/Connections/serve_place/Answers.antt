use Rattle.std.proofs.Common.{ap, ◌∙◌}
use Rattle.repo_hall.specs.declared.halls.Hall.{Hall}
use Rattle.repo_many.specs.declared.connections.Connections.{Connections}
use Rattle.repo_many.proofs.Connecting.{place_leads}
use Rattle.repo_many.proofs.Leading.{leads_on}
use Rattle.repo_many.proofs.connections.Connections.serve_place.Goals as goal

pub returns-clause-leads : goal.returns-clause-leads
returns-clause-leads g c honest =
    leads_on _ _ _ _ _ _ _ _ _ _ _ _ (c.turn_at-progress.ensures.leads honest)
    (rw c.note_large.ensures.hall at (c.settle.ensures.leaves (g.S.Shelf.store c.turn_at-progress.new.shelf) (g.S.Shelf.failed c.turn_at-progress.new.shelf)))

pub returns-clause-connected : goal.returns-clause-connected
returns-clause-connected g c honest =
    let mid = c.turn_at-progress.new.self in
    let turn = c.turn_at-progress.ensures in
    let note = c.note_large.ensures in
    place_leads g.T.Wire.hears g.T.Wire.says _ mid.places.items _ _ mid.hall.guests.items _ _ mid.hall.entered _ c.args.turn.place _ _ _ _ c.turn_at-progress.result c.requires (turn.serves honest)
    (λ none.
    let n = turn.nobody none in
    (n.0, (ap (λ (x : Hall). x.guests.items) n.1, ap (λ (x : Hall). x.entered) n.1), n.2, (ap g.S.Shelf.store n.3, ap g.S.Shelf.failed n.3))) turn.kept turn.guests.0 turn.guests.1 (rw note.hall at c.settle.ensures.nothing) (rw note.places at c.settle.ensures.kept) (rw note.hall at c.settle.ensures.others)
    c.settle.ensures.closed
    (λ on.
    let e = (c.settle.ensures.stays on).0 in
    let hall = ap (λ (x : Connections _). x.hall) e ∙ note.hall in
    (ap (λ (x : Connections _). x.places.items) e ∙ ap (λ x. x.items) note.places, (ap (λ (x : Hall). x.guests.items) hall, ap (λ (x : Hall). x.entered) hall)))
    (λ over free h found. (rw note.hall at (c.settle.ensures.renewed over free h found)).number)
