use Rattle.std.proofs.Common.{◌≡◌, length}
use Rattle.repo_hall.specs.Halls.{HallLeads}
use Rattle.repo_many.specs.Connected.{ConnectionsLead}
use Rattle.repo_many.specs.declared.times.Served.{Served}
use Rattle.repo_many.proofs.connections.Connections.round.Given as goal

abbrev pub invariant-loop-place : goal.invariant-loop-place
invariant-loop-place g l = record {
  leads : g.S.Shelf.honest l.fn.shelf → HallLeads l.fn.self.hall (g.S.Shelf.store l.fn.shelf) (g.S.Shelf.failed l.fn.shelf) l.self.hall (g.S.Shelf.store l.shelf) (g.S.Shelf.failed l.shelf);
  connected : g.S.Shelf.honest l.fn.shelf
      → ConnectionsLead g.T.Wire.hears g.T.Wire.says l.fn.self (g.S.Shelf.store l.fn.shelf) (g.S.Shelf.failed l.fn.shelf) l.self (g.S.Shelf.store l.shelf) (g.S.Shelf.failed l.shelf);
  honest : g.S.Shelf.honest l.fn.shelf → g.S.Shelf.honest l.shelf;
  places : length l.self.hall.guests.items ≡ length l.fn.self.hall.guests.items;
  silent : l.tally.served ≡ Served.Well → (l.fn.tally.served ≡ Served.Well) × (l.faults ≡ l.fn.faults);
}
