use Rattle.std.proofs.Common.{◌≡◌}
use Rattle.repo_hall.specs.Halls.{HallLeads}
use Rattle.repo_many.specs.Connected.{ConnectionsLead}
use Rattle.repo_many.specs.Wires.{Hears, Says}
use Rattle.repo_many.specs.declared.times.Served.{Served}
use Rattle.repo_many.proofs.servers.Server.serve.Given as goal

abbrev pub invariant-loop-turn : goal.invariant-loop-turn
invariant-loop-turn g l = record {
  leads : g.S.Shelf.honest l.fn.shelf → HallLeads l.fn.self.connections.hall (g.S.Shelf.store l.fn.shelf) (g.S.Shelf.failed l.fn.shelf) l.self.connections.hall (g.S.Shelf.store l.shelf) (g.S.Shelf.failed l.shelf);
  connected : g.S.Shelf.honest l.fn.shelf
      → ConnectionsLead (Hears g.T.Read.remaining) (Says g.T.Write.contents) l.fn.self.connections (g.S.Shelf.store l.fn.shelf) (g.S.Shelf.failed l.fn.shelf) l.self.connections (g.S.Shelf.store l.shelf) (g.S.Shelf.failed l.shelf);
  honest : g.S.Shelf.honest l.fn.shelf → g.S.Shelf.honest l.shelf;
  silent : l.self.tally.served ≡ Served.Well → (l.fn.self.tally.served ≡ Served.Well) × (l.faults ≡ l.fn.faults);
}
