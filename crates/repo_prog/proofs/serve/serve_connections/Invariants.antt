use Rattle.std.proofs.Common.{◌≡◌}
use Rattle.repo_store.specs.AppendOnly.{OnlyAppends}
use Rattle.repo_prog.specs.Commands.{IsEnd}
use Rattle.repo_prog.specs.Serving.{ServesInTurn}
use Rattle.repo_prog.specs.declared.status.Status.{Status}
use Rattle.repo_prog.proofs.serve.serve_connections.Given as goal

abbrev pub invariant-loop-turn : goal.invariant-loop-turn
invariant-loop-turn g l = record {
  served : g.S.Shelf.honest l.fn.shelf
      → ServesInTurn g.L.Listen.accepts g.L.Listen.leaves g.L.Ends.Channel.hears g.L.Ends.Channel.says g.L.Ends.Channel.is_over l.turn l.status l.fn.listener (g.S.Shelf.store l.fn.shelf) (g.S.Shelf.failed l.fn.shelf)
      l.listener (g.S.Shelf.store l.shelf) (g.S.Shelf.failed l.shelf);
  kept : g.S.Shelf.honest l.fn.shelf → OnlyAppends (g.S.Shelf.store l.fn.shelf) (g.S.Shelf.store l.shelf);
  honest : g.S.Shelf.honest l.fn.shelf → g.S.Shelf.honest l.shelf;
  silent : l.status ≡ Status.Done → l.faults ≡ l.fn.faults;
  status : IsEnd l.status;
}
