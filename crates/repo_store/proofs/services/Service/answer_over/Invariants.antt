use Rattle.std.proofs.Common.{◌≡◌, ◌-◌, ◌^◌}
use Rattle.repo_store.specs.Channels.{GoesOver}
use Rattle.repo_store.specs.Services.{HasServed}
use Rattle.repo_store.specs.Serving.{Moment, Past}
use Rattle.repo_store.proofs.services.Service.answer_over.Given as goal

abbrev pub invariant-loop-self : goal.invariant-loop-self
invariant-loop-self g l = record {
  all : g.S.Shelf.honest l.fn.shelf → GoesOver g.C.Channel.hears g.C.Channel.says
      (λ at now. (before : Moment) (past : Past) → HasServed g.F.Form.shown before l.fn.self past at → (next : Past) × (next.bytes ≡ past.bytes) × HasServed g.F.Form.shown before l.self next now)
      l.fn.channel (g.S.Shelf.store l.fn.shelf) (g.S.Shelf.failed l.fn.shelf) l.channel (g.S.Shelf.store l.shelf) (g.S.Shelf.failed l.shelf);
  honest : g.S.Shelf.honest l.fn.shelf → g.S.Shelf.honest l.shelf;
}

abbrev pub decreases-loop-self : goal.decreases-loop-self
decreases-loop-self g l = 2 ^ 32 - l.self.answered
