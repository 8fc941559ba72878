use Rattle.std.proofs.Common.{◌≡◌, ◌≤◌, ◌-◌, ◌^◌, None, length}
use Rattle.repo_session.specs.Sessions.{who_in, next_in}
use Rattle.repo_session.specs.Traces.{fed_in}
use Rattle.repo_backup.specs.ItemRuns.{ArePartsFed, AreMore, GoesOn}
use Rattle.repo_backup.proofs.item_steps.feed_piece.Given as goal

abbrev pub invariant-loop-done : goal.invariant-loop-done
invariant-loop-done g l = record {
  goes : g.S.Shelf.honest l.fn.shelf
      → GoesOn (λ es now. AreMore l.asked es now × ArePartsFed l.done l.piece (fed_in es) (fed_in now)) l.fn.backup (g.S.Shelf.store l.fn.shelf) (g.S.Shelf.failed l.fn.shelf) l.backup (g.S.Shelf.store l.shelf) (g.S.Shelf.failed l.shelf);
  settled : g.S.Shelf.honest l.fn.shelf → next_in l.backup.session ≡ None;
  within : l.done ≤ length l.piece;
  few : l.asked ≤ 2 ^ 32;
  honest : g.S.Shelf.honest l.fn.shelf → g.S.Shelf.honest l.shelf;
  who : who_in l.backup.session ≡ who_in l.fn.backup.session;
}

abbrev pub decreases-loop-done : goal.decreases-loop-done
decreases-loop-done g l = length l.piece - l.done
