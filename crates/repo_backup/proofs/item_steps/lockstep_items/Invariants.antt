use Rattle.std.proofs.Common.{◌≡◌, ◌≤◌, ◌-◌, ◌^◌, ◌++◌, List, None, length}
use Rattle.repo_session.specs.Sessions.{who_in, next_in, ended_in}
use Rattle.repo_backup.specs.ItemRuns.{GoesOn}
use Rattle.repo_backup.specs.declared.items.Item.{Item}
use Rattle.repo_backup.proofs.ItemRunning.{SoFar}
use Rattle.repo_backup.proofs.item_steps.lockstep_items.Given as goal

abbrev pub invariant-loop-item : goal.invariant-loop-item
invariant-loop-item g l = record {
  goes : (whole : List Item) × (left : List Item) × (l.items ≡ whole ++ left) × (length whole ≡ l.place)
      × (g.S.Shelf.honest l.fn.shelf
      → GoesOn (SoFar whole l.items l.asked (ended_in l.backup.session)) l.fn.backup (g.S.Shelf.store l.fn.shelf) (g.S.Shelf.failed l.fn.shelf) l.backup (g.S.Shelf.store l.shelf) (g.S.Shelf.failed l.shelf));
  settled : g.S.Shelf.honest l.fn.shelf → next_in l.backup.session ≡ None;
  few : l.asked ≤ 2 ^ 32;
  honest : g.S.Shelf.honest l.fn.shelf → g.S.Shelf.honest l.shelf;
  who : who_in l.backup.session ≡ who_in l.fn.backup.session;
}

abbrev pub decreases-loop-item : goal.decreases-loop-item
decreases-loop-item g l = length l.items - l.place
