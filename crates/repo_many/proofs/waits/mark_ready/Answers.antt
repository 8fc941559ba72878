use Rattle.std.proofs.Common.{refl}
use Rattle.repo_many.proofs.Connecting.{still_on, still_same}
use Rattle.repo_many.proofs.waits.mark_ready.Goals as goal

pub loop-event-init : goal.loop-event-init
loop-event-init g c = still_same _ _ (λ j. refl)

pub loop-event-preserved : goal.loop-event-preserved
loop-event-preserved g c = still_on _ _ _ c.loop-event.invariant c.wake.ensures
