use Rattle.std.proofs.Common.{◌∙◌}
use Rattle.repo_many.proofs.Connecting.{connects_on}
use Rattle.repo_many.proofs.Leading.{leads_on}
use Rattle.repo_many.proofs.connections.Connections.round.Goals as goal

pub loop-place-preserved : goal.loop-place-preserved
loop-place-preserved g c = record {
  leads = λ honest. leads_on _ _ _ _ _ _ _ _ _ _ _ _ (c.loop-place.invariant.leads honest) (rw c.room_at-room.ensures.hall at c.serve_place.ensures.leads (c.loop-place.invariant.honest honest));
  connected = λ honest. connects_on g.T.Wire.hears g.T.Wire.says _ _ _ _ _ _ _ _ _ _ _ _ _ _ _ (c.loop-place.invariant.connected honest)
      (rw (c.room_at-room.ensures.hall, c.room_at-room.ensures.places) at c.serve_place.ensures.connected (c.loop-place.invariant.honest honest));
  honest = λ honest. c.serve_place.ensures.honest (c.loop-place.invariant.honest honest);
  places = (rw c.room_at-room.ensures.hall at c.serve_place.ensures.places) ∙ c.loop-place.invariant.places;
  silent = λ well. let now = c.serve_place.ensures.silent well in let before = c.loop-place.invariant.silent now.0 in (before.0, now.1 ∙ before.1);
}
