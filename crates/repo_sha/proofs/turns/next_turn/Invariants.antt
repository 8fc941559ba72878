use Rattle.std.proofs.Common.{◌≡◌, ℕ, ◌+◌, ◌<◌, ◌≤◌, ◌^◌, None, IfNone, IfSome, IsSomeAnd}
use Rattle.repo_sha.specs.inner.Batches.{HasLeft, at}
use Rattle.repo_sha.proofs.turns.next_turn.Given as goal

abbrev pub invariant-lanes : goal.invariant-lanes
invariant-lanes l = record {
  lane : IfSome l.soonest (λ lane. lane < 8);
  steps : IfSome l.soonest (λ _. l.steps ≤ 2 ^ 60);
  ends : IfSome l.soonest (λ lane. IsSomeAnd (at l.lanes lane) (λ piece. piece.place + l.steps ≡ piece.message.count));
  most : IfNone l.soonest (2 ^ 60 < l.steps);
  none : IfNone l.soonest ((j : ℕ) → j < l.lane → at l.lanes j ≡ None);
  least : (j : ℕ) → j < l.lane → HasLeft l.steps (at l.lanes j);
}
