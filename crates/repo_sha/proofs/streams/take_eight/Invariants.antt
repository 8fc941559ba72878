use Rattle.std.proofs.Common.{◌≡◌, ◌+◌}
use Rattle.repo_sha.specs.inner.Messages.{hash_to}
use Rattle.repo_sha.proofs.streams.take_eight.Given as goal

abbrev pub invariant-lanes : goal.invariant-lanes
invariant-lanes l = l.hash ≡ hash_to l.message.bytes.now (l.place + l.lane)
