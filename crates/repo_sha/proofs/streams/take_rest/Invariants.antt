use Rattle.std.proofs.Common.{◌≡◌, ◌+◌, ◌*◌, min}
use Rattle.repo_sha.specs.inner.Messages.{hash_to}
use Rattle.repo_sha.proofs.streams.take_rest.Given as goal

abbrev pub invariant-groups : goal.invariant-groups
invariant-groups l = l.hash ≡ hash_to l.message.bytes.now (min (l.place + 8 * l.group) l.message.count)
