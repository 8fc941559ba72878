-- The names so far are those of the first digests, and there is room for the others.
use Rattle.std.proofs.Common.{◌≡◌, ◌≤◌, ◌+◌, ◌-◌, ◌++◌, map, take, length, vec_len}
use Rattle.std.specs.Prelude.{vec_capacity}
use Rattle.repo_backup.specs.Waiting.{name_in}
use Rattle.repo_backup.proofs.ended.add_names.Given as goal

abbrev pub invariant-loop-digest : goal.invariant-loop-digest
invariant-loop-digest l = record {
  named : l.names.items ≡ l.initial.names.items ++ map name_in (take l.digest-index l.digests);
  room : vec_len l.names + (length l.digests - l.digest-index) ≤ vec_capacity l.names;
}
