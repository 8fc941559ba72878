use Rattle.std.proofs.Common.{◌≡◌, ◌*◌, take, vec_len}
use Rattle.repo_pack.specs.PackWriting.{rows_bytes}
use Rattle.repo_pack.proofs.rows.header_bytes.Given as goal

-- the entries so far
abbrev pub invariant-loop-row : goal.invariant-loop-row
invariant-loop-row l = record {
  bytes : l.header.items ≡ rows_bytes (take l.row-index l.rows);
  size : vec_len l.header ≡ 37 * l.row-index;
}
