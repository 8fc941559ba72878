-- The parameters of the chunk rule.
use Rattle.std.specs.Prelude.{ℕ, ◌≤◌}
use Rattle.repo_name.specs.Limits.{blob_limit}

-- the least and the greatest length of a chunk in bytes, and how many low bits of a remainder are zero at a cut
pub record Parameters : Type 0 where
  pub min : ℕ
  pub max : ℕ
  pub bits : ℕ

-- the parameters are ones that a chunker may have
pub record AreLawful (params : Parameters) : Type 0 where
  pub least : 64 ≤ params.min
  pub ordered : params.min ≤ params.max
  pub greatest : params.max ≤ blob_limit
  pub some_bits : 1 ≤ params.bits
  pub few_bits : params.bits ≤ 32
