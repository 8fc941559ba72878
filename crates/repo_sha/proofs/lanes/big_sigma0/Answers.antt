use Rattle.std.proofs.Common.{refl}
use Rattle.repo_sha.proofs.lanes.big_sigma0.Goals as goal

pub returns : goal.returns
returns c j h = rw (c.xor-2.ensures j h, c.xor.ensures j h, c.rotated.ensures j h, c.rotated-2.ensures j h, c.rotated-3.ensures j h) refl
