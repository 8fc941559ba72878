use Rattle.repo_sha.proofs.LaneLemmas.{shifts_down}
use Rattle.repo_sha.proofs.lanes.shifted.Goals as goal

pub returns : goal.returns
returns c = shifts_down c.args.k c.args.x c.fits-x.0
