use Rattle.std.proofs.Common.{refl}
use Rattle.repo_dial.proofs.dialing.AddressDial.TheImpl.Goals as goal

pub dial-tells : goal.dial-tells
dial-tells g x c = (tt, refl)
