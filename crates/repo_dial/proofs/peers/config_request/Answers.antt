use Rattle.std.proofs.Common.{arith}
use Rattle.repo_wire.proofs.Fitting.{request_fits}
use Rattle.repo_dial.proofs.peers.config_request.Goals as goal

pub returns-clause-frame : goal.returns-clause-frame
returns-clause-frame c = request_fits _ (record { instance = c.requires.0.instance; sequence = omega arith; ask = tt }) tt
