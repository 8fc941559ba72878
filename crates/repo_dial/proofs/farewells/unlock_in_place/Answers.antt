use Rattle.std.proofs.Common.{rules}
use Rattle.repo_wire.proofs.Fitting.{request_fits}
use Rattle.repo_dial.proofs.farewells.unlock_in_place.Goals as goal

pub returns-clause-frame : goal.returns-clause-frame
returns-clause-frame c = request_fits _ (record { instance = c.requires.0.instance; sequence = c.requires.0.sequence; ask = search rules }) tt
