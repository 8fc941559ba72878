use Rattle.std.proofs.Common.{sym}
use Rattle.repo_dial.proofs.farewells.farewell_of.Goals as goal

pub unlock_in_place-requires : goal.unlock_in_place-requires
unlock_in_place-requires g c = c.in-Some.ensures.frame c.in-Some.next.now (sym c.in-Some.ensures.next)
