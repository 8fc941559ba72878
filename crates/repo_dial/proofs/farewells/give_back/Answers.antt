use Rattle.std.proofs.Common.{sym, ◌∙◌}
use Rattle.repo_dial.proofs.TryLemmas.{farewell_asked}
use Rattle.repo_dial.proofs.farewells.give_back.Goals as goal

pub returns-in-Some : goal.returns-in-Some
returns-in-Some g c =
    farewell_asked _ c.in-Some.request (g.E.KnownChannel.ends c.args.channel.now) (g.E.KnownChannel.ends c.ask_once.new.channel) c.ask_once.result (sym c.in-Some.is ∙ c.farewell_of.ensures.value) c.ask_once.ensures
