use Rattle.repo_dial.proofs.TryLemmas.{dialed}
use Rattle.repo_dial.proofs.again.try_once.Goals as goal

pub returns : goal.returns
returns g c =
    let t = c.try_over-result.ensures in
    let known = g.D.Ends.KnownChannel.ends in (
      t.0,
      dialed (g.D.Dial.connections c.args.dial.now) (g.D.Dial.connections c.dial.new.self) (g.D.Dial.connections c.hang_up.new.self) t.0 (known c.in-Some.channel) (known c.try_over-result.new.channel) t.1 t.2 c.in-Some.ensures c.hang_up.ensures,
      t.3,
      t.4,
    )
