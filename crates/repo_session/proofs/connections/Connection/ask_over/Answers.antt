use Rattle.std.proofs.lemmas.Result.{err_from_is_err_and}
use Rattle.repo_session.proofs.Awaiting.{asks_unsent, asks_sent}
use Rattle.repo_session.proofs.Connecting.{begins}
use Rattle.repo_session.proofs.connections.Connection.ask_over.Goals as goal

pub returns-in_err-send : goal.returns-in_err-send
returns-in_err-send g c bytes told h =
    let p = err_from_is_err_and c.from_residual.result c.from_residual.ensures.1 in
    rw (p.1, p.2) (asks_unsent g.L.Channel.hears g.L.Channel.says bytes told c.args.request.now c.args.channel.now c.in_err-send.field-0.0 c.send.new.self c.send.new.channel
    (begins bytes told c.args.self.now h) c.in_err-send.ensures.sent)

pub returns : goal.returns
returns g c bytes told h =
    let n = c.hear.ensures bytes told (c.send.ensures.heard bytes told h) in
    asks_sent g.L.Channel.hears g.L.Channel.says bytes told c.args.request.now c.args.channel.now c.send.new.channel c.hear.result c.hear.new.self c.hear.new.channel _ n.0 n.2 c.in_ok-send.ensures.sent n.1 n.3 n.4
