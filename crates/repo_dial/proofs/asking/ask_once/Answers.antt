use Rattle.std.proofs.Common.{[]}
use Rattle.std.proofs.lemmas.Result.{err_from_is_err_and}
use Rattle.repo_dial.proofs.GoingLemmas.{asked_once, not_asked}
use Rattle.repo_dial.proofs.asking.ask_once.Goals as goal

pub returns-in_err-connection : goal.returns-in_err-connection
returns-in_err-connection g c =
    let p = err_from_is_err_and c.from_residual.result c.from_residual.ensures.1 in
    rw (p.1, p.2) (not_asked c.args.request.now (g.E.KnownChannel.ends c.args.channel.now))

pub returns : goal.returns
returns g c =
    asked_once g.E.Channel.hears g.E.Channel.says g.E.KnownChannel.ends g.met.E.KnownChannel.hears_on g.met.E.KnownChannel.says_on c.args.request.now c.requires c.args.channel.now c.ask_over.result c.ask_over.new.self c.ask_over.new.channel
    (c.ask_over.ensures [] [] c.in_ok-connection.ensures)
