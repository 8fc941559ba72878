use Rattle.std.proofs.Common.{◌≡◌, ◌++◌, ap, ◌∙◌}
use Rattle.std.proofs.lemmas.Result.{err_from_is_err_and}
use Rattle.repo_wire.specs.Messages.{request_body, payload}
use Rattle.repo_wire.specs.Stream.{frame}
use Rattle.repo_session.proofs.Awaiting.{sends_none, sends_head, sends_part, sends_all}
use Rattle.repo_session.proofs.connections.Connection.send.Goals as goal

pub returns-in_err-write_head-clause-sent : goal.returns-in_err-write_head-clause-sent
returns-in_err-write_head-clause-sent g c =
    let p = err_from_is_err_and c.from_residual.result c.from_residual.ensures.1 in
    rw (p.1, p.2) (sends_none g.L.Channel.hears g.L.Channel.says c.args.request.now c.args.channel.now)

pub returns-in_err-say-clause-sent : goal.returns-in_err-say-clause-sent
returns-in_err-say-clause-sent g c =
    let p = err_from_is_err_and c.from_residual-in_err-say.result c.from_residual-in_err-say.ensures.1 in
    let head = c.as_slice.result.now in
    let rest = payload c.args.request.now.ask in
    let whole : head ++ rest ≡ frame (request_body c.args.request.now) =
    ap (λ x. x ++ rest) c.as_slice.ensures.value ∙ c.in_ok-write_head.ensures.ok ∙ ap (λ x. x ++ frame (request_body c.args.request.now)) c.clear.ensures.items in
    let part = c.in_err-say.ensures.err in
    rw (p.1, p.2) (sends_head g.L.Channel.hears g.L.Channel.says c.args.request.now head rest c.args.channel.now _ part.0 whole part.1 part.2)

pub returns-in_err-say-2-clause-sent : goal.returns-in_err-say-2-clause-sent
returns-in_err-say-2-clause-sent g c =
    let p = err_from_is_err_and c.from_residual-in_err-say-2.result c.from_residual-in_err-say-2.ensures.1 in
    let head = c.as_slice.result.now in
    let rest = c.payload.result.now in
    let whole : head ++ rest ≡ frame (request_body c.args.request.now) =
    ap (λ x. x ++ rest) c.as_slice.ensures.value ∙ ap (λ x. c.write_head.new.out.items ++ x) c.payload.ensures ∙ c.in_ok-write_head.ensures.ok
    ∙ ap (λ x. x ++ frame (request_body c.args.request.now)) c.clear.ensures.items in
    let part = c.in_err-say-2.ensures.err in
    rw (p.1, p.2) (sends_part g.L.Channel.hears g.L.Channel.says c.args.request.now head rest c.args.channel.now _ _ part.0 whole c.in_ok-say.ensures.ok part.1 part.2)

pub returns-clause-sent : goal.returns-clause-sent
returns-clause-sent g c =
    let head = c.as_slice.result.now in
    let rest = c.payload.result.now in
    let whole : head ++ rest ≡ frame (request_body c.args.request.now) =
    ap (λ x. x ++ rest) c.as_slice.ensures.value ∙ ap (λ x. c.write_head.new.out.items ++ x) c.payload.ensures ∙ c.in_ok-write_head.ensures.ok
    ∙ ap (λ x. x ++ frame (request_body c.args.request.now)) c.clear.ensures.items in
    sends_all g.L.Channel.hears g.L.Channel.says c.args.request.now head rest c.args.channel.now _ _ tt whole c.in_ok-say.ensures.ok c.in_ok-say-2.ensures.ok
