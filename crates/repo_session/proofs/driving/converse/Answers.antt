use Rattle.std.proofs.Common.{◌≡◌, Some, sym, ap, option_map, ◌∙◌}
use Rattle.std.proofs.lemmas.Option.{same_Some}
use Rattle.std.proofs.lemmas.Result.{err_from_is_err_and}
use Rattle.repo_session.proofs.Awaiting.{asks_unsent, asks_sent}
use Rattle.repo_session.proofs.Connecting.{begins}
use Rattle.repo_session.proofs.driving.converse.Goals as goal

pub send-requires : goal.send-requires
send-requires g c = c.pending.ensures.frame c.in-Some.request.now (sym c.pending.ensures.next ∙ ap (option_map (λ r. r.now)) c.in-Some.is)

pub returns-in_err-send-clause-asks : goal.returns-in_err-send-clause-asks
returns-in_err-send-clause-asks g c = (
  c.in-Some.request.now,
  sym c.pending.ensures.next ∙ ap (option_map (λ r. r.now)) c.in-Some.is,
  λ bytes told h.
      let p = err_from_is_err_and c.from_residual.result c.from_residual.ensures.1 in
      rw (p.1, p.2) (asks_unsent g.L.Channel.hears g.L.Channel.says bytes told c.in-Some.request.now c.args.channel.now c.in_err-send.field-0.0 c.send.new.self c.send.new.channel
      (begins bytes told c.args.connection.now h) c.in_err-send.ensures.sent),
)

pub returns-clause-asks : goal.returns-clause-asks
returns-clause-asks g c =
    let first : g.C.Client.next c.args.client.now ≡ Some c.in-Some.request.now = sym c.pending.ensures.next ∙ ap (option_map (λ r. r.now)) c.in-Some.is in
    let second : g.C.Client.next c.work_ahead.new.self ≡ Some c.in-Some-pending.request.now = sym c.pending-2.ensures.next ∙ ap (option_map (λ r. r.now)) c.in-Some-pending.is in
    let same : c.in-Some.request.now ≡ c.in-Some-pending.request.now = same_Some c.in-Some.request.now c.in-Some-pending.request.now (sym first ∙ sym c.work_ahead.ensures.next ∙ second) in (
      c.in-Some-pending.request.now,
      first ∙ ap Some same,
      λ bytes told h.
          let n = c.hear.ensures bytes told (c.send.ensures.heard bytes told h) in
          asks_sent g.L.Channel.hears g.L.Channel.says bytes told c.in-Some-pending.request.now c.args.channel.now c.send.new.channel c.hear.result c.hear.new.self c.hear.new.channel _ n.0 n.2
          (rw (sym same) c.in_ok-send.ensures.sent) n.1 n.3 n.4,
    )
