use Rattle.std.proofs.Common.{rules, ◌≡◌, Some, Ok, Err, true, refl, sym, ap, ◌∙◌}
use Rattle.std.specs.Prelude.{option_map}
use Rattle.repo_dial.specs.Dialing.{Asking, config_request}
use Rattle.repo_dial.proofs.peers.Acquaintance.meet.Goals as goal

pub config_request-requires : goal.config_request-requires
config_request-requires g c = c.in-Some.ensures.frame c.in-Some.next.now (sym c.in-Some.ensures.next)

pub returns-in-Ok : goal.returns-in-Ok
returns-in-Ok g c =
    let n = c.in-Ok.ensures in
    let asking : Asking = record { came = g.E.KnownChannel.ends c.args.channel.now; request = c.config_request.result; passages = n.0; said = n.1; answer = Ok c.in-Ok.reply; left = g.E.KnownChannel.ends c.ask_once.new.channel } in
    let on = c.if-not-self.false in
    let asks : c.args.self.now.asks ≡ true = search rules in
    let same = ap (λ o. option_map (λ r. config_request r) o) (sym c.in-Some.ensures.next) ∙ ap Some (sym c.config_request.ensures.value) in
    (Some asking, (asks, c.take.ensures.asks ∙ asks, same, n.2, c.take.ensures.meets), refl, λ a is. let p = is in let q : asking ≡ a = cc in ap (λ (x : Asking). x.came) (sym q))

pub returns : goal.returns
returns g c =
    let n = c.in-Err.ensures in
    let asking : Asking = record { came = g.E.KnownChannel.ends c.args.channel.now; request = c.config_request.result; passages = n.0; said = n.1; answer = Err c.in-Err.error; left = g.E.KnownChannel.ends c.ask_once.new.channel } in
    let on = c.if-not-self.false in
    let asks : c.args.self.now.asks ≡ true = search rules in
    let same = ap (λ o. option_map (λ r. config_request r) o) (sym c.in-Some.ensures.next) ∙ ap Some (sym c.config_request.ensures.value) in
    (Some asking, (asks, asks, same, n.2, (refl, refl)), refl, λ a is. let p = is in let q : asking ≡ a = cc in ap (λ (x : Asking). x.came) (sym q))
