use Rattle.std.proofs.Common.{rules, ◌≡◌, Ok, Err, refl, subst}
use Rattle.std.specs.Fn.{CalledAt}
use Rattle.repo_dial.specs.Dialing.{HasMet, driven_by}
use Rattle.repo_dial.proofs.HandLemmas.{handed_as_try, handed_none, not_stopped}
use Rattle.repo_dial.proofs.TryLemmas.{carried, turned}
use Rattle.repo_dial.proofs.again.try_over.Goals as goal

pub returns-in-Err : goal.returns-in-Err
returns-in-Err g c =
    let m = c.in-Err.ensures in
    let t = turned (driven_by g.C.Client.who g.C.Client.job g.C.Client.fits g.C.Client.next g.C.Client.token_of) c.args.known.now c.args.client.now c.in-Err.error c.meet.new.self
    (g.E.KnownChannel.ends c.args.channel.now) (g.E.KnownChannel.ends c.meet.new.channel) m.0 m.1 m.2 m.3 in
    let other = not_stopped (g.C.Client.next c.args.client.now) c.args.known.now m.0 c.in-Err.error c.meet.new.self m.1 in
    (t.0, t.1, t.2, t.3, rw t.4 (handed_none (CalledAt g.F.FnMut) c.in-Err.error c.args.sink.now other))

pub returns-in-Ok : goal.returns-in-Ok
returns-in-Ok g c =
    let m = c.meet.ensures in
    let ok : c.meet.result ≡ Ok tt = search rules in
    let met = subst (λ r. HasMet (g.C.Client.next c.args.client.now) c.args.known.now m.0 r c.meet.new.self) ok m.1 in
    let w = c.in-Ok.ensures in
    let t = carried (driven_by g.C.Client.who g.C.Client.job g.C.Client.fits g.C.Client.next g.C.Client.token_of) c.args.known.now c.args.client.now (Ok c.in-Ok.count) (Ok c.in-Ok.count) c.carry.new.client c.meet.new.self
    (g.E.KnownChannel.ends c.args.channel.now) (g.E.KnownChannel.ends c.meet.new.channel) (g.E.KnownChannel.ends c.carry.new.channel) m.0 w.0 met m.2 m.3 w.1 w.2 w.3 refl in
    (t.0, t.1, t.2, t.3, rw t.4 (handed_as_try (CalledAt g.F.FnMut) (Ok c.in-Ok.count) w.0.said.talk c.args.sink.now c.carry.new.sink w.4))

pub returns-in-Err-carry : goal.returns-in-Err-carry
returns-in-Err-carry g c =
    let m = c.meet.ensures in
    let ok : c.meet.result ≡ Ok tt = search rules in
    let met = subst (λ r. HasMet (g.C.Client.next c.args.client.now) c.args.known.now m.0 r c.meet.new.self) ok m.1 in
    let w = c.in-Err-carry.ensures in
    let t = carried (driven_by g.C.Client.who g.C.Client.job g.C.Client.fits g.C.Client.next g.C.Client.token_of) c.args.known.now c.args.client.now (Err c.in-Err-carry.error) _ c.carry.new.client c.meet.new.self
    (g.E.KnownChannel.ends c.args.channel.now) (g.E.KnownChannel.ends c.meet.new.channel) (g.E.KnownChannel.ends c.carry.new.channel) m.0 w.0 met m.2 m.3 w.1 w.2 w.3 refl in
    (t.0, t.1, t.2, t.3, rw t.4 (handed_as_try (CalledAt g.F.FnMut) (Err c.in-Err-carry.error) w.0.said.talk c.args.sink.now c.carry.new.sink w.4))
