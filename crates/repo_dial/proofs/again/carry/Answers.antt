use Rattle.std.proofs.Common.{rules, ◌≡◌, ◌≢◌, [], ℕ, None, Result, Err, refl, sym, subst}
use Rattle.std.specs.Fn.{CalledAt}
use Rattle.std.proofs.lemmas.Result.{err_from_is_err_and}
use Rattle.repo_session.specs.declared.driving.DriveError.{DriveError}
use Rattle.repo_session.proofs.Handing.{handed_all}
use Rattle.repo_dial.specs.Dialing.{Call, TakesLeave, driven_by}
use Rattle.repo_dial.proofs.GoingLemmas.{goes_over, no_call, not_driven}
use Rattle.repo_dial.proofs.TryLemmas.{ends_own, no_leave}
use Rattle.repo_dial.proofs.again.carry.Goals as goal

pub returns-in_err-connection : goal.returns-in_err-connection
returns-in_err-connection g c =
    let p = err_from_is_err_and c.from_residual.result c.from_residual.ensures.1 in
    let came = g.E.KnownChannel.ends c.args.channel.now in
    let failed : Result ℕ DriveError = Err DriveError.Memory in
    rw (p.1, p.2) (
      no_call came,
      refl,
      refl,
      not_driven (driven_by g.C.Client.who g.C.Client.job g.C.Client.fits g.C.Client.next g.C.Client.token_of) c.args.client.now came,
      handed_all (CalledAt g.F.FnMut) (failed ≡ Err DriveError.Sink) [] c.args.sink.now c.args.sink.now (λ sink. absurd (cc)) refl,
    )

pub returns : goal.returns
returns g c =
    let handed = c.drive_over-driven.ensures.carries [] [] c.in_ok-connection.ensures in
    let n = handed.0 in
    let f = c.give_back.ensures in
    let client = c.drive_over-driven.new.client in
    let left = g.E.KnownChannel.ends c.drive_over-driven.new.channel in
    let call : Call = record { came = g.E.KnownChannel.ends c.args.channel.now; passages = n.passages; said = n.said; left = left; farewell = f.0 } in
    let is : c.drive_over-driven.result ≡ Err DriveError.Sink = search rules in (
      call,
      refl,
      sym f.2,
      record {
        over = record { goes = goes_over g.E.Channel.hears g.E.Channel.says g.E.KnownChannel.ends g.met.E.KnownChannel.hears_on g.met.E.KnownChannel.says_on _ _ n.passages n.passes; in_turn = n.in_turn; bytes = n.bytes };
        drives = n.drives;
        same = c.drive_over-driven.ensures.job;
        leaves = subst (λ r. TakesLeave r (g.C.Client.next client) (g.C.Client.token_of client) call) (sym is) f.1;
        ends = ends_own g.C.Client.fits client (g.C.Client.rule (g.C.Client.job client)) (g.C.Client.who (g.C.Client.job client)) (g.C.Client.next client) (g.C.Client.ended client) (g.C.Client.token_of client) (λ es h. g.met.C.Client.obedient client es h) (λ es h. g.met.C.Client.ticketed client es h) left f.0 f.1;
      },
      handed.1,
    )

pub returns-then-ne : goal.returns-then-ne
returns-then-ne g c =
    let handed = c.drive_over-driven.ensures.carries [] [] c.in_ok-connection.ensures in
    let n = handed.0 in
    let client = c.drive_over-driven.new.client in
    let call : Call = record { came = g.E.KnownChannel.ends c.args.channel.now; passages = n.passages; said = n.said; left = g.E.KnownChannel.ends c.drive_over-driven.new.channel; farewell = None } in
    let isnt : c.drive_over-driven.result ≢ Err DriveError.Sink = search rules in (
      call,
      refl,
      refl,
      record {
        over = record { goes = goes_over g.E.Channel.hears g.E.Channel.says g.E.KnownChannel.ends g.met.E.KnownChannel.hears_on g.met.E.KnownChannel.says_on _ _ n.passages n.passes; in_turn = n.in_turn; bytes = n.bytes };
        drives = n.drives;
        same = c.drive_over-driven.ensures.job;
        leaves = no_leave c.drive_over-driven.result (g.C.Client.next client) (g.C.Client.token_of client) call isnt refl;
        ends = tt;
      },
      handed.1,
    )
