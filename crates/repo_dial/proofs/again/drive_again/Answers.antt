use Rattle.std.proofs.Common.{◌≡◌, ℕ, true, Result, Err, arith, rules, refl, subst}
use Rattle.std.specs.Fn.{CalledAt}
use Rattle.repo_dial.specs.Dialing.{driven_by, is_cut}
use Rattle.repo_dial.specs.declared.again.TryError.{TryError}
use Rattle.repo_dial.proofs.DialLemmas.{Tried, tried_first, tried_again, drives_again}
use Rattle.repo_dial.proofs.again.drive_again.Goals.{in_default-via-in-Err+else-is_cut, in_default-via-in-Ok-1}
use Rattle.repo_dial.proofs.again.drive_again.Goals as goal

pub loop-turn-init : goal.loop-turn-init
loop-turn-init g c =
    let e = c.try_once-result.ensures in (
      c.new-known.result.asks,
      c.new-known.ensures.asks,
      omega arith,
      tried_first (driven_by g.C.Client.who g.C.Client.job g.C.Client.fits g.C.Client.next g.C.Client.token_of) (CalledAt g.F.FnMut) c.new-known.result.asks c.args.client.now c.args.sink.now c.new-known.result c.try_once-result.result c.try_once-result.new.client
          c.try_once-result.new.sink c.try_once-result.new.known (g.D.Dial.connections c.args.dial.now) (g.D.Dial.connections c.try_once-result.new.dial) e.0 c.new-known.ensures.config refl e.1 e.2 e.3,
    )

pub loop-turn-preserved : goal.loop-turn-preserved
loop-turn-preserved g c =
    let e = c.try_once-result-in-Err.ensures in
    let inv = c.loop-turn.invariant in
    let before = subst (λ (r : Result ℕ TryError). Tried (driven_by g.C.Client.who g.C.Client.job g.C.Client.fits g.C.Client.next g.C.Client.token_of) (CalledAt g.F.FnMut) inv.0 c.args.client.now c.args.sink.now r c.loop-turn.client c.loop-turn.sink c.loop-turn.known
    (g.D.Dial.connections c.args.dial.now) (g.D.Dial.connections c.loop-turn.dial) c.loop-turn.turn) c.in-Err.is inv.3 in (
      inv.0,
      inv.1,
      omega (arith, c.loop-turn-test.true),
      tried_again (driven_by g.C.Client.who g.C.Client.job g.C.Client.fits g.C.Client.next g.C.Client.token_of) (CalledAt g.F.FnMut) inv.0 c.args.client.now c.args.sink.now c.in-Err.error c.try_once-result-in-Err.result c.loop-turn.client
          c.try_once-result-in-Err.new.client c.loop-turn.sink c.try_once-result-in-Err.new.sink c.loop-turn.known c.try_once-result-in-Err.new.known (g.D.Dial.connections c.args.dial.now) (g.D.Dial.connections c.loop-turn.dial)
          (g.D.Dial.connections c.try_once-result-in-Err.new.dial) c.loop-turn.turn e.0 before (search rules) e.1 e.2 e.3,
    )

pub returns-in_default-clause-again : goal.returns-in_default-clause-again
returns-in_default-clause-again g c =
    let inv = c.loop-turn.invariant in
    let same : c.loop-turn.result ≡ c.in_default-1.result = search rules in
    let tried = subst (λ (r : Result ℕ TryError). Tried (driven_by g.C.Client.who g.C.Client.job g.C.Client.fits g.C.Client.next g.C.Client.token_of) (CalledAt g.F.FnMut) inv.0 c.args.client.now c.args.sink.now r c.loop-turn.client c.loop-turn.sink c.loop-turn.known
    (g.D.Dial.connections c.args.dial.now) (g.D.Dial.connections c.loop-turn.dial) c.loop-turn.turn) same inv.3 in
    let spent : (error : TryError) → c.in_default-1.result ≡ Err error → is_cut error ≡ true → c.loop-turn.turn ≡ c.args.retry = λ error is cut. elim c.in_default-1.branch [
      | in_default-via-in-Err+else-is_cut w ↦ search rules
      | in_default-via-in-Ok-1 w ↦ search rules
    ] in
    drives_again (driven_by g.C.Client.who g.C.Client.job g.C.Client.fits g.C.Client.next g.C.Client.token_of) (CalledAt g.F.FnMut) inv.0 c.args.client.now c.args.sink.now c.args.retry c.in_default-1.result c.loop-turn.client c.loop-turn.sink
    c.loop-turn.known (g.D.Dial.connections c.args.dial.now) (g.D.Dial.connections c.loop-turn.dial) c.loop-turn.turn tried (omega (arith, inv.2)) inv.1 spent

pub returns-clause-again : goal.returns-clause-again
returns-clause-again g c =
    let inv = c.loop-turn.invariant in
    drives_again (driven_by g.C.Client.who g.C.Client.job g.C.Client.fits g.C.Client.next g.C.Client.token_of) (CalledAt g.F.FnMut) inv.0 c.args.client.now c.args.sink.now c.args.retry c.loop-turn.result c.loop-turn.client c.loop-turn.sink c.loop-turn.known
    (g.D.Dial.connections c.args.dial.now) (g.D.Dial.connections c.loop-turn.dial) c.loop-turn.turn inv.3 (omega (arith, inv.2)) inv.1 (λ error is cut. omega (arith, inv.2, c.loop-turn-test.false))
