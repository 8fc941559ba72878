use Rattle.std.proofs.Common.{◌≡◌, ◌<◌, ◌+◌, ◌-◌, Err, length, take, drop, ap, subst, arith}
use Rattle.std.specs.Io.KnownBytes.{Consumes}
use Rattle.std.proofs.KnownBytes.{Consumes-nil}
use Rattle.std.proofs.lemmas.List.{length-drop, take_all}
use Rattle.std.proofs.lemmas.Result.{err_from_is_err_and}
use Rattle.repo_play.specs.Frames.{Differs}
use Rattle.repo_play.specs.declared.faults.CarryError.{CarryError}
use Rattle.repo_play.proofs.Hearing.{differs_later, heard_more}
use Rattle.repo_play.proofs.frames.hear.Goals as goal

pub loop-heard-init : goal.loop-heard-init
loop-heard-init g c = record { read = Consumes-nil (g.R.Read.remaining c.args.reader.now); within = omega arith; room = c.requires }

pub loop-heard-preserved : goal.loop-heard-preserved
loop-heard-preserved g c =
    let remaining = g.R.Read.remaining in
    let coming = c.args.coming.now in
    let heard = c.loop-heard.heard in
    let i = c.loop-heard.invariant in
    let left = length-drop heard coming in
    let whole : take (length coming - heard) (drop heard coming) ≡ drop heard coming = take_all (length coming - heard) (drop heard coming) (omega (arith, left)) in
    let more = c.in_ok-heard.ensures.heard in
    let most = more.1 in
    let size = ap length whole in
    let within = i.within in
    let long = i.room in
    let same = c.hear_some.ensures.room in
    let read = subst (λ b. Consumes (remaining c.loop-heard.reader) (remaining c.hear_some.new.reader) (take c.in_ok-heard.field-0 b)) whole more.2 in
    record {
      read = heard_more (remaining c.args.reader.now) (remaining c.loop-heard.reader) (remaining c.hear_some.new.reader) coming heard c.in_ok-heard.field-0 i.read read;
      within = omega (arith, most, size, left, within);
      room = omega (arith, long, same);
    }

pub loop-heard-smaller : goal.loop-heard-smaller
loop-heard-smaller g c =
    let coming = c.args.coming.now in
    let heard = c.loop-heard.heard in
    let left = length-drop heard coming in
    let whole : take (length coming - heard) (drop heard coming) ≡ drop heard coming = take_all (length coming - heard) (drop heard coming) (omega (arith, left)) in
    let size = ap length whole in
    let some = c.in_ok-heard.ensures.heard.0 in
    let most = c.in_ok-heard.ensures.heard.1 in
    let within = c.loop-heard.invariant.within in
    let less : length coming - (heard + c.in_ok-heard.field-0) < length coming - heard = omega (arith, some, most, size, left, within) in
    less

pub returns-in_err-heard-clause-malformed : goal.returns-in_err-heard-clause-malformed
returns-in_err-heard-clause-malformed g c = λ e.
    let first = g.R.Read.remaining c.args.reader.now in
    let old = g.R.Read.remaining c.loop-heard.reader in
    let new = g.R.Read.remaining c.hear_some.new.reader in
    let coming = c.args.coming.now in
    let heard = c.loop-heard.heard in
    let left = length-drop heard coming in
    let whole : take (length coming - heard) (drop heard coming) ≡ drop heard coming = take_all (length coming - heard) (drop heard coming) (omega (arith, left)) in
    let p = err_from_is_err_and c.from_residual.result c.from_residual.ensures.1 in
    let is : c.in_err-heard.field-0.0 ≡ CarryError.Malformed = cc (p.1, p.2, e) in
    let more = c.in_err-heard.ensures.malformed (ap Err is) in
    differs_later first old new coming heard c.loop-heard.invariant.within c.loop-heard.invariant.read (subst (λ b. Differs b old new) whole more)

pub returns-clause-heard : goal.returns-clause-heard
returns-clause-heard g c =
    subst (Consumes (g.R.Read.remaining c.args.reader.now) (g.R.Read.remaining c.loop-heard.reader)) (take_all c.loop-heard.heard c.args.coming.now c.loop-heard-test.false) c.loop-heard.invariant.read
