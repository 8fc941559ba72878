use Rattle.std.specs.Prelude.{◌-◌, ◌^◌}
use Rattle.std.proofs.Common.{arith, ◌≤◌, refl, inl, inr, ◌∙◌}
use Rattle.repo_session.specs.Traces.{fed_in}
use Rattle.repo_backup.specs.Items.{place_of}
use Rattle.repo_feeding.specs.FedStates.{feeder, feeder_of, told_to}
use Rattle.repo_feeding.specs.Sources.{whole_of}
use Rattle.repo_feeding.proofs.Feeding.{hungry_less, no_reason, sound_of}
use Rattle.repo_feeding.proofs.Places.{less_endless, less_on}
use Rattle.repo_backup.proofs.PackingLemmas.{on_any}
use Rattle.repo_feeding.proofs.fed_backups.FedBackup.feed_up.Goals as goal

pub loop-turn-init : goal.loop-turn-init
loop-turn-init g c =
    let s = c.args.self.now in
    let f = feeder_of g.S.Source.told g.S.Source.name g.S.Source.failed g.S.Source.rewinds s in
    record { goes = λ es fs upto. (fs, upto); less = λ es fs upto hungry. hungry_less f s.backup es fs hungry upto; full = λ none. refl; still = λ none. none; job = refl; holder = refl; awaited = refl }

pub loop-turn-preserved : goal.loop-turn-preserved
loop-turn-preserved g c =
    let hungry = c.wants.ensures.0 c.if-not-wants.false in
    record {
      goes = λ es fs upto. (let m = c.loop-turn.invariant.goes es fs upto in c.feed_once.ensures.goes es m.0 m.1);
      less = λ es fs upto now. (
          let m = c.loop-turn.invariant.goes es fs upto in
          less_on c.loop-turn.turn _ _ _ _ (c.in_ok-feed_once.ensures.fewer es m.0 m.1 now) (c.loop-turn.invariant.less es fs upto hungry));
      full = λ none. absurd (c.loop-turn.invariant.still none hungry);
      still = λ none. absurd (c.loop-turn.invariant.still none hungry);
      job = c.feed_once.ensures.job ∙ c.loop-turn.invariant.job;
      holder = c.feed_once.ensures.holder ∙ c.loop-turn.invariant.holder;
      awaited = c.feed_once.ensures.awaited ∙ c.loop-turn.invariant.awaited;
    }

pub returns-then-not-wants-clause-up : goal.returns-then-not-wants-clause-up
returns-then-not-wants-clause-up g c = λ es fs upto. (
    let m = c.loop-turn.invariant.goes es fs upto in
    record { fs = m.0; upto = m.1; full = λ hungry. (let h = c.wants.ensures.1 hungry in absurd (cc)) })

pub returns-then-not-wants-clause-full : goal.returns-then-not-wants-clause-full
returns-then-not-wants-clause-full g c = c.loop-turn.invariant.full

pub returns-then-not-wants-clause-job : goal.returns-then-not-wants-clause-job
returns-then-not-wants-clause-job g c = c.loop-turn.invariant.job

up_then : goal.returns-then-wants-clause-up
up_then g c = λ es fs upto. (
    let m = c.loop-turn.invariant.goes es fs upto in
    let s = c.loop-turn.self in
    let told = told_to g.S.Source.told g.S.Source.name s in
    let f = feeder s.backup told s.room (g.S.Source.failed s.source) g.S.Source.rewinds s.given_up in
    let hungry = c.wants-2.ensures.0 c.if-wants.true in
    let sound = sound_of (g.S.Source.failed s.source) g.S.Source.rewinds (whole_of told) (place_of (fed_in m.0)) s.given_up (no_reason f es m.0 hungry m.1.fed) (m.1.caused (inr (inl hungry.1))) in
    let many : 2 ^ 128 - 1 ≤ c.loop-turn.turn = omega (arith, c.loop-turn-test.false) in
    c.give_up.ensures.up es m.0 m.1.fed ((sound, less_endless c.loop-turn.turn told s.room many (c.loop-turn.invariant.less es fs upto hungry)), λ is. absurd (cc)))

pub returns-then-wants-clause-up : goal.returns-then-wants-clause-up
returns-then-wants-clause-up g c = up_then g c

pub returns-else-wants-clause-up : goal.returns-else-wants-clause-up
returns-else-wants-clause-up g c = λ es fs upto. (
    let m = c.loop-turn.invariant.goes es fs upto in
    record { fs = m.0; upto = m.1; full = λ hungry. (let h = c.wants-2.ensures.1 hungry in absurd (cc)) })

pub returns-then-wants-clause-goes : goal.returns-then-wants-clause-goes
returns-then-wants-clause-goes g c = λ es fs upto. (
    let up = up_then g c es fs upto in
    (up.fs, up.upto))

pub returns-in_err-feed_once-clause-goes : goal.returns-in_err-feed_once-clause-goes
returns-in_err-feed_once-clause-goes g c = λ es fs upto. (let m = c.loop-turn.invariant.goes es fs upto in c.feed_once.ensures.goes es m.0 m.1)

pub returns-in_err-feed_once-clause-short : goal.returns-in_err-feed_once-clause-short
returns-in_err-feed_once-clause-short g c = on_any _ c.from_residual.result (λ es fs upto. (let m = c.loop-turn.invariant.goes es fs upto in c.in_err-feed_once.ensures.short es m.0 m.1))
