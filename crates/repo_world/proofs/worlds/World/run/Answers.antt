use Rattle.std.proofs.Common.{rules, ◌≡◌, ◌<◌, true, false, length, take, refl, sym, subst, ◌∙◌}
use Rattle.std.proofs.lemmas.Option.{get_or_from_slice_get}
use Rattle.std.specs.Prelude.{⊤}
use Rattle.std.specs.Result.{is_err}
use Rattle.repo_store.specs.Failing.{HasFailed}
use Rattle.repo_world.specs.Calmness.{IsCalm, IsLight}
use Rattle.repo_world.specs.Events.{Happens, Run}
use Rattle.repo_world.specs.Flows.{world_of}
use Rattle.repo_world.specs.Rules.{AllAreRuled}
use Rattle.repo_world.specs.Stages.{IsSafely, Leads, Stage, seen}
use Rattle.repo_world.specs.World.{World}
use Rattle.repo_world.specs.declared.events.Event.{Event}
use Rattle.repo_world.proofs.Standing.{happens_any, if_failed, if_well_with, led_more, not_failed, ran_more, safely}
use Rattle.repo_world.proofs.worlds.World.run.Goals as goal

pub loop-applied-init : goal.loop-applied-init
loop-applied-init g c =
    let store = g.S.Shelf.store in
    record {
      ran = refl;
      led = refl;
      safe = subst (λ (stage : Stage g.row.S.Denot). IsSafely (seen store stage)) c.self.view_is (safely (world_of (store c.self.inside.shelf.inner.inner) c.self.inside.flow) c.self.invariant.reached);
      ruled = subst (λ (stage : Stage g.row.S.Denot). AllAreRuled (seen store stage)) c.self.view_is c.clients.ensures.ruled;
    }

pub loop-applied-preserved : goal.loop-applied-preserved
loop-applied-preserved g c =
    let store = g.S.Shelf.store in
    let failed = g.S.Shelf.failed in
    let n = c.loop-applied.applied in
    let events = c.args.events.now in
    let event = c.index-events-applied.result in
    let old = c.loop-applied.self in
    let new = c.apply_lent.new.self in
    let less : n < length events = search rules in
    let well : is_err c.apply_lent.result ≡ false = search rules in
    let leads = if_well_with c.apply_lent.result (λ applied. Leads store failed old event applied new) well c.apply_lent.ensures.happens in
    let happens = happens_any (HasFailed (failed old.device) (failed new.device)) (seen store old) event leads.0 (seen store new) leads.1 in
    let here = subst (λ (e : Event). Happens ⊤ (seen store old) e leads.0 (seen store new)) c.index-events-applied.is happens in
    record {
      led = led_more store failed c.args.self.now events n event old leads.0 new less c.loop-applied.invariant.led
          (subst (λ (e : Event). Leads store failed old e leads.0 new) c.index-events-applied.is leads.1);
      ran = ran_more (seen store c.args.self.now) events n event (seen store old) leads.0 (seen store new) less c.loop-applied.invariant.ran here;
      safe = c.apply_lent.ensures.safe;
      ruled = c.apply_lent.ensures.ruled;
    }

pub returns-then-is_err-clause-stopped : goal.returns-then-is_err-clause-stopped
returns-then-is_err-clause-stopped g c =
    let store = g.S.Shelf.store in
    let n = c.loop-applied.applied in
    let events = c.args.events.now in
    let less : n < length events = search rules in
    let bad : is_err c.apply_lent.result ≡ true = search rules in
    let same = if_failed c.apply_lent.result (seen store c.apply_lent.new.self ≡ seen store c.loop-applied.self) bad c.apply_lent.ensures.err in (
      less,
      subst (λ (w : World). Run (seen store c.args.self.now) (take n events) w) (sym same) c.loop-applied.invariant.ran,
      (c.loop-applied.self, c.loop-applied.invariant.led, same),
    )

pub returns-then-is_err-clause-wanted : goal.returns-then-is_err-clause-wanted
returns-then-is_err-clause-wanted g c = λ event at light calm. (
    let store = g.S.Shelf.store in
    let item = c.index-events-applied.result in
    let bad : is_err c.apply_lent.result ≡ true = search rules in
    let same = if_failed c.apply_lent.result (seen store c.apply_lent.new.self ≡ seen store c.loop-applied.self) bad c.apply_lent.ensures.err in
    let is : event ≡ item = sym (c.index-events-applied.is ∙ get_or_from_slice_get c.args.events.now c.loop-applied.applied event item at) in
    not_failed c.apply_lent.result (c.apply_lent.ensures.calm (subst IsLight is light) (subst (λ e. IsCalm (seen store c.loop-applied.self) e) is (subst (λ w. IsCalm w event) same calm))) bad)
