use Rattle.std.proofs.Common.{subst}
use Rattle.std.proofs.lemmas.Result.{IfOk-weaker, on_err_weaker}
use Rattle.repo_prune.specs.PruneStates.{IsListingOf}
use Rattle.repo_prune.proofs.PruneListing.{heeds_listing, steps_listing, knows_listing}
use Rattle.repo_prune.proofs.prunes.Prune.take_listing.Goals as goal

pub returns-in-Snapshot-clause-steps : goal.returns-in-Snapshot-clause-steps
returns-in-Snapshot-clause-steps c = IfOk-weaker c.take_snapshots.result _ _ (λ step h is. h c.args.token (subst (λ j. IsListingOf j c.args.ask.now) c.in-Snapshot.is is)) c.take_snapshots.ensures.steps

pub returns-in-Index-clause-steps : goal.returns-in-Index-clause-steps
returns-in-Index-clause-steps c = IfOk-weaker c.take_indexes.result _ _ (λ step h is who knows. h c.args.token (subst (λ j. IsListingOf j c.args.ask.now) c.in-Index.is is) who) c.take_indexes.ensures.steps

pub returns-in-Pack-clause-steps : goal.returns-in-Pack-clause-steps
returns-in-Pack-clause-steps c = IfOk-weaker c.take_page.result _ _ (λ step h is who knows.
    steps_listing c.args.self.now c.args.token c.args.ask.now c.args.say.now step c.take_page.new.self h (subst (λ j. IsListingOf j c.args.ask.now) c.in-Pack.is is) who) c.take_page.ensures.steps

pub returns-in-Pack-clause-knows : goal.returns-in-Pack-clause-knows
returns-in-Pack-clause-knows c = on_err_weaker c.take_page.result (λ h is.
    knows_listing c.args.self.now c.args.ask.now c.take_page.new.self h (subst (λ j. IsListingOf j c.args.ask.now) c.in-Pack.is is)) c.take_page.ensures.knows

pub returns-in-Snapshot-clause-heeds : goal.returns-in-Snapshot-clause-heeds
returns-in-Snapshot-clause-heeds c = IfOk-weaker c.take_snapshots.result _ _ (λ step h is. h c.args.token (subst (λ j. IsListingOf j c.args.ask.now) c.in-Snapshot.is is)) c.take_snapshots.ensures.heeds

pub returns-in-Index-clause-heeds : goal.returns-in-Index-clause-heeds
returns-in-Index-clause-heeds c = IfOk-weaker c.take_indexes.result _ _ (λ step h is who same. h c.args.token (subst (λ j. IsListingOf j c.args.ask.now) c.in-Index.is is) who) c.take_indexes.ensures.heeds

pub returns-in-Pack-clause-heeds : goal.returns-in-Pack-clause-heeds
returns-in-Pack-clause-heeds c = IfOk-weaker c.take_page.result _ _ (λ step h is who same.
    heeds_listing c.args.self.now c.args.token c.args.ask.now c.args.say.now step h (subst (λ j. IsListingOf j c.args.ask.now) c.in-Pack.is is) who) c.take_page.ensures.heeds
