use Rattle.std.proofs.Common.{rules, arith, ◌≡◌, ◌∙◌, refl, Some, sym, ap, subst}
use Rattle.repo_wire.specs.declared.messages.Say.{Say}
use Rattle.repo_store.specs.Stores.{SavesConfig}
use Rattle.repo_store.specs.Upgrades.{IsUpgradeOf}
use Rattle.repo_store.proofs.Arming.{looked_up, look_up_failed, second_fetch_failed, fetched_both, write_made_after, write_failed_after, undue_plain, raised_already}
use Rattle.repo_store.proofs.Changes.{config_can}
use Rattle.repo_store.proofs.Failing.{due_of, newly_raised, raise_failed, raised_made}
use Rattle.repo_store.proofs.upgrades.answer_upgrade.Goals as goal

pub returns-in-Err-clause-armed : goal.returns-in-Err-clause-armed
returns-in-Err-clause-armed g c h =
    look_up_failed _ _ _ _ (g.S.Shelf.store c.args.shelf.now) _ _ (g.S.Shelf.store c.live_as.new.self) c.in-Err.error (search rules) (c.in-Err.ensures.armed h) (omega arith) tt (c.in-Err.ensures.law h) (λ always. always.1 refl)

pub returns-in-None-clause-armed : goal.returns-in-None-clause-armed
returns-in-None-clause-armed g c h =
    looked_up _ _ _ _ (g.S.Shelf.store c.args.shelf.now) _ _ (g.S.Shelf.store c.live_as.new.self) c.in-Ok.live (c.in-Ok.ensures.armed h) (omega arith) (search rules) (λ w. w.1 tt) (λ fault. absurd (cc)) (search rules)

pub returns-in-Some-false-clause-armed : goal.returns-in-Some-false-clause-armed
returns-in-Some-false-clause-armed g c h =
    looked_up _ _ _ _ (g.S.Shelf.store c.args.shelf.now) _ _ (g.S.Shelf.store c.live_as.new.self) c.in-Ok.live (c.in-Ok.ensures.armed h) (omega arith) (search rules) (λ w. w.1 tt) (λ fault. absurd (cc)) (search rules)

pub returns-in-Err-config-clause-armed : goal.returns-in-Err-config-clause-armed
returns-in-Err-config-clause-armed g c h =
    second_fetch_failed _ _ _ _ _ _ (g.S.Shelf.store c.args.shelf.now) _ _ (g.S.Shelf.store c.config.new.self) c.in-Ok.live c.in-Err-config.error (search rules) (c.in-Ok.ensures.armed h) (c.in-Err-config.ensures.armed (c.in-Ok.ensures.honest h)) (omega arith) tt
    (c.in-Err-config.ensures.law (c.in-Ok.ensures.honest h) ∙ (c.in-Ok.ensures.law h).1)

pub returns-in-Refuse-clause-armed : goal.returns-in-Refuse-clause-armed
returns-in-Refuse-clause-armed g c h =
    fetched_both _ _ _ _ _ _ (g.S.Shelf.store c.args.shelf.now) _ _ (g.S.Shelf.store c.config.new.self) c.in-Ok.live c.in-Ok-config.found (c.in-Ok.ensures.armed h) (c.in-Ok-config.ensures.armed (c.in-Ok.ensures.honest h)) (omega arith) (λ w. w.1 tt)
    (undue_plain c.in-Ok-config.found c.in-Refuse.code c.in-Refuse.ensures) (search rules)

pub returns-in-Nothing-clause-armed : goal.returns-in-Nothing-clause-armed
returns-in-Nothing-clause-armed g c h =
    let old = g.S.Shelf.store c.args.shelf.now in
    let f = c.in-Ok-config.ensures.law (c.in-Ok.ensures.honest h) in
    let r = c.in-Ok.ensures.law h in
    fetched_both _ _ _ _ _ _ old _ _ (g.S.Shelf.store c.config.new.self) c.in-Ok.live c.in-Ok-config.found (c.in-Ok.ensures.armed h) (c.in-Ok-config.ensures.armed (c.in-Ok.ensures.honest h)) (omega arith)
    (λ w. w.0 (raised_already old c.in-Ok-config.found (f.0 ∙ ap (λ s. s.config) r.1) c.in-Nothing.ensures)) (λ fault. absurd (cc)) (search rules)

pub returns-in-Ok-save_config-clause-armed : goal.returns-in-Ok-save_config-clause-armed
returns-in-Ok-save_config-clause-armed g c h =
    let old = g.S.Shelf.store c.args.shelf.now in
    let honest = c.in-Ok.ensures.honest h in
    let r = c.in-Ok.ensures.law h in
    let f = c.in-Ok-config.ensures.law honest in
    let due = due_of c.in-Ok-config.found c.in-Save.text c.in-Save.ensures in
    let config : old.config ≡ Some due.0 = sym (f.0 ∙ ap (λ s. s.config) r.1) ∙ due.1 in
    let anew = subst (IsUpgradeOf due.0) (sym c.as_slice.ensures.value) due.2 in
    write_made_after (SavesConfig c.as_slice.result.now) _ _ _ _ _ _ _ _ old _ (g.S.Shelf.store c.save_config.new.self) _ Say.Done c.in-Ok.live c.in-Ok-config.found (c.in-Ok.ensures.armed h) (c.in-Ok-config.ensures.armed honest) (omega arith)
    (newly_raised old c.args.token due.0 c.as_slice.result.now config anew, λ x. elim x [ ]) (λ fault. absurd (cc)) (c.in-Ok-save_config.ensures.armed (c.in-Ok-config.ensures.honest honest)) (search rules)

pub returns-clause-step : goal.returns-clause-step
returns-clause-step g c h =
    let old = g.S.Shelf.store c.args.shelf.now in
    let honest = c.in-Ok.ensures.honest h in
    let r = c.in-Ok.ensures.law h in
    let f = c.in-Ok-config.ensures.law honest in
    let due = due_of c.in-Ok-config.found c.in-Save.text c.in-Save.ensures in
    let config : old.config ≡ Some due.0 = sym (f.0 ∙ ap (λ s. s.config) r.1) ∙ due.1 in
    let anew = subst (IsUpgradeOf due.0) (sym c.as_slice.ensures.value) due.2 in
    rw c.refusal-in-Err-save_config.ensures
    (raise_failed old _ (g.S.Shelf.store c.save_config.new.self) c.in-Ok.live c.args.token due.0 c.as_slice.result.now c.in-Err-save_config.error (f.1 ∙ r.1) r.0 (search rules) config anew
    (c.in-Err-save_config.ensures.law (c.in-Ok-config.ensures.honest honest)))

pub returns-clause-armed : goal.returns-clause-armed
returns-clause-armed g c h =
    let old = g.S.Shelf.store c.args.shelf.now in
    let honest = c.in-Ok.ensures.honest h in
    let r = c.in-Ok.ensures.law h in
    let f = c.in-Ok-config.ensures.law honest in
    let due = due_of c.in-Ok-config.found c.in-Save.text c.in-Save.ensures in
    let config : old.config ≡ Some due.0 = sym (f.0 ∙ ap (λ s. s.config) r.1) ∙ due.1 in
    let anew = subst (IsUpgradeOf due.0) (sym c.as_slice.ensures.value) due.2 in
    write_failed_after (SavesConfig c.as_slice.result.now) _ _ _ _ _ _ _ _ old _ (g.S.Shelf.store c.save_config.new.self) _ Say.Done _ c.in-Ok.live c.in-Ok-config.found c.in-Err-save_config.error c.refusal-in-Err-save_config.ensures (f.1 ∙ r.1)
    (c.in-Ok.ensures.armed h) (c.in-Ok-config.ensures.armed honest) tt (omega arith) (newly_raised old c.args.token due.0 c.as_slice.result.now config anew, λ x. elim x [ ])
    (raised_made old c.in-Ok.live c.args.token due.0 c.as_slice.result.now r.0 (search rules) config anew) (config_can old c.as_slice.result.now)
    (c.in-Err-save_config.ensures.armed (c.in-Ok-config.ensures.honest honest)) (returns-clause-step g c h)
