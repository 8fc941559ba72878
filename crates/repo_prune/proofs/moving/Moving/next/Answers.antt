use Rattle.std.proofs.Common.{◌≤◌, [], List, length, Vec, Global, ap, subst, inl, refl, sym, ◌∙◌}
use Rattle.std.proofs.lemmas.Result.{on_err_weaker, IfOk-weaker}
use Rattle.repo_index.specs.declared.facts.PackFacts.{PackFacts}
use Rattle.repo_prune.proofs.Repacking.{ends_before, unsealed, sent_before}
use Rattle.repo_prune.specs.Moving.{MovesOn}
use Rattle.repo_prune.proofs.moving.Moving.next.Goals as goal

pub returns-then-is_due-clause-on : goal.returns-then-is_due-clause-on
returns-then-is_due-clause-on c = IfOk-weaker c.send.result _ _
    (λ moved on sent sealed moving.
    let m = c.in_ok-seal.ensures.moving sent sealed (c.if-is_due.ensures.full refl) moving in
    subst (λ (ls : List PackFacts). MovesOn sent ls moved c.send.new.self) (ap (λ (v : Vec PackFacts Global). v.items) c.seal.ensures.listed) (on sent m.0 m.1))
    c.send.ensures.on

-- where no blob is left, all were sent
pub returns-in-None-clause-on : goal.returns-in-None-clause-on
returns-in-None-clause-on c = λ sent sealed moving.
    let room = c.if-is_due.ensures.open refl in
    let alone = unsealed c.args.self.now sent sealed room.0 moving in
    let there = rw c.as_slice.ensures.value at c.in-None.ensures in
    let all : length c.args.self.now.moves.items ≤ c.args.self.now.added = ends_before c.args.self.now.moves.items c.args.self.now.added (sym there) in
    (record { sealed_is = alone.sealed_is; moved = alone.moved; within = alone.within; counted = alone.counted; aim = alone.aim; due = alone.due; alone = alone.alone; prompt = alone.prompt; full = alone.full }, room.2 all, all, refl)

pub returns-then-is_due-clause-err : goal.returns-then-is_due-clause-err
returns-then-is_due-clause-err c = on_err_weaker c.send.result
    (λ stays sent sealed moving.
    let m = c.in_ok-seal.ensures.moving sent sealed (c.if-is_due.ensures.full refl) moving in
    let s = stays sent m.0 m.1 in
    let kept = c.seal.ensures.kept in
    record { sealed = s.sealed; moving = s.moving; listed = s.listed ∙ ap (λ (v : Vec PackFacts Global). v.items) c.seal.ensures.listed; moves = s.moves ∙ kept.0; added = s.added ∙ kept.1; asked = s.asked ∙ kept.2 })
    c.send.ensures.err

pub returns-in-Some-clause-on : goal.returns-in-Some-clause-on
returns-in-Some-clause-on c = λ sent sealed moving.
    let m = c.args.self.now in
    let room = c.if-is_due.ensures.open refl in
    let alone = unsealed m sent sealed room.0 moving in
    let there = rw c.as_slice.ensures.value at c.in-Some.ensures in
    (record { moving = record { sealed_is = alone.sealed_is; moved = alone.moved; within = alone.within; counted = alone.counted; aim = alone.aim; due = alone.due; alone = alone.alone; prompt = alone.prompt; full = alone.full }; before = sent_before m sent [] alone; asked = sym there; next = inl (refl, room.1, room.0) }, refl, refl, room.1)
