use Rattle.std.proofs.Common.{sym, ap, subst, ⊎_elim, Err, ◌∙◌}
use Rattle.std.proofs.lemmas.Option.{same_Some}
use Rattle.repo_session.specs.Traces.{fed_in}
use Rattle.repo_backup.specs.Items.{place_of}
use Rattle.repo_feeding.specs.FedStates.{told_to, IsRefusal}
use Rattle.repo_feeding.specs.Reasons.{Justifies}
use Rattle.repo_feeding.specs.Sources.{whole_of}
use Rattle.repo_feeding.specs.declared.reasons.GivenUp.{GivenUp}
use Rattle.repo_feeding.proofs.fed_backups.FedBackup.feed_once.Goals as goal

pub returns-then-is_for_memory-clause-goes : goal.returns-then-is_for_memory-clause-goes
returns-then-is_for_memory-clause-goes g c = λ es fs upto. (
    let is = c.is_for_memory.ensures.0 c.if-is_for_memory.true in
    (fs, c.in-Err.ensures.still (subst IsRefusal (sym is) tt) es fs upto))

pub returns-then-is_for_memory-clause-short : goal.returns-then-is_for_memory-clause-short
returns-then-is_for_memory-clause-short g c = λ es fs upto. (
    let is = c.is_for_memory.ensures.0 c.if-is_for_memory.true in
    let new = c.feed_next.new.self in
    let part = c.in-Err.ensures.err es fs upto in
    (fs, c.in-Err.ensures.still (subst IsRefusal (sym is) tt) es fs upto, subst (λ r. Justifies (g.S.Source.failed new.source) (whole_of (told_to g.S.Source.told g.S.Source.name new)) (place_of (fed_in fs)) r) is part.1))

pub returns-clause-goes : goal.returns-clause-goes
returns-clause-goes g c = λ es fs upto. (
    let part = c.in-Err.ensures.err es fs upto in
    let up = c.give_up.ensures.up es fs part.0 (part.1, λ is. (let memory = c.is_for_memory.ensures.1 is in absurd (cc))) in
    (up.fs, up.upto))

pub returns-clause-cause : goal.returns-clause-cause
returns-clause-cause g c = λ is. (
    ⊎_elim (λ kept. absurd (c.in-Err.ensures.known (ap Err (same_Some c.in-Err.reason GivenUp.Endless (sym kept ∙ is))))) (λ same. sym c.in-Err.ensures.same ∙ sym same ∙ is) c.give_up.ensures.kept)

pub returns-clause-fewer : goal.returns-clause-fewer
returns-clause-fewer g c = λ es fs upto hungry. (
    let part = c.in-Err.ensures.err es fs upto in
    let up = c.give_up.ensures.up es fs part.0 (part.1, λ is. (let memory = c.is_for_memory.ensures.1 is in absurd (cc))) in
    absurd (up.full hungry))

pub returns-in_default-clause-fewer : goal.returns-in_default-clause-fewer
returns-in_default-clause-fewer g c = λ es fs upto hungry. c.in_default.ensures.fewer es fs upto
