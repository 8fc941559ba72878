use Rattle.std.proofs.Common.{◌≡◌, None, Some, sym, ap, subst, ◌∙◌}
use Rattle.repo_session.specs.Readings.{HasNotedFacts}
use Rattle.repo_session.specs.declared.catalogs.Catalog.{Catalog}
use Rattle.repo_backup.specs.declared.piece_jobs.PieceJob.{PieceJob}
use Rattle.repo_backup.proofs.Unreading.{unread_by, unread_not}
use Rattle.repo_backup.proofs.piece_jobs.PieceJob.unread.Goals as goal

pub returns-in-Some : goal.returns-in-Some
returns-in-Some c = λ e es reads wants.
    let old = c.args.self.now in
    let mid = c.begin_again.new.self in
    let same = c.begin_again.ensures.same in
    let b = wants.0.0 in
    let d = c.begin_again.ensures.begun b wants.0.1 in
    let noted = c.in-Some.noted in
    let new : PieceJob = record mid { catalog = c.take_back.new.self; noted = None } in
    let catalog : mid.catalog ≡ old.catalog = ap (λ (j : PieceJob). j.catalog) same in
    let some : old.noted ≡ Some noted = sym (ap (λ (j : PieceJob). j.noted) same) ∙ sym c.take.ensures.value ∙ c.in-Some.is in
    unread_by old new b d.0 e es wants.0.1 d.1 d.2 reads (wants.1 b wants.0.1) noted some (λ o facts. c.take_back.ensures o (subst (λ (x : Catalog). HasNotedFacts o noted x) (sym catalog) facts))

pub returns-in_default : goal.returns-in_default
returns-in_default c = λ e es reads wants.
    let old = c.args.self.now in
    let mid = c.begin_again.new.self in
    let b = wants.0.0 in
    let d = c.begin_again.ensures.begun b wants.0.1 in
    let new : PieceJob = record mid { noted = None } in
    let none : old.noted ≡ None = sym (ap (λ (j : PieceJob). j.noted) c.begin_again.ensures.same) ∙ sym c.take.ensures.value ∙ c.in_default.is in
    unread_not old new b d.0 e es wants.0.1 d.1 d.2 reads (wants.1 b wants.0.1) none
