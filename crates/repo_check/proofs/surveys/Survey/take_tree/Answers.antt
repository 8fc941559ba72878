use Rattle.std.proofs.Common.{ap, ◌∙◌, subst, refl, sym}
use Rattle.std.proofs.lemmas.Option.{same_Some}
use Rattle.repo_check.specs.Surveys.{rounds_of}
use Rattle.repo_check.specs.Walks.{Awaits, walk_of}
use Rattle.repo_check.proofs.Rounding.{on_any}
use Rattle.repo_check.proofs.Surveying.{ranging}
use Rattle.repo_check.proofs.Trailing.{tree_taken}
use Rattle.repo_check.proofs.Heeding.{tree_heeds}
use Rattle.repo_check.proofs.surveys.Survey.take_tree.Goals as goal

pub returns-in_default-clause-takes : goal.returns-in_default-clause-takes
returns-in_default-clause-takes c = λ pack offset len task token es w may h.
    let at = ranging (rounds_of c.args.self.now) (walk_of c.args.self.now.walk) es pack offset len h in
    absurd (let some = c.asked.ensures at.roots at.fact at.awaits in let none = c.in_default.is in cc (some, none))

pub returns-in_err-next-clause-same : goal.returns-in_err-next-clause-same
returns-in_err-next-clause-same c = on_any c.from_residual-in_err-next.result (λ pack offset len es h.
    let walk = walk_of c.args.self.now.walk in
    let at = ranging (rounds_of c.args.self.now) walk es pack offset len h in
    let same = ap (λ f. f.name) (same_Some _ _ (c.in-Some.ensures at.roots at.fact at.awaits)) in
    c.in_err-next.ensures.same (ap walk.known.kept same ∙ at.awaits.due.unread) (ap walk.known.faults same ∙ at.awaits.due.faultless))

pub returns-clause-takes : goal.returns-clause-takes
returns-clause-takes c = λ pack offset len task token es w may h.
    let told = rw c.in-Some-2.is at c.in_ok-note.ensures.notes in
    let some = rw c.in-Some-2.is at c.in_ok-note.ensures.some in
    tree_taken (rounds_of c.args.self.now) (walk_of c.args.self.now.walk) (walk_of c.take.new.self) c.in-Some-2.note c.in-Some.fact c.args.say.now c.in_ok-next.next c.next_of.result c.in-Some.ensures told some c.in_ok-next.ensures.takes
    c.next_of.ensures.next pack offset len task token es w h

pub returns-clause-over : goal.returns-clause-over
returns-clause-over c = λ over pack offset len. (
  refl,
  λ es h.
      let walk = walk_of c.args.self.now.walk in
      let at = ranging (rounds_of c.args.self.now) walk es pack offset len h in
      let same = same_Some _ _ (c.in-Some.ensures at.roots at.fact at.awaits) in
      (at.roots, c.in-Some.fact, c.in-Some-2.note, subst (λ f. Awaits at.roots walk f) (sym same) at.awaits, c.in_ok-next.ensures.takes.noted),
)

pub returns-clause-heeds : goal.returns-clause-heeds
returns-clause-heeds c = λ known pack offset len.
    let told = rw c.in-Some-2.is at c.in_ok-note.ensures.notes in
    tree_heeds known c.in-Some.fact c.args.say.now told.0 pack offset len c.next_of.result told.1
