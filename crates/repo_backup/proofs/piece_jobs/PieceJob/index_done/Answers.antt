use Rattle.std.proofs.Common.{◌≡◌, ◌∷◌, refl, sym, ap, subst, ◌∙◌}
use Rattle.std.proofs.lemmas.Option.{same_Some}
use Rattle.repo_name.specs.declared.kinds.Kind.{Kind}
use Rattle.repo_wire.specs.declared.messages.Ask.{Ask}
use Rattle.repo_wire.specs.declared.messages.Say.{Say}
use Rattle.repo_session.specs.Traces.{Exchange, fed_in, silent}
use Rattle.repo_backup.specs.PieceRules.{piece_rule}
use Rattle.repo_backup.specs.PieceBackups.{PieceKnows, PieceWants}
use Rattle.repo_backup.specs.PieceStates.{PutsIndex, LaysSo}
use Rattle.repo_backup.specs.declared.piece_backing.PieceBacking.{PieceBacking}
use Rattle.repo_backup.specs.declared.walks.Went.{Went}
use Rattle.repo_backup.proofs.LayingOn.{index_kept}
use Rattle.repo_backup.proofs.PieceStepping.{piece_known, index_is_put, turns_on}
use Rattle.repo_backup.proofs.Unreading.{unreads_none, wants_more}
use Rattle.repo_backup.proofs.piece_jobs.PieceJob.index_done.Goals as goal

pub returns-in-Ok-clause-ok : goal.returns-in-Ok-clause-ok
returns-in-Ok-clause-ok c = λ token n x es working obeys asked.
    let old = c.args.self.now in
    let facts = old.catalog.lookup in
    let a = c.in-Some.backing in
    let d = c.take_waiting-waiting.new.self in
    let now = c.take_waiting-waiting.ensures.none in
    let e : Exchange = silent (Ask.Put token Kind.Index n x) Say.Done in
    let k = piece_known old.catalog old.backing token Kind.Index n x es asked.knows in
    let h : PutsIndex facts a x (fed_in es) es = subst (λ (b : PieceBacking). PutsIndex facts b x (fed_in es) es) (same_Some k.0 a (sym k.1 ∙ c.in-Some.is)) k.2 in
    let done = index_is_put facts a d token n x (fed_in es) es h (ap (λ b. b.work) now) (ap (λ b. b.counts) now) (ap (λ b. b.waiting) now) (ap (λ b. b.listed) now) in
    let new = c.go_on.new.self in
    turns_on piece_rule c.args.holder.now.who (PieceKnows new) (PieceWants new) e es c.in-Ok.step refl
    (wants_more new c.args.holder.now.who (e ∷ es) c.in-Ok.step (unreads_none new e es c.go_on.ensures.noted (λ reads. reads)) (c.in-Ok.ensures.sends d (e ∷ es) working refl done))

pub returns-in-Err-clause-err : goal.returns-in-Err-clause-err
returns-in-Err-clause-err c = λ token n x es known.
    let old = c.args.self.now in
    let facts = old.catalog.lookup in
    let a = c.in-Some.backing in
    let d = c.take_waiting-waiting.new.self in
    let now = c.take_waiting-waiting.ensures.none in
    let new = c.wait_for.new.self in
    let k = piece_known old.catalog old.backing token Kind.Index n x es known in
    let h : PutsIndex facts a x (fed_in es) es = subst (λ (b : PieceBacking). PutsIndex facts b x (fed_in es) es) (same_Some k.0 a (sym k.1 ∙ c.in-Some.is)) k.2 in
    let m = c.in-Err.ensures.err d refl in
    let w = m.0.work in
    let same = c.wait_for.ensures.same in
    let waiting = c.take_waiting-waiting.result in
    let e : PieceBacking = record m.0 { waiting = waiting } in
    let so : e ≡ record a { work = w } = ap (λ (b : PieceBacking). record b { waiting = waiting }) m.2 ∙ ap (λ (b : PieceBacking). record b { work = w; waiting = waiting }) now ∙ ap (λ l. record a { work = w; waiting = l }) c.take_waiting-waiting.ensures.taken in
    let lays : LaysSo facts a.work Went.On w = subst (λ v. LaysSo facts v Went.On w) (ap (λ b. b.work) now) m.3 in
    index_kept old new a e w (ap (λ j. j.catalog) same ∙ c.go_on.ensures.catalog) (c.wait_for.ensures.back m.0 m.1) so lays token n x es h
