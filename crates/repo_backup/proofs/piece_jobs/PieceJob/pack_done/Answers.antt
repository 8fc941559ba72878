use Rattle.std.proofs.Common.{◌≡◌, ◌++◌, ◌∷◌, Some, refl, sym, subst, inr, ◌∙◌, append-nil}
use Rattle.std.proofs.lemmas.Option.{same_Some}
use Rattle.repo_name.specs.declared.kinds.Kind.{Kind}
use Rattle.repo_wire.specs.declared.messages.Ask.{Ask}
use Rattle.repo_wire.specs.declared.messages.Say.{Say}
use Rattle.repo_session.specs.Traces.{Exchange, fed_in, silent}
use Rattle.repo_session.specs.declared.jobs.Step.{Step}
use Rattle.repo_backup.specs.PieceRules.{piece_rule}
use Rattle.repo_backup.specs.PieceBackups.{PieceKnows, PieceWants}
use Rattle.repo_backup.specs.PieceStates.{listed_of, waits, PutsPack}
use Rattle.repo_backup.specs.declared.piece_backing.PieceBacking.{PieceBacking}
use Rattle.repo_backup.proofs.PackingLemmas.{on_any, on_err}
use Rattle.repo_backup.proofs.LayingOn.{pack_kept}
use Rattle.repo_backup.proofs.PieceStepping.{piece_known, pack_is_put, pack_noted, turns_on}
use Rattle.repo_backup.proofs.Staging.{if_ok}
use Rattle.repo_backup.proofs.Unreading.{unreads_none, wants_more}
use Rattle.repo_backup.proofs.piece_jobs.PieceJob.pack_done.Goals as goal

pub returns-clause-ok : goal.returns-clause-ok
returns-clause-ok c = if_ok _ _ c.go_on.result (λ (step : Step) sends token n x es working obeys asked.
    let old = c.args.self.now in
    let facts = old.catalog.lookup in
    let a = c.in-Some.backing in
    let d = c.note_put.new.self in
    let new = c.go_on.new.self in
    let e : Exchange = silent (Ask.Put token Kind.Pack n x) Say.Done in
    let k = piece_known old.catalog old.backing token Kind.Pack n x es asked.knows in
    let h : PutsPack facts a n x (fed_in es) es = subst (λ (b : PieceBacking). PutsPack facts b n x (fed_in es) es) (same_Some k.0 a (sym k.1 ∙ c.in-Some.is)) k.2 in
    let done = pack_is_put facts a d token n x (fed_in es) es h c.in_ok-note_put.ensures.work c.in_ok-note_put.ensures.counts c.in_ok-note_put.ensures.ok c.in_ok-note_put.ensures.listed in
    turns_on piece_rule c.args.holder.now.who (PieceKnows new) (PieceWants new) e es step refl
    (wants_more new c.args.holder.now.who (e ∷ es) step (unreads_none new e es c.go_on.ensures.noted (λ reads. reads)) (sends d (e ∷ es) working refl done))) c.go_on.ensures.sends

pub returns-in_err-note_put-clause-err : goal.returns-in_err-note_put-clause-err
returns-in_err-note_put-clause-err c = on_any _ c.from_residual.result (λ token n x es known.
    let old = c.args.self.now in
    let facts = old.catalog.lookup in
    let a = c.in-Some.backing in
    let d = c.note_put.new.self in
    let k = piece_known old.catalog old.backing token Kind.Pack n x es known in
    let h : PutsPack facts a n x (fed_in es) es = subst (λ (b : PieceBacking). PutsPack facts b n x (fed_in es) es) (same_Some k.0 a (sym k.1 ∙ c.in-Some.is)) k.2 in
    inr (d, refl, pack_noted facts a d n x (fed_in es) es c.in_err-note_put.ensures.work c.in_err-note_put.ensures.counts c.in_err-note_put.ensures.err h))

pub returns-clause-err : goal.returns-clause-err
returns-clause-err c = on_err c.go_on.result _ _ (λ lays token n x es known.
    let old = c.args.self.now in
    let facts = old.catalog.lookup in
    let a = c.in-Some.backing in
    let d = c.note_put.new.self in
    let k = piece_known old.catalog old.backing token Kind.Pack n x es known in
    let h : PutsPack facts a n x (fed_in es) es = subst (λ (b : PieceBacking). PutsPack facts b n x (fed_in es) es) (same_Some k.0 a (sym k.1 ∙ c.in-Some.is)) k.2 in
    let all : waits d ≡ waits a = (λ i. c.in_ok-note_put.ensures.ok i ++ listed_of (c.in_ok-note_put.ensures.listed i)) ∙ append-nil (waits a) in
    let noted = pack_noted facts a d n x (fed_in es) es c.in_ok-note_put.ensures.work c.in_ok-note_put.ensures.counts all h in
    pack_kept (record old { backing = Some d }) c.go_on.new.self d refl c.go_on.ensures.catalog lays token n x es noted) c.go_on.ensures.err
