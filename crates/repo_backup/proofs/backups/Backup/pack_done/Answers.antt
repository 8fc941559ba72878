use Rattle.std.proofs.Common.{◌≡◌, ◌++◌, ◌∷◌, Some, refl, sym, subst, inr, ◌∙◌, append-nil}
use Rattle.std.proofs.lemmas.Option.{same_Some}
use Rattle.repo_name.specs.declared.kinds.Kind.{Kind}
use Rattle.repo_wire.specs.declared.messages.Ask.{Ask}
use Rattle.repo_wire.specs.declared.messages.Say.{Say}
use Rattle.repo_session.specs.Traces.{Exchange, silent}
use Rattle.repo_session.specs.declared.jobs.Step.{Step}
use Rattle.repo_backup.specs.BackupStates.{BackupPuts}
use Rattle.repo_backup.specs.Rules.{backup_rule}
use Rattle.repo_backup.specs.Backups.{handed_to, left_in, Knows}
use Rattle.repo_backup.specs.PieceStates.{waits, listed_of, PutsPack}
use Rattle.repo_backup.specs.declared.piece_backing.PieceBacking.{PieceBacking}
use Rattle.repo_backup.proofs.BackupStepping.{put_known, pack_kept}
use Rattle.repo_backup.proofs.PackingLemmas.{on_any, on_err}
use Rattle.repo_backup.proofs.PieceStepping.{pack_is_put, pack_noted, turns_on}
use Rattle.repo_backup.proofs.Staging.{if_ok}
use Rattle.repo_backup.proofs.backups.Backup.pack_done.Goals as goal

pub returns-clause-ok : goal.returns-clause-ok
returns-clause-ok c = if_ok _ _ c.go_on.result (λ (step : Step) goes token n x es working obeys asked.
    let old = c.args.self.now in
    let facts = old.catalog.lookup in
    let a = c.in-Some.backing in
    let d = c.note_put.new.self in
    let e : Exchange = silent (Ask.Put token Kind.Pack n x) Say.Done in
    let k = put_known old token Kind.Pack n x es asked.knows in
    let h = subst (λ (b : PieceBacking). BackupPuts (handed_to old) (left_in old) (λ items. PutsPack facts b n x items es)) (same_Some k.0 a (sym k.1 ∙ c.in-Some.is)) k.2 in
    let done = pack_is_put facts a d token n x h.0 es h.2 c.in_ok-note_put.ensures.work c.in_ok-note_put.ensures.counts c.in_ok-note_put.ensures.ok c.in_ok-note_put.ensures.listed in
    turns_on (backup_rule (handed_to old)) c.args.holder.now.who (Knows c.go_on.new.self) (λ fs. ⊥) e es step refl
    (goes d (e ∷ es) working refl (record { puts = done.puts; goes = record { items = h.0; leads = h.1; at = done.at; unsealed = done.unsealed }; none = done.listed; few = done.few }))) c.go_on.ensures.ok

pub returns-in_err-note_put-clause-err : goal.returns-in_err-note_put-clause-err
returns-in_err-note_put-clause-err c = on_any _ c.from_residual.result (λ token n x es known.
    let old = c.args.self.now in
    let facts = old.catalog.lookup in
    let a = c.in-Some.backing in
    let d = c.note_put.new.self in
    let k = put_known old token Kind.Pack n x es known in
    let h = subst (λ (b : PieceBacking). BackupPuts (handed_to old) (left_in old) (λ items. PutsPack facts b n x items es)) (same_Some k.0 a (sym k.1 ∙ c.in-Some.is)) k.2 in
    inr (d, refl, (h.0, h.1, pack_noted facts a d n x h.0 es c.in_err-note_put.ensures.work c.in_err-note_put.ensures.counts c.in_err-note_put.ensures.err h.2)))

pub returns-clause-err : goal.returns-clause-err
returns-clause-err c = on_err c.go_on.result _ _ (λ keeps token n x es known.
    let old = c.args.self.now in
    let facts = old.catalog.lookup in
    let a = c.in-Some.backing in
    let d = c.note_put.new.self in
    let k = put_known old token Kind.Pack n x es known in
    let h = subst (λ (b : PieceBacking). BackupPuts (handed_to old) (left_in old) (λ items. PutsPack facts b n x items es)) (same_Some k.0 a (sym k.1 ∙ c.in-Some.is)) k.2 in
    let all : waits d ≡ waits a = (λ i. c.in_ok-note_put.ensures.ok i ++ listed_of (c.in_ok-note_put.ensures.listed i)) ∙ append-nil (waits a) in
    let noted = pack_noted facts a d n x h.0 es c.in_ok-note_put.ensures.work c.in_ok-note_put.ensures.counts all h.2 in
    pack_kept (record old { backing = Some d }) c.go_on.new.self d refl c.go_on.ensures.steps c.go_on.ensures.catalog keeps token n x es (h.0, h.1, noted)) c.go_on.ensures.err
