use Rattle.std.proofs.Common.{◌≡◌, ◌∷◌, refl, sym, ap, subst, ◌∙◌}
use Rattle.std.proofs.lemmas.Option.{same_Some}
use Rattle.repo_name.specs.declared.kinds.Kind.{Kind}
use Rattle.repo_wire.specs.declared.messages.Ask.{Ask}
use Rattle.repo_wire.specs.declared.messages.Say.{Say}
use Rattle.repo_session.specs.Traces.{Exchange, silent}
use Rattle.repo_backup.specs.BackupStates.{GoesSo, BackupPuts}
use Rattle.repo_backup.specs.Rules.{backup_rule}
use Rattle.repo_backup.specs.Backups.{handed_to, left_in, Knows}
use Rattle.repo_backup.specs.PieceStates.{PutsIndex}
use Rattle.repo_backup.specs.declared.piece_backing.PieceBacking.{PieceBacking}
use Rattle.repo_backup.specs.declared.walks.Went.{Went}
use Rattle.repo_backup.proofs.BackupStepping.{put_known, index_kept}
use Rattle.repo_backup.proofs.PieceStepping.{index_is_put, turns_on}
use Rattle.repo_backup.proofs.backups.Backup.index_done.Goals as goal

pub returns-in-Ok-clause-ok : goal.returns-in-Ok-clause-ok
returns-in-Ok-clause-ok c = λ token n x es working obeys asked.
    let old = c.args.self.now in
    let facts = old.catalog.lookup in
    let a = c.in-Some.backing in
    let d = c.take_waiting-waiting.new.self in
    let now = c.take_waiting-waiting.ensures.none in
    let e : Exchange = silent (Ask.Put token Kind.Index n x) Say.Done in
    let k = put_known old token Kind.Index n x es asked.knows in
    let h = subst (λ (b : PieceBacking). BackupPuts (handed_to old) (left_in old) (λ items. PutsIndex facts b x items es)) (same_Some k.0 a (sym k.1 ∙ c.in-Some.is)) k.2 in
    let done = index_is_put facts a d token n x h.0 es h.2 (ap (λ b. b.work) now) (ap (λ b. b.counts) now) (ap (λ b. b.waiting) now) (ap (λ b. b.listed) now) in
    turns_on (backup_rule (handed_to old)) c.args.holder.now.who (Knows c.go_on.new.self) (λ fs. ⊥) e es c.in-Ok.step refl
    (c.in-Ok.ensures.ok d (e ∷ es) working refl (record { puts = done.puts; goes = record { items = h.0; leads = h.1; at = done.at; unsealed = done.unsealed }; none = done.listed; few = done.few }))

pub returns-in-Err-clause-err : goal.returns-in-Err-clause-err
returns-in-Err-clause-err c = λ token n x es known.
    let old = c.args.self.now in
    let facts = old.catalog.lookup in
    let a = c.in-Some.backing in
    let d = c.take_waiting-waiting.new.self in
    let now = c.take_waiting-waiting.ensures.none in
    let mid = c.go_on.new.self in
    let new = c.wait_for.new.self in
    let k = put_known old token Kind.Index n x es known in
    let h = subst (λ (b : PieceBacking). BackupPuts (handed_to old) (left_in old) (λ items. PutsIndex facts b x items es)) (same_Some k.0 a (sym k.1 ∙ c.in-Some.is)) k.2 in
    let m = c.in-Err.ensures.err d refl in
    let w = m.0.work in
    let same = c.wait_for.ensures.same in
    let waiting = c.take_waiting-waiting.result in
    let e : PieceBacking = record m.0 { waiting = waiting } in
    let so : e ≡ record a { work = w } = ap (λ (b : PieceBacking). record b { waiting = waiting }) m.2 ∙ ap (λ (b : PieceBacking). record b { work = w; waiting = waiting }) now ∙ ap (λ l. record a { work = w; waiting = l }) c.take_waiting-waiting.ensures.taken in
    let goes = subst (λ v. GoesSo facts v (left_in old) Went.On w (left_in mid)) (ap (λ b. b.work) now) m.4 in
    index_kept old new a e w (ap (λ j. j.steps) same ∙ c.go_on.ensures.steps) (ap (λ j. j.catalog) same ∙ c.go_on.ensures.catalog) (c.wait_for.ensures.back m.0 m.1) so (subst (λ l. GoesSo facts a.work (left_in old) Went.On w l) (sym (ap left_in same)) goes) token n x es h
