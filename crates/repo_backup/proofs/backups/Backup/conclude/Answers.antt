use Rattle.std.proofs.Common.{◌≡◌, ◌∷◌, [], refl, sym, subst, inl, ◌∙◌}
use Rattle.std.proofs.lemmas.Option.{same_Some}
use Rattle.repo_name.specs.declared.kinds.Kind.{Kind}
use Rattle.repo_wire.specs.declared.messages.Ask.{Ask}
use Rattle.repo_wire.specs.declared.messages.Say.{Say}
use Rattle.repo_session.specs.Traces.{Exchange, silent}
use Rattle.repo_backup.specs.Rules.{IsStored}
use Rattle.repo_backup.specs.declared.piece_backing.PieceBacking.{PieceBacking}
use Rattle.repo_backup.proofs.BackupStepping.{put_known}
use Rattle.repo_backup.proofs.Written.{written_stored}
use Rattle.repo_backup.proofs.backups.Backup.conclude.Goals as goal

pub returns-clause-ends : goal.returns-clause-ends
returns-clause-ends c = λ token holding x es working obeys asked.
    let j = c.args.self.now in
    let n = c.args.name in
    let e : Exchange = silent (Ask.Put token Kind.Snapshot n x) Say.Done in
    let k = put_known j token Kind.Snapshot n x es asked.knows in
    let same : k.0 ≡ c.in-Some.backing = same_Some k.0 c.in-Some.backing (sym k.1 ∙ c.in-Some.is) in
    let is = written_stored j.catalog.lookup [] k.0.counts k.2.puts token n x e es k.2.written refl refl in
    (inl refl, subst (λ (b : PieceBacking). IsStored (e ∷ es) n b.counts.blobs b.counts.bytes) same is)
