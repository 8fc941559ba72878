use Rattle.std.proofs.Common.{◌≡◌, ◌++◌, List, Some, refl, sym, ap, subst, ◌∙◌}
use Rattle.std.proofs.lemmas.Option.{same_Some}
use Rattle.repo_name.specs.declared.kinds.Kind.{Kind}
use Rattle.repo_name.specs.declared.tokens.Token.{Token}
use Rattle.repo_pack.specs.PackLayout.{Item}
use Rattle.repo_pack.specs.declared.writers.Sealed.{Sealed}
use Rattle.repo_session.specs.declared.jobs.Step.{Step}
use Rattle.repo_wire.specs.declared.messages.Ask.{Ask}
use Rattle.repo_writing.specs.Sealing.{IsSealedOf}
use Rattle.repo_writing.specs.Writing.{AreCounts}
use Rattle.repo_backup.specs.BackupStates.{IsDueNext}
use Rattle.repo_backup.specs.Backups.{handed_to, left_in}
use Rattle.repo_backup.specs.PieceStates.{IsDueAt}
use Rattle.repo_backup.specs.declared.backups.Backup.{Backup}
use Rattle.repo_backup.specs.declared.walks.Went.{Went}
use Rattle.repo_backup.proofs.BackupRuling.{backup_pack}
use Rattle.repo_backup.proofs.BackupStepping.{Does, pack_sent}
use Rattle.repo_backup.proofs.PieceStepping.{pack_of, pack_goes_out}
use Rattle.repo_backup.proofs.backups.Backup.send_pack.Goals as goal

pub returns-in-Some-take_pack-clause-sends : goal.returns-in-Some-take_pack-clause-sends
returns-in-Some-take_pack-clause-sends c = λ b es working is due.
    let old = c.args.self.now in
    let a = c.in-Some.backing in
    let d = c.take_pack.new.self in
    let new : Backup = record old { backing = Some d } in
    let facts = old.catalog.lookup in
    let listed = c.args.listed in
    let holding = c.args.holder.now in
    let same : b ≡ a = same_Some b a (sym is ∙ c.in-Some.is) in
    let m : IsDueNext (handed_to old) facts (Went.Pack listed) a (left_in old) es = subst (λ x. IsDueNext (handed_to old) facts (Went.Pack listed) x (left_in old) es) same due in
    let items = m.goes.items in
    let h : IsDueAt facts a listed items es = record { puts = m.puts; sealed = m.goes.sealed; at = m.goes.at; none = m.none; lists = m.goes.lists; prompt = m.goes.prompt; full = m.goes.full; room = m.room } in
    let s = c.in-Some-take_pack.sealed in
    let there : a.work.packing.packer.sealed ≡ Some s = sym c.take_pack.ensures.taken ∙ c.in-Some-take_pack.is in
    let work = c.take_pack.ensures.work in
    let counted : (sealed : Sealed) → a.work.packing.packer.sealed ≡ Some sealed → (before items : List Item) → IsSealedOf sealed items → AreCounts a.counts before → AreCounts d.counts (before ++ items) =
    λ sealed e before items of counts. c.in-Some-take_pack.ensures.counted before items (subst (λ x. IsSealedOf x items) (same_Some sealed s (sym e ∙ there)) of) counts in
    let k = pack_of facts a d listed items es h (ap (λ x. x.walk) work) (ap (λ x. x.parts) work) (ap (λ x. x.packing.packer.writer) work) (ap (λ x. x.packing.added) work) (ap (λ x. x.packing.packer.target) work) (ap (λ x. x.packing.packer.sealed) work) c.take_pack.ensures.listed c.take_pack.ensures.waiting counted in
    let out = pack_goes_out facts a d listed items es h (ap (λ x. x.walk) work) (ap (λ x. x.parts) work) (ap (λ x. x.packing.packer.writer) work) (ap (λ x. x.packing.added) work) (ap (λ x. x.packing.packer.target) work) (ap (λ x. x.packing.packer.sealed) work) c.take_pack.ensures.listed c.take_pack.ensures.waiting counted in
    let holds = k.1.holds in
    let rule = backup_pack (handed_to old) (left_in old) facts a h.puts h.sealed items es m.goes.leads h.at h.none h.room k.0.bytes holds.holds h.prompt h.full in
    let S : Step → Type 0 = λ step. Does new holding es working d refl items m.goes.leads step in
    let M : Sealed → Type 0 = λ t. S (Step.Ask (Ask.Put holding.token Kind.Pack t.name t.bytes)) in
    let T : Token → Type 0 = λ t. S (Step.Ask (Ask.Put t Kind.Pack s.name s.bytes)) in
    let one : k.0 ≡ s = same_Some k.0 s (sym k.1.is ∙ there) in
    let may : M k.0 = pack_sent new holding es working d refl items m.goes.leads k.0.name k.0.bytes (sym holds.named) holds.small rule out in
    subst S (sym (c.put_pack.ensures.puts h.sealed (subst (λ t. IsSealedOf t h.sealed) one holds))) (subst T (sym c.token.ensures) (subst M one may))
