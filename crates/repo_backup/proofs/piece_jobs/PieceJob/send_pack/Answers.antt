use Rattle.std.proofs.Common.{◌≡◌, ◌++◌, [], List, Some, refl, sym, ap, subst, ◌∙◌}
use Rattle.std.proofs.lemmas.Option.{same_Some}
use Rattle.repo_name.specs.declared.kinds.Kind.{Kind}
use Rattle.repo_name.specs.declared.tokens.Token.{Token}
use Rattle.repo_pack.specs.PackLayout.{Item}
use Rattle.repo_pack.specs.declared.writers.Sealed.{Sealed}
use Rattle.repo_session.specs.Jobs.{MayGoOn}
use Rattle.repo_session.specs.Traces.{fed_in}
use Rattle.repo_session.specs.declared.jobs.Step.{Step}
use Rattle.repo_wire.specs.declared.messages.Ask.{Ask}
use Rattle.repo_writing.specs.Sealing.{IsSealedOf}
use Rattle.repo_writing.specs.Writing.{AreCounts, items_of}
use Rattle.repo_backup.specs.PieceRules.{piece_rule}
use Rattle.repo_backup.specs.PieceStates.{KnowsPieces, WantsPieces, IsPieceDue}
use Rattle.repo_backup.proofs.Piecing.{packing_in}
use Rattle.repo_backup.proofs.PieceRuling.{piece_pack}
use Rattle.repo_backup.proofs.PieceStepping.{asks_it, pack_of, pack_goes_out, pack_step}
use Rattle.repo_backup.proofs.piece_jobs.PieceJob.send_pack.Goals as goal

pub returns-in-Some-take_pack-clause-sends : goal.returns-in-Some-take_pack-clause-sends
returns-in-Some-take_pack-clause-sends c = λ b es working is due.
    let a = c.in-Some.backing in
    let d = c.take_pack.new.self in
    let catalog = c.args.self.now.catalog in
    let facts = catalog.lookup in
    let listed = c.args.listed in
    let holding = c.args.holder.now in
    let same : b ≡ a = same_Some b a (sym is ∙ c.in-Some.is) in
    let h : IsPieceDue facts a listed es = subst (λ x. IsPieceDue facts x listed es) same due in
    let s = c.in-Some-take_pack.sealed in
    let there : a.work.packing.packer.sealed ≡ Some s = sym c.take_pack.ensures.taken ∙ c.in-Some-take_pack.is in
    let work = c.take_pack.ensures.work in
    let counted : (sealed : Sealed) → a.work.packing.packer.sealed ≡ Some sealed → (before items : List Item) → IsSealedOf sealed items → AreCounts a.counts before → AreCounts d.counts (before ++ items) =
    λ sealed e before items of counts. c.in-Some-take_pack.ensures.counted before items (subst (λ x. IsSealedOf x items) (same_Some sealed s (sym e ∙ there)) of) counts in
    let k = pack_of facts a d listed (fed_in es) es h (ap (λ x. x.walk) work) (ap (λ x. x.parts) work) (ap (λ x. x.packing.packer.writer) work) (ap (λ x. x.packing.added) work) (ap (λ x. x.packing.packer.target) work) (ap (λ x. x.packing.packer.sealed) work) c.take_pack.ensures.listed c.take_pack.ensures.waiting counted in
    let out = pack_goes_out facts a d listed (fed_in es) es h (ap (λ x. x.walk) work) (ap (λ x. x.parts) work) (ap (λ x. x.packing.packer.writer) work) (ap (λ x. x.packing.added) work) (ap (λ x. x.packing.packer.target) work) (ap (λ x. x.packing.packer.sealed) work) c.take_pack.ensures.listed c.take_pack.ensures.waiting counted in
    let holds = k.1.holds in
    let rule = piece_pack facts a h.puts h.sealed es h.at h.none h.room k.0.bytes holds.holds h.prompt h.full in
    let S : Step → Type 0 = λ step. MayGoOn piece_rule holding.who (KnowsPieces catalog (Some d)) (WantsPieces catalog (Some d)) es step in
    let M : Sealed → Type 0 = λ t. S (Step.Ask (Ask.Put holding.token Kind.Pack t.name t.bytes)) in
    let T : Token → Type 0 = λ t. S (Step.Ask (Ask.Put t Kind.Pack s.name s.bytes)) in
    let one : k.0 ≡ s = same_Some k.0 s (sym k.1.is ∙ there) in
    let may : M k.0 = pack_step catalog (Some d) d refl holding es working k.0.name k.0.bytes (sym holds.named) holds.small rule out in
    subst S (sym (c.put_pack.ensures.puts h.sealed (subst (λ t. IsSealedOf t h.sealed) one holds))) (subst T (sym c.token.ensures) (subst M one may))

pub returns-in-Some-take_pack-clause-busy : goal.returns-in-Some-take_pack-clause-busy
returns-in-Some-take_pack-clause-busy c = λ b es is due.
    let a = c.in-Some.backing in
    let s = c.in-Some-take_pack.sealed in
    let same : b ≡ a = same_Some b a (sym is ∙ c.in-Some.is) in
    let there : b.work.packing.packer.sealed ≡ Some s = ap (λ x. x.work.packing.packer.sealed) same ∙ sym c.take_pack.ensures.taken ∙ c.in-Some-take_pack.is in
    let l = due.lists due.sealed (packing_in b.work c.args.self.now.catalog.lookup due.at.st (items_of (due.puts ++ [])) due.sealed due.at.stands).sealed_is in
    let one : l.0 ≡ s = same_Some l.0 s (sym l.1.is ∙ there) in
    let put = c.put_pack.ensures.puts due.sealed (subst (λ t. IsSealedOf t due.sealed) one l.1.holds) in
    asks_it (Ask.Put c.token.result Kind.Pack s.name s.bytes) c.put_pack.result put

pub returns-in-None-clause-busy : goal.returns-in-None-clause-busy
returns-in-None-clause-busy c = λ b es is due wants. absurd (cc)
