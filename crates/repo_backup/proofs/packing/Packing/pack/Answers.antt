use Rattle.std.proofs.Common.{rules, ◌≡◌, ◌++◌, [], ℕ, List, length, take, true, sym, ap, subst, inr, ◌∙◌, append-nil}
use Rattle.std.proofs.Math.Seq.{take-append_seam}
use Rattle.repo_pack.specs.PackLayout.{Item, item_of}
use Rattle.repo_pack.specs.PackWriting.{IsDue}
use Rattle.repo_backup.specs.Packings.{IsPacking, AllGain, IsSealedBy, all_items}
use Rattle.repo_backup.specs.declared.packing.Packing.{Packing}
use Rattle.repo_backup.proofs.PackingLemmas.{all_gain, just_due, just_open, left_empty, none_by}
use Rattle.repo_backup.proofs.packing.Packing.pack.Goals.{in-Due, in-Last}
use Rattle.repo_backup.proofs.packing.Packing.pack.Goals as goal

pub returns-in-Ok-clause-ok : goal.returns-in-Ok-clause-ok
returns-in-Ok-clause-ok c = λ sent h.
    let known = c.args.lookup.now in
    let old = c.args.self.now in
    let mid = c.add.new.self in
    let new = c.seal_listed.new.self in
    let item = item_of c.args.kind c.args.bytes.now in
    let added = c.in_ok-add.ensures.ok sent [] h in
    let sealed : List Item = mid.packer.writer.items in
    let all : all_items sent sealed new ≡ all_items sent [] mid = ap (λ l. (sent ++ sealed) ++ l) c.in-Ok.ensures.begun ∙ append-nil (sent ++ sealed) ∙ ap (λ l. l ++ sealed) (sym (append-nil sent)) in
    let gain : AllGain known (all_items sent [] old) (all_items sent [] mid) item = all_gain known sent [] old mid item added.1 in
    let packing : IsPacking new known sent sealed = c.in-Ok.ensures.ok known sent added.0 in
    let by : IsSealedBy c.args.sealing old.packer.writer.target sealed = elim c.match-sealing.branch [
      | in-Due w ↦
          let yes : w.is_due-is_wanted.result ≡ true = search rules in
          let due : IsDue (record { items = sealed; target = mid.packer.writer.target }) = w.is_due-is_wanted.ensures.due.0 yes in
          let due_so = subst (λ (t : ℕ). IsDue (record { items = sealed; target = t })) c.in_ok-add.ensures.grows.1 due in
          subst (λ s. IsSealedBy s old.packer.writer.target sealed) (sym w.in-Due.is) (inr (just_due known (all_items sent [] old) old.packer.writer.target old.packer.writer.items sealed item c.requires.room added.1 due_so))
      | in-Last w ↦
          let some = (c.in-Ok.ensures.listed sealed packing.sealed_is).1.holds.holds.pack.count.0 in
          subst (λ s. IsSealedBy s old.packer.writer.target sealed) (sym w.in-Last.is) (inr (just_open known (all_items sent [] old) old.packer.writer.target old.packer.writer.items sealed item c.requires.room added.1 some))
    ] in
    (sealed, packing, subst (λ l. AllGain known (all_items sent [] old) l item) (sym all) gain, by)

pub returns-in-Err-clause-err : goal.returns-in-Err-clause-err
returns-in-Err-clause-err c =
    let known = c.args.lookup.now in
    let old = c.args.self.now in
    let mid = c.add.new.self in
    let back = c.take_back.ensures in
    let same : c.seal_listed.new.self ≡ mid = c.in-Err.ensures.err in
    let grows = c.in_ok-add.ensures.grows in
    let count : c.len-count.result ≡ length old.packer.writer.items = search rules in
    let items : c.take_back.new.self.packer.writer.items ≡ old.packer.writer.items =
    back.items ∙ (λ i. take (count i) (same i).packer.writer.items) ∙ ap (take (length old.packer.writer.items)) grows.0.1 ∙ take-append_seam old.packer.writer.items grows.0.0 in
    let target : c.take_back.new.self.packer.writer.target ≡ old.packer.writer.target = back.size ∙ ap (λ (p : Packing). p.packer.writer.target) same ∙ grows.1 in (
      (λ i. record { items = items i; target = target i }),
      back.sealed ∙ ap (λ (p : Packing). p.packer.sealed) same ∙ c.in_ok-add.ensures.sealed,
      λ sent h. back.packing known sent [] (subst (λ p. IsPacking p known sent []) (sym same) (c.in_ok-add.ensures.ok sent [] h).0),
    )

pub returns-in-Ok-clause-open : goal.returns-in-Ok-clause-open
returns-in-Ok-clause-open c = left_empty c.args.sealing c.in-Ok.facts c.seal_listed.new.self c.in-Ok.ensures.open c.in-Ok.ensures.begun

pub returns-then-not-is_wanted-clause-ok : goal.returns-then-not-is_wanted-clause-ok
returns-then-not-is_wanted-clause-ok c = λ sent h.
    let known = c.args.lookup.now in
    let old = c.args.self.now in
    let added = c.in_ok-add.ensures.ok sent [] h in
    ([], added.0, all_gain known sent [] old c.add.new.self (item_of c.args.kind c.args.bytes.now) added.1, none_by c.args.sealing old.packer.writer.target)
