use Rattle.std.proofs.Common.{◌≡◌, ◌≤◌, ℕ, refl, subst, sym}
use Rattle.repo_wire.specs.declared.messages.Ask.{Ask}
use Rattle.repo_wire.specs.declared.messages.Say.{Say}
use Rattle.repo_tree.specs.declared.faults.TextError.{TextError}
use Rattle.repo_session.specs.Ends.{IsOfOtherVersion}
use Rattle.repo_session.specs.Versions.{upto}
use Rattle.repo_session.proofs.Causes.{snapshot_faultless}
use Rattle.repo_tree.specs.SnapshotText.{SnapshotFault}
use Rattle.repo_name.specs.declared.kinds.Kind.{Kind}
use Rattle.repo_check.specs.Arrivals.{LooksAtSnapshot, MisreadAs}
use Rattle.repo_check.proofs.Arriving.{with_bytes, is_answer, misnamed_snapshot, absent_snapshot, snapshot_misread, ok_then}
use Rattle.repo_check.proofs.objects.look_at_snapshot.Goals as goal

pub returns-in-Misnamed : goal.returns-in-Misnamed
returns-in-Misnamed c = misnamed_snapshot c.args.versions c.args.name c.args.say.now c.in-Misnamed.ensures

pub returns-in-Absent : goal.returns-in-Absent
returns-in-Absent c = absent_snapshot c.args.versions c.args.name c.args.say.now c.in-Absent.ensures

pub returns-in-Ok : goal.returns-in-Ok
returns-in-Ok c =
    let x = c.in-Named.bytes.now in
    let known = upto c.args.versions in
    let read = c.in-Ok.ensures.ok in
    let within = subst (λ (v : ℕ). c.in-Ok.snapshot.version ≤ v) c.greatest.ensures.greatest read.1 in
    let K : Say → Type 0 = λ say. IsOfOtherVersion known (Ask.Get Kind.Snapshot c.args.name) say → ⊥ in
    let of_these : K (Say.Bytes x) = λ other. (let q : TextError.Version ≡ TextError.Memory = snapshot_faultless known x c.in-Ok.snapshot TextError.Version read.0 within other.1 in absurd (cc)) in (
      with_bytes c.args.name x,
      is_answer c.args.name x c.args.say.now c.in-Named.ensures.0,
      (x, c.in-Ok.snapshot, (refl, c.in-Named.ensures.1), read.0, sym c.of.ensures),
      subst K (sym c.in-Named.ensures.0) of_these,
    )

pub returns-in-Err : goal.returns-in-Err
returns-in-Err c =
    let n = c.args.name in
    let say = c.args.say.now in
    ok_then (MisreadAs c.in-Err.error) (LooksAtSnapshot c.args.versions n say) c.misread_snapshot.result
    (λ look is. snapshot_misread c.args.versions n c.in-Named.bytes.now say c.in-Err.error look c.in-Named.ensures.0 c.in-Named.ensures.1 (subst (λ known. SnapshotFault known c.in-Named.bytes.now c.in-Err.error) c.greatest.ensures.greatest c.in-Err.ensures.fault) is) c.misread_snapshot.ensures
