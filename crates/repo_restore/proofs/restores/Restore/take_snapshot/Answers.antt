use Rattle.std.proofs.Common.{◌≡◌, ◌≢◌, ◌≤◌, ◌∙◌, ◌∷◌, ℕ, false, List, refl, sym, ap, subst, inl}
use Rattle.repo_name.specs.Naming as naming
use Rattle.repo_name.specs.declared.kinds.Kind.{Kind}
use Rattle.repo_wire.specs.declared.messages.Ask.{Ask}
use Rattle.repo_wire.specs.declared.messages.Say.{Say}
use Rattle.repo_tree.specs.SnapshotText.{IsSnapshotText, SnapshotFault}
use Rattle.repo_tree.specs.declared.faults.TextError.{TextError}
use Rattle.repo_session.specs.Ends.{CausedBy, IsOfOtherVersion, IsUnreadable, IsUnwelcome, IsWelcome}
use Rattle.repo_session.specs.Jobs.{task_under}
use Rattle.repo_session.specs.Traces.{Exchange, giving}
use Rattle.repo_session.specs.Versions.{upto}
use Rattle.repo_session.proofs.Causes.{snapshot_faultless}
use Rattle.repo_session.proofs.Receiving.{unwelcome_get, bad_object}
use Rattle.repo_session.proofs.Heeding.{object_welcome, heeds_end, welcome_follows}
use Rattle.repo_name.specs.declared.kinds.Thing.{Thing}
use Rattle.repo_session.specs.declared.outcomes.End.{End}
use Rattle.repo_restore.specs.declared.restores.Stage.{Stage}
use Rattle.repo_session.specs.Trees.{HasRoot}
use Rattle.repo_restore.specs.Restoring.{restore_rule}
use Rattle.repo_restore.specs.RestoreStates.{KnowsAtStage}
use Rattle.repo_restore.proofs.Advancing.{before_on, reads_allowed, snapshot_on}
use Rattle.repo_session.proofs.KindReads.{due_index}
use Rattle.repo_restore.proofs.restores.Restore.take_snapshot.Goals as goal

pub returns-in_default-clause-ok : goal.returns-in_default-clause-ok
returns-in_default-clause-ok c = λ ask es w obeys asked.
    let holding = c.args.holder.now in
    let j = c.args.self.now in
    let e : Exchange = giving ask c.args.say.now j.given.items in
    let S : Stage → Type 0 = λ stage. KnowsAtStage j stage e.ask es in
    let known = subst S c.requires asked.knows in
    let U : Ask → Type 0 = λ a. IsUnwelcome a e.say in
    subst U (sym known.0) (unwelcome_get Kind.Snapshot j.snapshot e.say c.in_default.not-Bytes)

pub returns-then-not-is_named-clause-ok : goal.returns-then-not-is_named-clause-ok
returns-then-not-is_named-clause-ok c = λ ask es w obeys asked.
    let holding = c.args.holder.now in
    let j = c.args.self.now in
    let e : Exchange = giving ask c.args.say.now j.given.items in
    let S : Stage → Type 0 = λ stage. KnowsAtStage j stage e.ask es in
    let known = subst S c.requires asked.knows in
    let n = j.snapshot in
    let N : List ℕ → Type 0 = λ y. naming.name y ≢ n in
    let other : naming.name c.as_slice-bytes.result.now ≢ n = λ h. (let yes = c.is_named.ensures.1 h in let no = c.if-not-is_named.true in absurd (cc)) in
    let bad = bad_object (upto holding.who.versions) Kind.Snapshot ask e.say n n c.in-Bytes.bytes known.0 refl c.in-Bytes.is (inl (subst N c.as_slice-bytes.ensures other)) in
    (inl known.3.none_given, inl (inl bad))

pub returns-in-Ok-clause-ok : goal.returns-in-Ok-clause-ok
returns-in-Ok-clause-ok c = λ ask es w obeys asked.
    let holding = c.args.holder.now in
    let j = c.args.self.now in
    let e : Exchange = giving ask c.args.say.now j.given.items in
    let S : Stage → Type 0 = λ stage. KnowsAtStage j stage e.ask es in
    let known = subst S c.requires asked.knows in
    let n = j.snapshot in
    let x = c.in-Bytes.bytes in
    let N : List ℕ → Type 0 = λ y. naming.name y ≡ n in
    let X : List ℕ → Type 0 = λ y. IsSnapshotText y c.in-Ok.snapshot in
    let named = subst N c.as_slice-bytes.ensures (c.is_named.ensures.0 c.if-not-is_named.false) in
    let text = subst X c.as_slice-bytes.ensures c.in-Ok.ensures.ok.0 in
    let indexes = snapshot_on j.catalog e n x false es known.0 c.in-Bytes.is known.2 in
    let due = c.page_ask.ensures.due (task_under (restore_rule n) holding.who) holding.token (e ∷ es) w known.1 indexes in
    let found : HasRoot (e ∷ es) n c.in-Ok.snapshot.version c.in-Ok.snapshot.tree = (x, c.in-Ok.snapshot, (inl (known.0, c.in-Bytes.is), named), text, refl, refl) in
    (inl known.3.none_given, record { work = due.work; may = due.may; allowed = reads_allowed n (e ∷ es) _ (inl known.0) (due_index _ j.catalog (e ∷ es) _ due); knows = (due.knows, found, before_on j.walk j.given.items e es refl known.3) })

pub returns-in_ok-end-in-Err-clause-ok : goal.returns-in_ok-end-in-Err-clause-ok
returns-in_ok-end-in-Err-clause-ok c = λ ask es w obeys asked.
    let holding = c.args.holder.now in
    let j = c.args.self.now in
    let e : Exchange = giving ask c.args.say.now j.given.items in
    let S : Stage → Type 0 = λ stage. KnowsAtStage j stage e.ask es in
    let known = subst S c.requires asked.knows in
    let n = j.snapshot in
    let end = c.in_ok-end-in-Err.end in
    let C : List ℕ → Type 0 = λ y. CausedBy (upto holding.who.versions) (Ask.Get Kind.Snapshot n) (Say.Bytes y) end in
    let D : Say → Type 0 = λ y. CausedBy (upto holding.who.versions) (Ask.Get Kind.Snapshot n) y end in
    let E : Ask → Type 0 = λ a. CausedBy (upto holding.who.versions) a e.say end in
    let named = c.is_named.ensures.0 c.if-not-is_named.false in
    let x = c.as_slice-bytes.result.now in
    let bound : c.greatest.result ≡ upto holding.who.versions = c.greatest.ensures.greatest ∙ ap (λ versions. upto versions) c.versions.ensures in
    let fault = subst (λ (v : ℕ). SnapshotFault v x c.in-Err.error) bound c.in-Err.ensures.fault in
    let cause = subst C c.as_slice-bytes.ensures (c.in_ok-end-in-Err.ensures holding.who.versions x named fault) in
    (inl known.3.none_given, inl (inl (subst E (sym known.0) (subst D (sym c.in-Bytes.is) cause))))

pub returns-in_default-clause-heeds : goal.returns-in_default-clause-heeds
returns-in_default-clause-heeds c = λ ask es w obeys asked ends. tt

pub returns-then-not-is_named-clause-heeds : goal.returns-then-not-is_named-clause-heeds
returns-then-not-is_named-clause-heeds c = λ ask es w obeys asked.
    let j = c.args.self.now in
    let n = j.snapshot in
    let known = upto c.args.holder.now.who.versions in
    let e : Exchange = giving ask c.args.say.now j.given.items in
    let S : Stage → Type 0 = λ stage. KnowsAtStage j stage e.ask es in
    let asks = (subst S c.requires asked.knows).0 in
    let N : List ℕ → Type 0 = λ y. naming.name y ≢ n in
    let other : naming.name c.as_slice-bytes.result.now ≢ n = λ h. (let yes = c.is_named.ensures.1 h in let no = c.if-not-is_named.true in absurd (cc)) in
    heeds_end known false e (End.BadObject Thing.Snapshot n) (bad_object known Kind.Snapshot ask e.say n n c.in-Bytes.bytes asks refl c.in-Bytes.is (inl (subst N c.as_slice-bytes.ensures other)))

pub returns-in-Ok-clause-heeds : goal.returns-in-Ok-clause-heeds
returns-in-Ok-clause-heeds c = λ ask es w obeys asked.
    let j = c.args.self.now in
    let who = c.args.holder.now.who in
    let known = upto who.versions in
    let e : Exchange = giving ask c.args.say.now j.given.items in
    let S : Stage → Type 0 = λ stage. KnowsAtStage j stage e.ask es in
    let asks = (subst S c.requires asked.knows).0 in
    let read = c.in-Ok.ensures.ok in
    let x = c.as_slice-bytes.result.now in
    let bound : c.greatest.result ≡ known = c.greatest.ensures.greatest ∙ ap (λ versions. upto versions) c.versions.ensures in
    let within = subst (λ (v : ℕ). c.in-Ok.snapshot.version ≤ v) bound read.1 in
    let A : Ask → Type 0 = λ a. IsOfOtherVersion known a e.say in
    let O : Say → Type 0 = λ say. IsOfOtherVersion known (Ask.Get Kind.Snapshot j.snapshot) say in
    let F : List ℕ → Type 0 = λ y. SnapshotFault known y TextError.Version in
    let understood : ¬ IsOfOtherVersion known ask e.say = λ other. (
    let fault = subst F (sym c.as_slice-bytes.ensures) (subst O c.in-Bytes.is (subst A asks other)).1 in
    let q : TextError.Version ≡ TextError.Memory = snapshot_faultless known x c.in-Ok.snapshot TextError.Version read.0 within fault in
    absurd (cc)) in
    let reads : ¬ IsUnreadable known Kind.Snapshot x = λ u. u.3 (snapshot_faultless known x c.in-Ok.snapshot u.0 read.0 within u.1) in
    let good = object_welcome known Kind.Snapshot j.snapshot e.say x e.emitted (c.in-Bytes.is ∙ ap Say.Bytes (sym c.as_slice-bytes.ensures)) (c.is_named.ensures.0 c.if-not-is_named.false) reads in
    let W : Ask → Type 0 = λ a. IsWelcome known (giving a e.say e.emitted) in
    λ ends. absurd (welcome_follows known false e understood (subst W (sym asks) good) ends)

pub returns-in_ok-end-in-Err-clause-heeds : goal.returns-in_ok-end-in-Err-clause-heeds
returns-in_ok-end-in-Err-clause-heeds c = λ ask es w obeys asked.
    let j = c.args.self.now in
    let n = j.snapshot in
    let who = c.args.holder.now.who in
    let known = upto who.versions in
    let e : Exchange = giving ask c.args.say.now j.given.items in
    let S : Stage → Type 0 = λ stage. KnowsAtStage j stage e.ask es in
    let asks = (subst S c.requires asked.knows).0 in
    let end = c.in_ok-end-in-Err.end in
    let C : List ℕ → Type 0 = λ y. CausedBy known (Ask.Get Kind.Snapshot n) (Say.Bytes y) end in
    let D : Say → Type 0 = λ y. CausedBy known (Ask.Get Kind.Snapshot n) y end in
    let E : Ask → Type 0 = λ a. CausedBy known a e.say end in
    let named = c.is_named.ensures.0 c.if-not-is_named.false in
    let x = c.as_slice-bytes.result.now in
    let bound : c.greatest.result ≡ known = c.greatest.ensures.greatest ∙ ap (λ versions. upto versions) c.versions.ensures in
    let fault = subst (λ (v : ℕ). SnapshotFault v x c.in-Err.error) bound c.in-Err.ensures.fault in
    let cause = subst C c.as_slice-bytes.ensures (c.in_ok-end-in-Err.ensures who.versions x named fault) in
    heeds_end known false e end (subst E (sym asks) (subst D (sym c.in-Bytes.is) cause))
