use Rattle.std.proofs.Common.{Result, Ok, Err, IfOk, sym, subst, inl, inr}
use Rattle.repo_wire.specs.declared.messages.Say.{Say}
use Rattle.repo_restore.specs.RestoreStates.{RestoreReplied}
use Rattle.repo_restore.proofs.Heeding.{blob_heeds}
use Rattle.repo_restore.proofs.restores.Restore.take_range.Goals as goal

pub returns-in-Misnamed-clause-ok : goal.returns-in-Misnamed-clause-ok
returns-in-Misnamed-clause-ok c = λ ask.
    let bad = c.in-Misnamed.ensures in
    subst (λ (s : Say). RestoreReplied c.args.self.now ask s c.refuse_blob.result c.refuse_blob.new.self) (sym bad.1) (c.refuse_blob.ensures.replied ask bad.0 (inr bad.2))

pub returns-in-Uneven-clause-ok : goal.returns-in-Uneven-clause-ok
returns-in-Uneven-clause-ok c = λ ask.
    let bad = c.in-Uneven.ensures in
    subst (λ (s : Say). RestoreReplied c.args.self.now ask s c.refuse_blob-in-Uneven.result c.refuse_blob-in-Uneven.new.self) (sym bad.1) (c.refuse_blob-in-Uneven.ensures.replied ask bad.0 (inl bad.3))

weaker : {A E : Type 0} (P Q : A → Type 0) (r : Result A E) → ((x : A) → P x → Q x) → IfOk r P → IfOk r Q
weaker P Q (Ok x) f h = f x h
weaker P Q (Err e) f h = tt

pub returns-in-Blob-clause-ok : goal.returns-in-Blob-clause-ok
returns-in-Blob-clause-ok c = weaker _ _ c.take_blob.result (λ step takes ask.
    let is = c.in-Blob.ensures in
    subst (λ (s : Say). RestoreReplied c.args.self.now ask s step c.take_blob.new.self) (sym is.0) (takes ask is.1 is.2)) c.take_blob.ensures.ok

always : {A E : Type 0} (P : A → Type 0) (r : Result A E) → ((x : A) → P x) → IfOk r P
always P (Ok x) f = f x
always P (Err e) f = tt

pub returns-in-Blob-clause-heeds : goal.returns-in-Blob-clause-heeds
returns-in-Blob-clause-heeds c = always _ c.take_blob.result (λ step ask. blob_heeds c.args.self.now c.take_blob.new.self c.args.fact c.args.version ask c.args.say.now c.in-Blob.bytes.now step c.requires c.in-Blob.ensures.0)

pub returns-in-Misnamed-clause-heeds : goal.returns-in-Misnamed-clause-heeds
returns-in-Misnamed-clause-heeds c = λ ask. let bad = c.in-Misnamed.ensures in blob_heeds c.args.self.now c.refuse_blob.new.self c.args.fact c.args.version ask c.args.say.now bad.0 c.refuse_blob.result c.requires bad.1

pub returns-in-Uneven-clause-heeds : goal.returns-in-Uneven-clause-heeds
returns-in-Uneven-clause-heeds c = λ ask. let bad = c.in-Uneven.ensures in blob_heeds c.args.self.now c.refuse_blob-in-Uneven.new.self c.args.fact c.args.version ask c.args.say.now bad.0 c.refuse_blob-in-Uneven.result c.requires bad.1
