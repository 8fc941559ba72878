use Rattle.std.proofs.Common.{◌≡◌, ◌∷◌, [], None, length, refl, ap, subst, inl, inr, ◌∙◌}
use Rattle.repo_name.specs.Naming as naming
use Rattle.repo_wire.specs.declared.messages.Ask.{Ask}
use Rattle.repo_index.specs.declared.facts.Fact.{Fact}
use Rattle.repo_session.specs.Blobs.{IsBadBlob}
use Rattle.repo_session.specs.Traces.{Exchange, silent}
use Rattle.repo_writing.specs.Writing.{items_of}
use Rattle.repo_prune.specs.inner.Replies.{LooksBehind}
use Rattle.repo_prune.specs.Moving.{copy_at}
use Rattle.repo_prune.specs.PruneStates.{KnowsStage, known_in}
use Rattle.repo_prune.specs.declared.prunes.Prune.{Prune}
use Rattle.repo_prune.specs.declared.prunes.Stage.{Stage}
use Rattle.repo_prune.proofs.Copies.{awaits_as}
use Rattle.repo_prune.proofs.TreeReading.{on_any}
use Rattle.repo_prune.proofs.PruneListing.{may_step, may_turn}
use Rattle.repo_prune.proofs.PruneMoves.{counted_alone, repacks_as, repacks_range, received_more, goes_on, blob_known, not_done, blob_length, looks_behind}
use Rattle.repo_prune.proofs.prunes.Prune.take_blob.Goals as goal

pub returns-in_err-moved-in-Blob-clause-knows : goal.returns-in_err-moved-in-Blob-clause-knows
returns-in_err-moved-in-Blob-clause-knows c = on_any c.from_residual.result (λ moving place pack offset len is es knows.
    let k = known_in c.args.self.now in
    let ask : Ask = Ask.Range pack offset len in
    let m = c.in-Moving.moving in
    let n = c.take_blob.new.self in
    let fact = c.in-Some.fact in
    let at = c.in-Moving.place in
    let known = blob_known k m fact at ask es c.in-Some.ensures (subst (λ s. KnowsStage k s ask es) c.in-Moving.is knows) in
    let still = c.in_err-moved-in-Blob.ensures.err (items_of known.puts) known.sealed known.awaits in
    record {
      puts = known.puts;
      sealed = still.sealed;
      fact = fact;
      repacking = repacks_as k m n known.puts [] es still.moves c.take_blob.ensures.target still.listed (counted_alone n.counts known.puts still.awaits.moving.counted) known.repacking;
      awaits = still.awaits;
      asks = known.asks;
      wanted = known.wanted;
      received = awaits_as m n m.asked n.asked (copy_at fact at) es still.moves still.asked known.received;
    })

pub returns-in_ok-moved-in-Blob-clause-steps : goal.returns-in_ok-moved-in-Blob-clause-steps
returns-in_ok-moved-in-Blob-clause-steps c = λ moving place pack offset len is who es w obeys asked.
    let old = c.args.self.now in
    let k = known_in old in
    let ask : Ask = Ask.Range pack offset len in
    let m = c.in-Moving.moving in
    let fact = c.in-Some.fact in
    let at = c.in-Moving.place in
    let copy = copy_at fact at in
    let e : Exchange = silent ask c.args.say.now in
    let known = blob_known k m fact at ask es c.in-Some.ensures (subst (λ s. KnowsStage k s ask es) c.in-Moving.is asked.knows) in
    let n = c.take_blob.new.self in
    let bytes = c.in-Blob.bytes.now in
    let moved = c.in_ok-moved-in-Blob.moved in
    let named : naming.name bytes ≡ fact.name = c.in-Blob.ensures.1 ∙ ap (λ (f : Fact). f.name) c.copy_at-copy.ensures in
    let size : length bytes ≡ copy.place.length = c.in-Blob.ensures.2 ∙ ap (λ (f : Fact). f.place.length) c.copy_at-copy.ensures in
    let long = blob_length es copy bytes known.read size in
    let on = c.in_ok-moved-in-Blob.ensures.on (items_of known.puts) known.sealed known.awaits long in
    let other = not_done m n fact (items_of known.puts) known.sealed m.listed.items moved known.awaits c.take_blob.ensures.moves on in
    let repacking = repacks_range k m known.puts e es pack offset len refl known.repacking in
    let new : Prune = record { snapshots = old.snapshots; catalog = old.catalog; packs = old.packs; stage = Stage.Moving n None; target = old.target; alloc = old.alloc } in
    let more = c.in_ok-moved-in-Blob.ensures.added (items_of known.puts) known.sealed known.awaits long in
    let got = received_more m n e es fact at bytes c.take_blob.ensures.moves more known.awaits.asked known.read known.asks c.in-Blob.ensures.0 named size known.received in
    may_step new who e es c.move_on.result refl (λ part. (copy, inr known.wanted, (known.asks, bytes, c.in-Blob.ensures.0, size, named)))
    (goes_on k m n known.puts (e ∷ es) repacking c.take_blob.ensures.moves c.take_blob.ensures.target who c.args.token w got moved c.move_on.result other on c.move_on.ensures.on)

pub returns-in-Misnamed-clause-steps : goal.returns-in-Misnamed-clause-steps
returns-in-Misnamed-clause-steps c = λ moving place pack offset len is who es w obeys asked.
    let old = c.args.self.now in
    let k = known_in old in
    let ask : Ask = Ask.Range pack offset len in
    let m = c.in-Moving.moving in
    let fact = c.in-Some.fact in
    let at = c.in-Moving.place in
    let e : Exchange = silent ask c.args.say.now in
    let known = blob_known k m fact at ask es c.in-Some.ensures (subst (λ s. KnowsStage k s ask es) c.in-Moving.is asked.knows) in
    let came = c.in-Misnamed.ensures in
    let bad = subst (λ (f : Fact). IsBadBlob f came.0) c.copy_at-copy.ensures (inr came.2) in
    let step = c.look_behind.result in
    let next = c.look_behind.new.place in
    let behind = subst (λ (f : Fact). LooksBehind k.facts f step next) c.copy_at-copy.ensures c.look_behind.ensures.behind in
    let new : Prune = record { snapshots = old.snapshots; catalog = old.catalog; packs = old.packs; stage = Stage.Moving m next; target = old.target; alloc = old.alloc } in
    may_turn new who e es step (looks_behind k m fact at e es came.0 known came.1 bad who c.args.token w refl step next behind)

pub returns-in-Uneven-clause-steps : goal.returns-in-Uneven-clause-steps
returns-in-Uneven-clause-steps c = λ moving place pack offset len is who es w obeys asked.
    let old = c.args.self.now in
    let k = known_in old in
    let ask : Ask = Ask.Range pack offset len in
    let m = c.in-Moving.moving in
    let fact = c.in-Some.fact in
    let at = c.in-Moving.place in
    let e : Exchange = silent ask c.args.say.now in
    let known = blob_known k m fact at ask es c.in-Some.ensures (subst (λ s. KnowsStage k s ask es) c.in-Moving.is asked.knows) in
    let came = c.in-Uneven.ensures in
    let bad = subst (λ (f : Fact). IsBadBlob f came.0) c.copy_at-copy.ensures (inl came.3) in
    let step = c.look_behind-in-Uneven.result in
    let next = c.look_behind-in-Uneven.new.place in
    let behind = subst (λ (f : Fact). LooksBehind k.facts f step next) c.copy_at-copy.ensures c.look_behind-in-Uneven.ensures.behind in
    let new : Prune = record { snapshots = old.snapshots; catalog = old.catalog; packs = old.packs; stage = Stage.Moving m next; target = old.target; alloc = old.alloc } in
    may_turn new who e es step (looks_behind k m fact at e es came.0 known came.1 bad who c.args.token w refl step next behind)
