-- What wrong rules break.
use Rattle.std.proofs.Common.{◌≡◌, ◌≢◌, inl, ⊎_elim, ℕ, suc, zero, List, [], refl, sym, ◌∙◌, ap, subst, Some, None}
use Rattle.std.proofs.lemmas.Option.{none-some}
use Rattle.repo_name.specs.declared.kinds.BlobKind.{BlobKind}
use Rattle.repo_name.specs.declared.kinds.BlobKind.TheVariants.{Tree}
use Rattle.repo_name.specs.declared.kinds.Kind.{Kind}
use Rattle.repo_name.specs.declared.names.Name.{Name}
use Rattle.repo_name.specs.declared.rows.LockRow.{LockRow}
use Rattle.repo_name.specs.declared.tokens.Token.{Token}
use Rattle.repo_wire.specs.declared.messages.Ask.{Ask}
use Rattle.repo_wire.specs.declared.messages.Say.{Say}
use Rattle.repo_locks.specs.TokenMachine.{Tokens, live_as}
use Rattle.repo_locks.proofs.Changed.{kind_among-with_row_same}
use Rattle.repo_store.specs.Stores.{Objects, Added, Removed}
use Rattle.repo_index.specs.IndexText.{Says}
use Rattle.repo_index.specs.declared.facts.Fact.{Fact}
use Rattle.repo_tree.specs.Parts.{Blobs, IsPartBy}
use Rattle.repo_tree.specs.SnapshotText.{IsSnapshotText}
use Rattle.repo_tree.specs.Spelling.{ReachTo, HasPair, greatest_depth}
use Rattle.repo_tree.specs.declared.snapshots.Snapshot.{Snapshot}
use Rattle.repo_tree.proofs.SnapshotLemmas.{snapshot_texts_one}
use Rattle.repo_session.specs.Soundness.{IsHeld, IsSound, IsSoundSnapshot}
use Rattle.repo_session.specs.Traces.{Exchanged}
use Rattle.repo_session.proofs.Wholeness.{given_held}
use Rattle.repo_world.specs.Bag.{StillSays}
use Rattle.repo_world.specs.Safe.{Took}
use Rattle.repo_world.specs.World.{World, client}
use Rattle.repo_runs.specs.WrongDeletes.{DeletesForEverBreakBag}
use Rattle.repo_runs.specs.WrongLocks.{GrantsAgainBreakBag}
use Rattle.repo_runs.specs.WrongListedPacks.{UnkeptBreakSound}
use Rattle.repo_runs.specs.WrongPacksFirst.{PacksFirstBreakSound}
use Rattle.repo_runs.specs.WrongReplies.{TakesAnyBreakBag}
use Rattle.repo_runs.specs.WrongSnapshots.{SnapshotFirstBreaksSound}
use Rattle.repo_world.proofs.Knowing.{put_named}

-- ---- a delete under a token that isn't live

same_ask : (a : Ask) (t u : Token) (j k : Kind) (n m : Name) → a ≡ Ask.Delete t j n → a ≡ Ask.Delete u k m → (j ≡ k) × (n ≡ m)
same_ask a t u j k n m e d = let b : j ≡ k = cc in let c : n ≡ m = cc in (b, c)

pub deletes_break : DeletesForEverBreakBag
deletes_break w v k i request t u j n x got took live none asks s still =
    let d = s.step in
    let same = same_ask request.ask t d.token j d.kind n d.name asks d.asks in
    let gone : s.store.objects j n ≡ None = subst (λ a. s.store.objects a n ≡ None) (sym same.0) (subst (λ a. s.store.objects d.kind a ≡ None) (sym same.1) d.removes.0.gone) in
    let says = subst (λ (z : World). StillSays z i (Ask.Get j n) (Say.Bytes x)) s.is still in
    ⊎_elim none (λ there. none-some x (sym gone ∙ there)) (says.got j n x refl refl u took (λ dead. live (sym (ap (λ (l : Tokens). live_as l u) d.removes.2) ∙ dead)))

-- ---- a dead token's lock

same_row : (a : Ask) (r s : LockRow) → a ≡ Ask.Lock r → a ≡ Ask.Lock s → r ≡ s
same_row a r s e d = cc

pub grants_break : GrantsAgainBreakBag
grants_break w v k request row j n x took none other asks s still =
    let g = s.step in
    let same : row ≡ g.row = same_row request.ask row g.row asks g.asks in
    let live : live_as s.store.tokens g.row.token ≡ Some g.row.exclusive = ap (λ (l : Tokens). live_as l g.row.token) g.saves.2 ∙ kind_among-with_row_same g.row w.store.tokens.live g.dead in
    let says = subst (λ (z : World). StillSays z k (Ask.Get j n) (Say.Bytes x)) s.is still in
    let took_it : Took w k g.row.token = subst (λ (r : LockRow). Took w k r.token) same took in
    ⊎_elim none (λ there. other (ap (λ (o : Objects). o j n) (sym g.saves.1) ∙ there)) (says.got j n x refl refl g.row.token took_it (λ dead. none-some g.row.exclusive (sym dead ∙ live)))

-- ---- a pack that an index names

pub named_pack_goes : (old new : Objects) (n i : Name) (text : List ℕ) (fact : Fact) → old Kind.Index i ≡ Some text → Says text fact → fact.place.pack ≡ n → Removed old Kind.Pack n new → ¬ IsSound new
named_pack_goes old new n i text fact listed says named removed sound =
    let index : new Kind.Index i ≡ Some text = ⊎_elim (λ here. here) (λ this. (let e : Kind.Index ≡ Kind.Pack = this.0 in absurd (cc))) (removed.kept Kind.Index i text listed) in
    let h = given_held new sound i text fact index says in
    none-some h.pack (sym removed.gone ∙ (ap (λ m. new Kind.Pack m) (sym named) ∙ h.there))

pub packs_first_break : PacksFirstBreakSound
packs_first_break es old new n i text fact may listed says named removed = named_pack_goes old new n i text fact listed says named removed

pub unkept_break : UnkeptBreakSound
unkept_break es old new n i text fact may put listed says named removed = named_pack_goes old new n i text fact listed says named removed

-- ---- a snapshot whose tree no index gives

-- a tree is one of its own directory, and so reaches itself
own_part : (version : ℕ) (B : Blobs) (t : Name) → IsPartBy version B t t
own_part zero B t = refl
own_part (suc zero) B t = refl
own_part (suc (suc zero)) B t = ([], refl)
own_part (suc (suc (suc version))) B t = refl

pub reaches_itself : (depth version : ℕ) (B : Blobs) (t : Name) → ReachTo version depth B t Tree t
reaches_itself zero version B t = (refl, own_part version B t)
reaches_itself (suc depth) version B t = inl (refl, own_part version B t)

-- a snapshot that comes holds no blob
module _ (old new : Objects) (n : Name) (text : List ℕ) (added : Added old Kind.Snapshot n text new) where
  was_there : (k : Kind) (m : Name) (x : List ℕ) → k ≢ Kind.Snapshot → new k m ≡ Some x → old k m ≡ Some x
  was_there k m x other h = ⊎_elim (λ before. before) (λ this. absurd (other this.0)) (added.only k m x h)

  held_before : (k : BlobKind) (x : List ℕ) → IsHeld new k x → IsHeld old k x
  held_before k x h = record {
    index = h.index;
    text = h.text;
    fact = h.fact;
    pack = h.pack;
    listed = was_there Kind.Index h.index h.text (λ e. absurd (cc)) h.listed;
    says = h.says;
    of_kind = h.of_kind;
    named = h.named;
    there = was_there Kind.Pack h.fact.place.pack h.pack (λ e. absurd (cc)) h.there;
    stands = h.stands;
  }

  root_held : (snapshot : Snapshot) → IsSnapshotText text snapshot → IsSoundSnapshot new text → HasPair (IsHeld old) Tree snapshot.tree
  root_held snapshot reads s =
      let p = s.is_whole Tree s.snapshot.tree (reaches_itself greatest_depth s.snapshot.version (IsHeld new) s.snapshot.tree) in
      let one : s.snapshot ≡ snapshot = snapshot_texts_one text s.snapshot snapshot s.reads reads in
      subst (λ (z : Snapshot). HasPair (IsHeld old) Tree z.tree) one (record { bytes = p.bytes; among = held_before Tree p.bytes p.among; named = p.named })

pub snapshot_first_breaks : SnapshotFirstBreaksSound
snapshot_first_breaks es old new n text may unheld none added sound =
    let there = added.here in
    let is : there.0 ≡ text = ⊎_elim (λ before. absurd (none-some there.0 (sym none ∙ before))) (λ this. this.2) (added.only Kind.Snapshot n there.0 there.1) in
    unheld (root_held old new n text added may.snapshot may.reads (subst (λ y. IsSoundSnapshot new y) is (sound.snapshots n there.0 there.1)))

-- ---- any reply of the instance

pub takes_any_break : TakesAnyBreakBag
takes_any_break w v k reply j n x t asks said other bag =
    let traced : (client v k).trace ≡ _ = ap (λ (c : Rattle.repo_world.specs.Clients.Client). c.trace) t.here ∙ t.trace in
    let got : Exchanged (client v k).trace (Ask.Get j n) (Say.Bytes x) = subst (λ es. Exchanged es (Ask.Get j n) (Say.Bytes x)) (sym traced) (inl (asks, said)) in
    other (put_named v bag j n x ((bag.told k (Ask.Get j n) (Say.Bytes x) got).0.got_put j n x refl refl))
