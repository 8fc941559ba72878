-- What is put under a live token leaves the store sound.
use Rattle.std.proofs.Common.{◌≡◌, ◌⊎◌, inl, inr, ⊎_elim, ℕ, ◌+◌, List, [], ◌∷◌, length, refl, sym, subst, Some}
use Rattle.repo_name.specs.declared.kinds.Kind.{Kind}
use Rattle.repo_name.specs.declared.names.Name.{Name}
use Rattle.repo_name.specs.declared.tokens.Token.{Token}
use Rattle.repo_wire.specs.declared.messages.Ask.{Ask}
use Rattle.repo_pack.specs.PackLayout.{item_of}
use Rattle.repo_store.specs.Stores.{Objects, Added}
use Rattle.repo_session.specs.Changes.{IsSoundObject}
use Rattle.repo_session.specs.Soundness.{IsSound, IsSoundIndex, IsSoundSnapshot}
use Rattle.repo_session.specs.Traces.{Trace, WasAsked}
use Rattle.repo_session.proofs.Changing.{adding_keeps_sound}
use Rattle.repo_writing.specs.Laws.{IsPutOrKept, blobs_in}
use Rattle.repo_writing.specs.Putting.{PutDone, IsIndexOf}
use Rattle.repo_writing.proofs.Keeping.{IsKept, index_put_is_sound, snapshot_put_is_sound}
use Rattle.repo_world.specs.Bag.{AskedIn, AskedAt, with_next, HasDeleted, IsLive, HasBag}
use Rattle.repo_world.specs.Duties.{MayPutSnapshot}
use Rattle.repo_world.specs.Safe.{IsPutBy, Took, known_made, HasNoClash}
use Rattle.repo_world.specs.World.{World, client}
use Rattle.repo_world.proofs.Deleting.{delete_of, keeps_put, no_snapshot}
use Rattle.repo_world.proofs.Knowing.{sent_now, held_in, held_known, held_apart, stand_of, put_named, told_of}
use Rattle.repo_world.proofs.Later.{made_still}
use Rattle.repo_world.proofs.Sending.{Within}

-- ---- whether an index was deleted

abbrev pub IsIndexDelete : Ask → Type 0
IsIndexDelete ask = (t : Token) × (m : Name) × (ask ≡ Ask.Delete t Kind.Index m)

decided : (ask : Ask) → (¬ IsIndexDelete ask) ⊎ IsIndexDelete ask
decided (Ask.Delete t Kind.Index m) = inr (t, m, refl)
decided (Ask.Delete t Kind.Pack m) = inl (λ h. let e : Ask.Delete t Kind.Pack m ≡ Ask.Delete h.0 Kind.Index h.1 = h.2 in absurd (cc))
decided (Ask.Delete t Kind.Snapshot m) = inl (λ h. let e : Ask.Delete t Kind.Snapshot m ≡ Ask.Delete h.0 Kind.Index h.1 = h.2 in absurd (cc))
decided Ask.Ticket = inl (λ h. let e : Ask.Ticket ≡ Ask.Delete h.0 Kind.Index h.1 = h.2 in absurd (cc))
decided (Ask.Lock row) = inl (λ h. let e : Ask.Lock row ≡ Ask.Delete h.0 Kind.Index h.1 = h.2 in absurd (cc))
decided (Ask.Refresh token time) = inl (λ h. let e : Ask.Refresh token time ≡ Ask.Delete h.0 Kind.Index h.1 = h.2 in absurd (cc))
decided (Ask.Unlock token) = inl (λ h. let e : Ask.Unlock token ≡ Ask.Delete h.0 Kind.Index h.1 = h.2 in absurd (cc))
decided Ask.Locks = inl (λ h. let e : Ask.Locks ≡ Ask.Delete h.0 Kind.Index h.1 = h.2 in absurd (cc))
decided (Ask.List k after) = inl (λ h. let e : Ask.List k after ≡ Ask.Delete h.0 Kind.Index h.1 = h.2 in absurd (cc))
decided (Ask.Get k n) = inl (λ h. let e : Ask.Get k n ≡ Ask.Delete h.0 Kind.Index h.1 = h.2 in absurd (cc))
decided (Ask.Range p offset len) = inl (λ h. let e : Ask.Range p offset len ≡ Ask.Delete h.0 Kind.Index h.1 = h.2 in absurd (cc))
decided (Ask.Put token k n x) = inl (λ h. let e : Ask.Put token k n x ≡ Ask.Delete h.0 Kind.Index h.1 = h.2 in absurd (cc))
decided (Ask.Upgrade token) = inl (λ h. let e : Ask.Upgrade token ≡ Ask.Delete h.0 Kind.Index h.1 = h.2 in absurd (cc))
decided Ask.Config = inl (λ h. let e : Ask.Config ≡ Ask.Delete h.0 Kind.Index h.1 = h.2 in absurd (cc))

abbrev HasIndexDelete : Trace → Type 0
HasIndexDelete es = (q : ℕ) × (t : Token) × (m : Name) × AskedIn es q (Ask.Delete t Kind.Index m)

index_delete_or_none : (es : Trace) → (¬ HasIndexDelete es) ⊎ HasIndexDelete es
index_delete_or_none [] = inl (λ h. h.3)
index_delete_or_none (e ∷ es) =
    ⊎_elim (λ none. ⊎_elim (λ never. inl (λ h. both none never h.0 h.1 h.2 h.3)) (λ here. inr (length es + 1, here.0, here.1, inl (here.2, refl))) (decided e.ask)) (λ h. inr (h.0, h.1, h.2, inr h.3)) (index_delete_or_none es)
  where
    both : (¬ HasIndexDelete es) → (¬ IsIndexDelete e.ask) → (q : ℕ) (t : Token) (m : Name) → AskedIn (e ∷ es) q (Ask.Delete t Kind.Index m) → ⊥
    both none never q t m (inl h) = never (t, m, h.0)
    both none never q t m (inr h) = none (q, t, m, h)

module _ (w : World) (bag : HasBag w) (clash : HasNoClash w) (k : ℕ) (t : Token) (n : Name) (x : List ℕ) (took : Took w k t) (live : IsLive w t) where
  -- ---- an index

  lists_sound : (es : Trace) → Within es (client w k).trace → IsKept (HasDeleted w k) es → IsIndexOf (IsPutOrKept es) x → IsSoundIndex w.store.objects x
  lists_sound es within kept lists = index_put_is_sound (HasDeleted w k) es w.store.objects bag.sound (told_of w bag k es t within took live) (stand_of w bag clash k es within) kept x lists

  -- where an index was deleted, the index that is put stands there
  there_already : (q : ℕ) → AskedAt (client w k) q (Ask.Put t Kind.Index n x) → HasIndexDelete (with_next (client w k).next (client w k).trace) → IsSoundIndex w.store.objects x
  there_already q asked h =
      let d = delete_of w bag clash k h.0 h.1 Kind.Index h.2 h.3 in
      let before : WasAsked d.older (Ask.Put t Kind.Index n x) = d.before q t Kind.Index n x asked in
      let done : PutDone d.older Kind.Index n x = d.rule.done t n x before in
      ⊎_elim
      (λ (here : (y : List ℕ) × (w.store.objects Kind.Index n ≡ Some y)). subst (λ y. IsSoundIndex w.store.objects y) (stand_of w bag clash k d.older d.within t Kind.Index n x here.0 before here.1) (bag.sound.indexes n here.0 here.1))
      (λ gone. absurd (keeps_put w bag clash k d.older d.within Kind.Index n x done gone))
      ((told_of w bag k d.older t d.within took live).put done.0 Kind.Index n x done.1)

  index_ok : (q : ℕ) → AskedAt (client w k) q (Ask.Put t Kind.Index n x) → IsSoundIndex w.store.objects x
  index_ok q asked =
      let s = sent_now w bag k q (Ask.Put t Kind.Index n x) asked in
      ⊎_elim
      (λ none. lists_sound s.older s.within (record { put = λ m i y p. keeps_put w bag clash k s.older s.within m i y p; indexes = λ i d. none (d.0, d.1, i, d.2) }) (s.permitted tt).1)
      (λ h. there_already q asked h)
      (index_delete_or_none (with_next (client w k).next (client w k).trace))

  -- ---- a snapshot

  snapshot_ok : (q : ℕ) → AskedAt (client w k) q (Ask.Put t Kind.Snapshot n x) → IsSoundSnapshot w.store.objects x
  snapshot_ok q asked =
      let s = sent_now w bag k q (Ask.Put t Kind.Snapshot n x) asked in
      let r : MayPutSnapshot (client w k).job s.older t x = s.permitted tt in
      let undeleted : (m : Kind) (i : Name) → ¬ HasDeleted w k m i = λ m i d. no_snapshot w bag clash k m i d n (q, t, x, asked) in
      snapshot_put_is_sound (HasDeleted w k) s.older w.store.objects bag.sound (told_of w bag k s.older t s.within took live) (stand_of w bag clash k s.older s.within)
      (record { put = λ m i y p. undeleted m i; indexes = λ i. undeleted Kind.Index i }) (held_apart w bag clash) (blobs_in r.items)
      (λ c y z held among. clash y z (held_known w bag c y held) (known_made k (made_still (client w k).job s.older (client w k).trace s.within s.since (bag.taken k) r.all z (r.made c z among))))
      (λ c y among. r.given (item_of c y) among) x r.snapshot r.entries r.reads r.spells

  -- ---- by the kind

  object_ok : (j : Kind) (q : ℕ) → AskedAt (client w k) q (Ask.Put t j n x) → IsSoundObject w.store.objects j x
  object_ok Kind.Pack q h = ((sent_now w bag k q (Ask.Put t Kind.Pack n x) h).permitted tt).1
  object_ok Kind.Index q h = index_ok q h
  object_ok Kind.Snapshot q h = snapshot_ok q h

  -- a put under a live token
  pub put_keeps_sound : (j : Kind) (q : ℕ) → AskedAt (client w k) q (Ask.Put t j n x) → (new : Objects) → Added w.store.objects j n x new → IsSound new
  put_keeps_sound j q asked new added =
      let m = bag.sent k q (Ask.Put t j n x) asked in
      let mine : IsPutBy w j n x = record { by = k; request = m.0; token = t; message = m.1; asks = m.2 } in
      let origin : (i : Kind) (o : Name) (y : List ℕ) → new i o ≡ Some y → IsPutBy w i o y = λ i o y h. ⊎_elim (bag.origin i o y) (λ g. subst (λ z. IsPutBy w i o z) (sym g.2) (subst (λ z. IsPutBy w i z x) (sym g.1) (subst (λ z. IsPutBy w z n x) (sym g.0) mine))) (added.only i o y h) in
      adding_keeps_sound w.store.objects new j n x bag.sound added (put_named w bag j n x mine) (object_ok j q asked) (λ b y z a c. clash y z (held_in w bag new origin b y a) (held_in w bag new origin b z c))
