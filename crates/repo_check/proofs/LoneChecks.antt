-- The laws of a check that is alone with its store.
use Rattle.std.proofs.Common.{◌≡◌, ◌⊎◌, ◌∷◌, [], ℕ, List, map, Option, Some, None, refl, sym, ap, subst, inl, inr, ⊎_elim, Contains, ◌∙◌}
use Rattle.std.proofs.lemmas.Option.{same_Some, none-some}
use Rattle.repo_name.specs.Naming as naming
use Rattle.repo_name.specs.Ranges.{range}
use Rattle.repo_name.specs.declared.kinds.BlobKind.TheVariants.{Tree}
use Rattle.repo_name.specs.declared.kinds.Kind.{Kind}
use Rattle.repo_name.specs.declared.names.Name.{Name}
use Rattle.repo_wire.specs.declared.messages.Ask.{Ask}
use Rattle.repo_wire.specs.declared.messages.Code.{Code}
use Rattle.repo_wire.specs.declared.messages.Say.{Say}
use Rattle.repo_pack.specs.declared.places.Place.{Place}
use Rattle.repo_index.specs.IndexText.{fact_of}
use Rattle.repo_index.specs.declared.facts.Fact.{Fact}
use Rattle.repo_store.specs.Pages.{Has}
use Rattle.repo_store.specs.Slices.{IsSlice}
use Rattle.repo_store.specs.StoreMachine.{object_limit, Answers, GetSays, SliceSays, Step}
use Rattle.repo_store.specs.declared.shelves.Slice.{Slice}
use Rattle.repo_store.specs.Stores.{Store, Objects}
use Rattle.repo_session.specs.declared.outcomes.CheckFault.{CheckFault}
use Rattle.repo_session.specs.declared.outcomes.End.{End}
use Rattle.repo_session.specs.declared.outcomes.Outcome.{Outcome}
use Rattle.repo_session.specs.Alone.{EndsWell, IsSent, IsSpoken}
use Rattle.repo_session.specs.Changes.{AreHeldApart}
use Rattle.repo_session.specs.Askers.{Asker}
use Rattle.repo_session.specs.Ends.{before_unlock}
use Rattle.repo_session.specs.Order.{Obeys}
use Rattle.repo_session.specs.Soundness.{IsSound}
use Rattle.repo_session.specs.Talks.{Talk, trace_of}
use Rattle.repo_session.specs.Told.{AskedToPut}
use Rattle.repo_session.specs.Traces.{Each, Trace, Exchanged, Lists, names_in}
use Rattle.repo_session.proofs.Concluding.{calm_of, either, ends_well, puts_none, reads_first, suits_either}
use Rattle.repo_name.proofs.Containing.{first_contained, later_contained, none_contained, contained_or}
use Rattle.repo_session.proofs.Enumerating.{listed_or_put}
use Rattle.repo_session.proofs.Growing.{Led, Shares, led}
use Rattle.repo_session.proofs.Telling.{seen_run}
use Rattle.repo_session.proofs.Spoken.{held_agree}
use Rattle.repo_session.proofs.Unchanging.{OnlyReads, sound_throughout, same_run, same_after, puts_nothing, shares_run}
use Rattle.repo_check.specs.Answers as answers_of
use Rattle.repo_check.specs.Answers.{Answer, GivesFact, LiesAt}
use Rattle.repo_check.specs.Checking.{check_task, CheckAllows, CheckGives, CheckConcludes, AreAnswers, IsAtFault, CameFor, IsRanged, IsClean}
use Rattle.repo_check.specs.Laws as laws
use Rattle.repo_check.specs.Laws.{AreObjects, HasNoClash}
use Rattle.repo_check.specs.Laws.IsSpoken.{of_object, of_tree, of_pack}
use Rattle.repo_check.specs.LoneLaws.{AreStoredApart, CheckChangesNothing, CheckEndsWell, CleanIsOfSound, IsCleanOrMemory}
use Rattle.repo_check.proofs.Finding.{lies_one}
use Rattle.repo_check.proofs.SoundFinds.{no_fault}
use Rattle.repo_check.proofs.Sounding.{well_is_sound}

check_never : OnlyReads CheckAllows
check_never es ask h = h.0

pub check_changes_nothing : CheckChangesNothing
check_changes_nothing who from mid to failed failing talk next outcome ran may is =
    same_after (check_task who) CheckAllows CheckGives check_never CheckConcludes from mid to talk next outcome is (led from talk mid ran.run) may

-- ---- what was answered is what the store has

-- nothing stands where a reply said that nothing does
absent : (limit : ℕ) (o : Option (List ℕ)) (say : Say) → say ≡ Say.Refused Code.Missing → GetSays limit o say → o ≡ None
absent limit None say s h = refl
absent limit (Some x) say s (inl h) = (let said = h.1 in absurd (cc))
absent limit (Some x) say s (inr h) = (let said = h.1 in absurd (cc))

answered_missing : (old : Store) (ask : Ask) (say : Say) (new : Store) → say ≡ Say.Refused Code.Missing → Step old ask say new → Answers old ask say new
answered_missing old ask say new s (inl h) = h
answered_missing old ask say new s (inr (looks, inl (fault, h))) = absurd (cc)
answered_missing old ask say new s (inr (looks, inr h)) = (let said = h.0 in absurd (cc))

-- what stands in a pack is not said to be missing or outside
refused_slice : (o : Option (List ℕ)) (offset len : ℕ) (slice : Slice) (say : Say) (pack x : List ℕ) → o ≡ Some pack → range pack offset len ≡ Some x → IsSlice o offset len slice → SliceSays slice say
    → (say ≡ Say.Refused Code.Missing) ⊎ (say ≡ Say.Refused Code.Range) → ⊥
refused_slice o offset len (Slice.Found bytes) say pack x there stands is says (inl missing) = absurd (cc (says, missing))
refused_slice o offset len (Slice.Found bytes) say pack x there stands is says (inr outside) = absurd (cc (says, outside))
refused_slice o offset len Slice.Missing say pack x there stands is says refused = absurd (none-some pack (sym is ∙ there))
refused_slice o offset len Slice.Outside say pack x there stands is says refused =
    let same : is.0 ≡ pack = same_Some is.0 pack (sym is.1 ∙ there) in
    absurd (none-some x (sym is.2 ∙ ap (λ (p : List ℕ). range p offset len) same ∙ stands))

refused_answers : (old : Store) (ask : Ask) (say : Say) (new : Store) → (say ≡ Say.Refused Code.Missing) ⊎ (say ≡ Say.Refused Code.Range) → Step old ask say new → Answers old ask say new
refused_answers old ask say new refused (inl h) = h
refused_answers old ask say new (inl s) (inr (looks, inl (fault, h))) = absurd (cc)
refused_answers old ask say new (inr s) (inr (looks, inl (fault, h))) = absurd (cc)
refused_answers old ask say new (inl s) (inr (looks, inr h)) = (let said = h.0 in absurd (cc))
refused_answers old ask say new (inr s) (inr (looks, inr h)) = (let said = h.0 in absurd (cc))

unsliced : (old : Store) (ask : Ask) (say : Say) (new : Store) (place : Place) (pack x : List ℕ) → ask ≡ Ask.Range place.pack place.offset place.length → (say ≡ Say.Refused Code.Missing) ⊎ (say ≡ Say.Refused Code.Range) → Step old ask say new
    → old.objects Kind.Pack place.pack ≡ Some pack → range pack place.offset place.length ≡ Some x → ⊥
unsliced old ask say new place pack x is refused step there stands =
    by (subst (λ q. Answers old q say new) is (refused_answers old ask say new refused step))
  where
    by : Answers old (Ask.Range place.pack place.offset place.length) say new → ⊥
    by (inl (wrong, says, same)) = ⊎_elim (λ missing. absurd (cc (says, missing))) (λ outside. absurd (cc (says, outside))) refused
    by (inr (right, (slice, of, said), same)) = refused_slice (old.objects Kind.Pack place.pack) place.offset place.length slice say pack x there stands of said refused

-- an answer's name is among theirs
named_has : (answers : List Answer) (a : Answer) → Contains answers a → Has (map (λ (b : Answer). b.name) answers) a.name
named_has [] a c = absurd (none_contained a c)
named_has (b ∷ answers) a c = elim (contained_or b answers a c) [ inl same ↦ inl (ap (λ (z : Answer). z.name) (sym same)) | inr more ↦ inr (named_has answers a more) ]

-- an answer of this name is among those whose names have it
answer_of : (P : Answer → Type 0) (answers : List Answer) (n : Name) → Each P answers → Has (map (λ (a : Answer). a.name) answers) n → (a : Answer) × Contains answers a × (a.name ≡ n) × P a
answer_of P [] n each h = absurd h
answer_of P (a ∷ answers) n each (inl here) = (a, first_contained a answers, sym here, each.0)
answer_of P (a ∷ answers) n each (inr more) = let found = answer_of P answers n each.1 more in (found.0, later_contained a answers found.0 found.1, found.2, found.3)

each_of : (P : Answer → Type 0) (answers : List Answer) (a : Answer) → Each P answers → Contains answers a → P a
each_of P [] a each h = absurd (none_contained a h)
each_of P (b ∷ answers) a each h = elim (contained_or b answers a h) [ inl same ↦ subst P same each.0 | inr more ↦ each_of P answers a each.1 more ]

module _ (who : Asker) (from : Store) where
  abbrev Keeps : Trace → Type 0
  Keeps es = Obeys (check_task who) CheckAllows CheckGives es

  same : (talk : Talk) (to : Store) → Keeps (trace_of talk) → Led from talk to → to.objects ≡ from.objects
  same talk to o h = same_run (check_task who) CheckAllows CheckGives check_never from talk to o h

  missing_was : (talk : Talk) (to : Store) (k : Kind) (n : Name) → Keeps (trace_of talk) → Led from talk to → Exchanged (trace_of talk) (Ask.Get k n) (Say.Refused Code.Missing) → from.objects k n ≡ None
  missing_was [] to k n o h g = absurd g
  missing_was (turn ∷ talk) to k n o h (inl now) =
      let a : Answers h.0 (Ask.Get k n) turn.reply.say to = subst (λ q. Answers h.0 q turn.reply.say to) now.0 (answered_missing h.0 turn.request.ask turn.reply.say to now.1 h.2.step) in
      sym (ap (λ (s : Objects). s k n) (same talk h.0 o.3 h.1)) ∙ absent (object_limit k) (h.0.objects k n) turn.reply.say now.1 a.0
  missing_was (turn ∷ talk) to k n o h (inr before) = missing_was talk h.0 k n o.3 h.1 before

  -- no reply says that a part of a pack isn't there that is
  unranged_was : (talk : Talk) (to : Store) (place : Place) (pack x : List ℕ) → Keeps (trace_of talk) → Led from talk to → IsRanged (trace_of talk) place None → from.objects Kind.Pack place.pack ≡ Some pack → range pack place.offset place.length ≡ Some x → ⊥
  unranged_was [] to place pack x o h g here stands = ⊎_elim (λ none. none) (λ none. none) g
  unranged_was (turn ∷ talk) to place pack x o h g here stands =
      let was : h.0.objects Kind.Pack place.pack ≡ Some pack = ap (λ (s : Objects). s Kind.Pack place.pack) (same talk h.0 o.3 h.1) ∙ here in
      ⊎_elim
      (⊎_elim (λ now. unsliced h.0 turn.request.ask turn.reply.say to place pack x now.0 (inl now.1) h.2.step was stands) (λ before. unranged_was talk h.0 place pack x o.3 h.1 (inl before) here stands))
      (⊎_elim (λ now. unsliced h.0 turn.request.ask turn.reply.say to place pack x now.0 (inr now.1) h.2.step was stands) (λ before. unranged_was talk h.0 place pack x o.3 h.1 (inr before) here stands))
      g

  module _ (talk : Talk) (to : Store) (o : Keeps (trace_of talk)) (h : Led from talk to) where
    shares : Shares from (trace_of talk) to
    shares = shares_run (check_task who) CheckAllows CheckGives check_never from talk to o h

    first : (k : Kind) (n : Name) (x : List ℕ) → to.objects k n ≡ Some x → from.objects k n ≡ Some x
    first k n x there = sym (ap (λ (s : Objects). s k n) (same talk to o h)) ∙ there

    now : (k : Kind) (n : Name) (x : List ℕ) → from.objects k n ≡ Some x → to.objects k n ≡ Some x
    now k n x there = ap (λ (s : Objects). s k n) (same talk to o h) ∙ there

    module _ (answers : answers_of.Gathered) (received : AreAnswers (trace_of talk) answers) where
      -- the object that came is the one that is there
      come : (k : Kind) (n : Name) (x : List ℕ) (a : Answer) → Contains (answers.objects k) a → a.name ≡ n → from.objects k n ≡ Some x → (bytes : Option (List ℕ)) → a.bytes ≡ bytes → CameFor (trace_of talk) k a.name bytes
          → Contains (answers.objects k) (record { name = n; bytes = Some x })
      come k n x a among name there None is got = absurd (none-some x (sym (missing_was talk to k n o h (subst (λ m. CameFor (trace_of talk) k m None) name got)) ∙ there))
      come k n x a among name there (Some y) is got =
          let here : from.objects k n ≡ Some y = first k n y (shares.got k n y (subst (λ m. CameFor (trace_of talk) k m (Some y)) name got)) in
          let one : y ≡ x = same_Some y x (sym here ∙ there) in
          let answer : a ≡ record { name = n; bytes = Some x } = λ i. record { name = name i; bytes = (is ∙ ap Some one) i } in
          subst (λ (b : Answer). Contains (answers.objects k) b) answer among

      pub are : AreObjects answers from.objects
      are k n x = (
        λ there.
            let got = received.objects k in
            let lists : Lists (trace_of talk) k n = ⊎_elim (λ l. l) (λ put. absurd (puts_nothing (check_task who) CheckAllows CheckGives check_never (trace_of talk) k n o put))
            (listed_or_put (AskedToPut (trace_of talk)) (check_task who) CheckAllows CheckGives k n (trace_of talk) to.objects x o (seen_run from talk to h) got.listed (now k n x there)) in
            let found = answer_of (λ (a : Answer). CameFor (trace_of talk) k a.name a.bytes) (answers.objects k) n got.each (subst (λ ns. Has ns n) (sym got.names) lists) in
            come k n x found.0 found.1 found.2 there found.0.bytes refl found.3,
        λ among. first k n x (shares.got k n x (each_of (λ (a : Answer). CameFor (trace_of talk) k a.name a.bytes) (answers.objects k) (record { name = n; bytes = Some x }) (received.objects k).each among)),
      )

      -- each object that was listed came
      pub given : (k : Kind) (a : Answer) → Contains (answers.objects k) a → (x : List ℕ) × (a.bytes ≡ Some x)
      given k a c = by a.bytes refl
        where
          there : (x : List ℕ) × (from.objects k a.name ≡ Some x)
          there =
              let got = received.objects k in
              let has : Has (names_in k (trace_of talk)) a.name = subst (λ ns. Has ns a.name) got.names (named_has (answers.objects k) a c) in
              let s = shares.listed k a.name has in
              (s.0, first k a.name s.0 s.1)

          by : (bytes : Option (List ℕ)) → a.bytes ≡ bytes → (x : List ℕ) × (a.bytes ≡ Some x)
          by (Some x) is = (x, is)
          by None is =
              let got = each_of (λ (b : Answer). CameFor (trace_of talk) k b.name b.bytes) (answers.objects k) a (received.objects k).each c in
              absurd (none-some there.0 (sym (missing_was talk to k a.name o h (subst (λ b. CameFor (trace_of talk) k a.name b) is got)) ∙ there.1))

      -- and each tree came as it stands
      ranged : (a : Answer) → Contains answers.trees a → (place : Place) → LiesAt answers Tree a.name place → (pack x : List ℕ) → from.objects Kind.Pack place.pack ≡ Some pack → range pack place.offset place.length ≡ Some x → a.bytes ≡ Some x
      ranged a c place at pack x here stands = by a.bytes refl (subst (λ p. IsRanged (trace_of talk) p a.bytes) same each.2)
        where
          each : (p : Place) × LiesAt answers Tree a.name p × IsRanged (trace_of talk) p a.bytes
          each = (received.trees.so_far.each a c).1

          same : each.0 ≡ place
          same = lies_one answers Tree a.name each.0 place each.1 at

          by : (bytes : Option (List ℕ)) → a.bytes ≡ bytes → IsRanged (trace_of talk) place a.bytes → a.bytes ≡ Some x
          by (Some y) is got =
              let r = shares.ranged place.pack place.offset place.length y (subst (λ b. IsRanged (trace_of talk) place b) is got) in
              let packs : r.0 ≡ pack = same_Some r.0 pack (sym (first Kind.Pack place.pack r.0 r.1) ∙ here) in
              is ∙ sym r.2 ∙ ap (λ (p : List ℕ). range p place.offset place.length) packs ∙ stands
          by None is got = absurd (unranged_was talk to place pack x o h (subst (λ b. IsRanged (trace_of talk) place b) is got) here stands)

    module _ (snapshots indexes packs blobs : ℕ) (clean : IsClean (trace_of talk) snapshots indexes packs blobs) where
      pack_named : (n : Name) (x : List ℕ) → from.objects Kind.Pack n ≡ Some x → naming.name x ≡ n
      pack_named n x there =
          let found = clean.well.objects Kind.Pack (record { name = n; bytes = Some x }) ((are clean.answers clean.received Kind.Pack n x).0 there) in
          ap naming.name (same_Some x found.0 found.1) ∙ found.2

      part : (fact : Fact) (pack x : List ℕ) → GivesFact clean.answers fact → from.objects Kind.Pack fact.place.pack ≡ Some pack → range pack fact.place.offset fact.place.length ≡ Some x → IsSpoken (λ y. ⊥) from (IsSent [] None) x
      part fact pack x gives there stands = inr (inl (record {
        index = gives.text;
        fact = fact;
        pack = pack;
        listed = inl (gives.index, (are clean.answers clean.received Kind.Index gives.index gives.text).1 gives.came.among);
        says = gives.says;
        there = inl (fact.place.pack, there);
        named = pack_named fact.place.pack pack there;
        stands = stands;
      }))

      is_spoken : (x : List ℕ) → laws.IsSpoken clean.answers x → IsSpoken (λ y. ⊥) from (IsSent [] None) x
      is_spoken x (of_object k n among) = inl (k, inl (n, (are clean.answers clean.received k n x).1 among))
      is_spoken x (of_pack fact pack gives among stands) = part fact pack x gives ((are clean.answers clean.received Kind.Pack fact.place.pack pack).1 among) stands
      is_spoken x (of_tree n among) =
          let t = clean.received.trees.so_far.each (record { name = n; bytes = Some x }) among in
          let place : Place = t.1.0 in
          let found = shares.ranged place.pack place.offset place.length x t.1.2 in
          part (fact_of Tree n place) found.0 x t.1.1.given (first Kind.Pack place.pack found.0 found.1) found.2

      pub no_clash : AreStoredApart from → HasNoClash clean.answers
      no_clash apart x y a b name = apart x y (is_spoken x a) (is_spoken y b) name

      clean_sound : AreStoredApart from → IsSound from.objects
      clean_sound apart = well_is_sound clean.answers from.objects clean.well (are clean.answers clean.received) (no_clash apart)

  -- what follows where a check is clean follows also where it gave back its lock after that
  pub clean_before : (P : Type 0) (snapshots indexes packs blobs : ℕ)
      → ((talk : Talk) (to : Store) → Keeps (trace_of talk) → Led from talk to → IsClean (trace_of talk) snapshots indexes packs blobs → P)
      → (talk : Talk) (to : Store) → Keeps (trace_of talk) → Led from talk to → IsClean (before_unlock (trace_of talk)) snapshots indexes packs blobs → P
  clean_before P snapshots indexes packs blobs by [] to o h clean = by [] to o h clean
  clean_before P snapshots indexes packs blobs by (turn ∷ talk) to o h clean = ⊎_elim
      (λ whole. by (turn ∷ talk) to o h whole)
      (λ older. by talk h.0 o.3 h.1 older)
      (either (λ es. IsClean es snapshots indexes packs blobs) turn.request.ask (trace_of (turn ∷ talk)) (trace_of talk) clean)

pub clean_is_of_sound : CleanIsOfSound
clean_is_of_sound who from to failed failing talk next snapshots indexes packs blobs apart ran is =
    clean_before who from (IsSound from.objects) snapshots indexes packs blobs (λ those end o h clean. clean_sound who from those end o h snapshots indexes packs blobs clean apart)
    talk to is.obeys (led from talk to ran.run) (is.concluded (Outcome.Clean snapshots indexes packs blobs) refl).0

-- ---- how a check ends

module _ (who : Asker) (from : Store) (sound : IsSound from.objects) (apart : AreHeldApart from.objects) where
  -- a sound store has no fault to be told
  faultless : (talk : Talk) (to : Store) → Obeys (check_task who) CheckAllows CheckGives (trace_of talk) → Led from talk to → (faults : List CheckFault) → IsAtFault (trace_of talk) faults → ⊥
  faultless talk to o h faults f = f.some (by faults (λ fault c. no_fault f.answers from.objects sound apart (are who from talk to o h f.answers f.received) (given who from talk to o h f.answers f.received) (ranged who from talk to o h f.answers f.received) fault ((f.are.each fault).0 c)))
    where
      by : (faults : List CheckFault) → ((fault : CheckFault) → Contains faults fault → ⊥) → faults ≡ []
      by [] none = refl
      by (fault ∷ faults) none = absurd (none fault (first_contained fault faults))

  own_well : (talk : Talk) (to : Store) → Obeys (check_task who) CheckAllows CheckGives (trace_of talk) → Led from talk to → (outcome : Outcome) → CheckConcludes (trace_of talk) outcome → IsCleanOrMemory (Some outcome)
  own_well talk to o h (Outcome.Clean snapshots indexes packs blobs) own = tt
  own_well talk to o h (Outcome.Faults faults) own = absurd (faultless talk to o h faults own)
  own_well talk to o h (Outcome.Stored name blobs bytes) own = absurd own
  own_well talk to o h (Outcome.Complete entries) own = absurd own
  own_well talk to o h (Outcome.Listed rows) own = absurd own
  own_well talk to o h (Outcome.Forgotten names) own = absurd own
  own_well talk to o h (Outcome.Pruned packs bytes) own = absurd own
  own_well talk to o h Outcome.Upgraded own = absurd own
  own_well talk to o h (Outcome.Ended end) own = absurd own

  own_before : (talk : Talk) (to : Store) → Obeys (check_task who) CheckAllows CheckGives (trace_of talk) → Led from talk to → (outcome : Outcome) → CheckConcludes (before_unlock (trace_of talk)) outcome → IsCleanOrMemory (Some outcome)
  own_before [] to o h outcome own = own_well [] to o h outcome own
  own_before (turn ∷ talk) to o h outcome own =
      ⊎_elim (λ now. own_well (turn ∷ talk) to o h outcome now) (λ before. own_well talk h.0 o.3 h.1 outcome before)
      (either (λ es. CheckConcludes es outcome) turn.request.ask (trace_of (turn ∷ talk)) (trace_of talk) own)

check_well : (es : Trace) (outcome : Option Outcome) → ((o : Outcome) → CheckConcludes (before_unlock es) o → IsCleanOrMemory (Some o)) → EndsWell CheckConcludes es outcome → IsCleanOrMemory outcome
check_well es None own h = h
check_well es (Some outcome) own h = ⊎_elim (λ (q : outcome ≡ Outcome.Ended (End.Refused Code.NoMemory)). subst (λ x. IsCleanOrMemory (Some x)) (sym q) refl) (own outcome) h

pub check_ends : CheckEndsWell
check_ends who from to failed talk outcome fit versions apart low ran few is =
    let h = led from talk to ran.run in
    let agree = held_agree from (IsSent [] None) (λ x. ⊥) apart from.objects (λ k n x p. inl (n, p)) fit.sound.named in
    check_well (trace_of talk) outcome (own_before who from fit.sound agree talk to is.obeys h)
    (ends_well (check_task who) CheckAllows CheckGives CheckConcludes (reads_first (check_task who) CheckAllows CheckGives (λ es t k n x. x.0)) from fit tt versions (puts_none (check_task who) CheckAllows (λ es t n x h. h.0)) (suits_either CheckAllows from (λ es t k n x. x.0)) talk to outcome is h
    (sound_throughout (check_task who) CheckAllows CheckGives check_never from talk fit.sound is.obeys) (calm_of failed talk low ran.cause) few)
