-- A backup that is fed the items of known entries goes by the rule of a backup of these entries.
use Rattle.std.proofs.Common.{◌≡◌, ◌⊎◌, ◌++◌, ◌∷◌, [], ℕ, true, List, Some, refl, sym, ap, subst, inl, inr, append-nil, ◌∙◌, Contains}
use Rattle.std.proofs.lemmas.List.Elements.{Contains-append_left, Contains-append_right, Contains-push_cases}
use Rattle.repo_name.proofs.Containing.{none_contained, first_contained, later_contained}
use Rattle.repo_name.specs.declared.kinds.BlobKind.TheVariants.{Tree}
use Rattle.repo_name.specs.declared.kinds.Kind.{Kind}
use Rattle.repo_pack.specs.PackLayout.{Item, item_of}
use Rattle.repo_tree.specs.declared.configs.Config.{Config}
use Rattle.repo_tree.specs.declared.entries.Entry.{Entry}
use Rattle.repo_wire.specs.declared.messages.Ask.{Ask}
use Rattle.repo_wire.specs.declared.messages.Say.{Say}
use Rattle.repo_session.specs.Askers.{Asker}
use Rattle.repo_session.specs.Feeds.{Fed, fed_bytes, fed_abandon}
use Rattle.repo_session.specs.Traces.{Trace, fed_in}
use Rattle.repo_session.specs.declared.emissions.Emission.{Emission}
use Rattle.repo_session.specs.declared.outcomes.End.{End}
use Rattle.repo_session.specs.declared.outcomes.Outcome.{Outcome}
use Rattle.repo_writing.specs.Filling.{IsFullPack, IsFullIndex}
use Rattle.repo_backup.specs.Folders.{blobs_of}
use Rattle.repo_backup.specs.Items.{Feeding, Place, NobodyGaveUp, AreTaken, place_of}
use Rattle.repo_backup.specs.PieceRules.{PieceAreLast, PiecePackRule, PieceAllows, PieceTooLarge, WasGivenUp, PieceConcludes}
use Rattle.repo_backup.specs.Plans.{fed_on, LeadThrough}
use Rattle.repo_backup.specs.Rules.{AddsBlob, AddsBlobs, IsInOrder, AreLast, PackRule, SnapshotRule, BackupAllows, IsTooLarge, BackupConcludes}
use Rattle.repo_backup.specs.Standings.{made_at}
use Rattle.repo_backup.proofs.BackupRuling.{made_so, made_through, among_blobs, ended_spell}
use Rattle.repo_backup.proofs.Orders.{order_later}
use Rattle.repo_backup.proofs.PieceRuling.{ended_by, made_whole}
use Rattle.repo_backup.proofs.StepFeeding.{lead_on, lead_split, same_on}
use Rattle.repo_feeding.specs.FedRules.{AreWelcomeOn, AreWelcome, IsFedSo}
use Rattle.repo_feeding.specs.Sources.{rest_then, ComesFirst, ComeFirst, leads}
use Rattle.repo_feeding.specs.Unfed.{unfed}
use Rattle.repo_feeding.proofs.Unnoticed.{allows_so, concludes_so}

-- ---- where the items lead

-- items that were welcome were taken
taken_on : (items : List Fed) (ask : Ask) (say : Say) (emitted : List Emission) (es : Trace) → AreWelcomeOn items ask say emitted es → AreTaken (fed_in es) → AreTaken (items ++ fed_in es)
taken_on [] ask say emitted es welcome taken = taken
taken_on (item ∷ items) ask say emitted es (goes_on, wants, may, before) taken = (wants.goes_on, wants.kept, may, wants.taken)

welcome_taken : (es : Trace) → AreWelcome es → AreTaken (fed_in es)
welcome_taken [] welcome = tt
welcome_taken (e ∷ es) welcome = taken_on e.fed e.ask e.say e.emitted es welcome.0 (welcome_taken es welcome.1)

leads_fed : (before items : List Fed) → place_of (fed_on before items) ≡ leads (place_of items) before
leads_fed [] items = refl
leads_fed (item ∷ before) items = leads_fed before (item ∷ items)

module _ (entries : List Entry) where
  -- behind a part of a piece of bytes its rest leads on
  rest_on : (part rest : List ℕ) (later : List Fed) (items : Feeding) → LeadThrough entries (fed_bytes (part ++ rest) ∷ later) items → LeadThrough entries (rest_then rest later) (fed_bytes part ∷ items)
  rest_on part [] later items h = lead_on entries (fed_bytes part) later items (subst (λ bytes. LeadThrough entries (fed_bytes bytes ∷ later) items) (append-nil part) h)
  rest_on part (b ∷ rest) later items h = lead_split entries part (b ∷ rest) (part ++ b ∷ rest) later items refl h

  -- behind an item that comes first the others do
  first_on : (item : Fed) (coming then : List Fed) (items : Feeding) → ComesFirst item coming then → LeadThrough entries coming items → LeadThrough entries then (item ∷ items)
  first_on (fed_bytes part) coming then items (rest, later, is, left) h =
      subst (λ l. LeadThrough entries l (fed_bytes part ∷ items)) (sym left) (rest_on part rest later items (subst (λ l. LeadThrough entries l items) is h))
  first_on item coming then items is h = lead_on entries item then items (subst (λ l. LeadThrough entries l items) is h)

  come_on : (before coming then : List Fed) (items : Feeding) → ComeFirst before coming then → LeadThrough entries coming items → LeadThrough entries then (fed_on before items)
  come_on [] coming then items is h = subst (λ l. LeadThrough entries l items) is h
  come_on (item ∷ before) coming then items (mid, first, more) h = come_on before mid then (item ∷ items) more (first_on item coming mid items first h)

  -- and so they do behind others that lead to the same place
  same_place_on : (left : List Fed) (xs ys : Feeding) → place_of xs ≡ place_of ys → AreTaken ys → NobodyGaveUp ys → LeadThrough entries left xs → LeadThrough entries left ys
  same_place_on left xs ys same taken kept h =
      let on = same_on left xs ys same taken (λ before. kept) h.taken in
      record { taken = on.1; spells = ap (λ (p : Place). p.entries) (sym on.0) ∙ h.spells; ends = ap (λ (p : Place). p.over) (sym on.0) ∙ h.ends }

  -- with what is still to come, the items so far lead through the entries
  fed_through : (who : Asker) (whole : List Fed) (es fs : Trace) → LeadThrough entries whole [] → IsFedSo who (Some whole) es fs → NobodyGaveUp (fed_in fs) → (coming : List Fed) × LeadThrough entries coming (fed_in fs)
  fed_through who whole es fs leads so kept =
      let way = so.so_far kept in
      let coming = way.0 in
      let before = way.1.0 in
      (coming, same_place_on coming (fed_on before []) (fed_in fs) (leads_fed before [] ∙ way.1.3) (welcome_taken fs so.welcome) kept (come_on before whole coming [] way.1.1 leads))

-- ---- what is made of them

-- blobs that are taken one after another are among those
module _ (es : Trace) (whole : List Item) where
  add_within : (old : List Item) (item : Item) (new : List Item) → ((x : Item) → Contains old x → Contains whole x) → Contains whole item → AddsBlob es old item new → (x : Item) → Contains new x → Contains whole x
  add_within old item new within here (inl (same, known)) x among = within x (subst (λ l. Contains l x) same among)
  add_within old item new within here (inr (more, unread, none)) x among = elim (Contains-push_cases old item x (subst (λ l. Contains l x) more among)) [
    | inl before ↦ within x before
    | inr is ↦ subst (λ y. Contains whole y) is here
  ]

  adds_within : (old items new : List Item) → ((x : Item) → Contains old x → Contains whole x) → ((x : Item) → Contains items x → Contains whole x) → AddsBlobs es old items new → (x : Item) → Contains new x → Contains whole x
  adds_within old [] new within there same x among = within x (subst (λ l. Contains l x) same among)
  adds_within old (item ∷ items) new within there (mid, one, more) x among =
      adds_within mid items new (add_within old item mid within (there item (first_contained item items)) one) (λ y behind. there y (later_contained item items y behind)) more x among

-- a pack that goes on in the order in which blobs were made is of these
order_made : (es : Trace) (made items : List Item) → IsInOrder es made items → (x : Item) → Contains items x → Contains made x
order_made es made items h x among =
    let all = Contains-append_left (h.before ++ items) h.more x (Contains-append_right h.before items x among) in
    let first = adds_within es h.first [] h.first ((h.before ++ items) ++ h.more) (λ y none. absurd (none_contained y none)) (λ y there. there) h.adds x all in
    subst (λ l. Contains l x) (sym h.begins) (Contains-append_left h.first h.later x first)

module _ (entries : List Entry) (left : List Fed) (fs : Trace) (taken : AreTaken (fed_in fs)) (leads : LeadThrough entries left (fed_in fs)) where
  -- where they ended, nothing more waits
  last_handed : (items : List Item) → PieceAreLast fs items → AreLast entries fs items
  last_handed items h =
      let m = made_whole (fed_in fs) fs h.config h.st h.at taken h.over in
      let t = made_so (ended_spell entries left (fed_in fs) leads h.over) m.0 in
      record {
        folder = h.st.done;
        cut = t.0;
        all = λ item among. h.all item (subst (λ l. Contains l item) (sym m.2) (subst (λ (c : Config). Contains (blobs_of c.version h.st.done) item) (t.1 ∙ m.1) among));
      }

  pack_last : (items : List Item) → IsFullPack fs items ⊎ PieceAreLast fs items → IsFullPack fs items ⊎ AreLast entries fs items
  pack_last items (inl full) = inl full
  pack_last items (inr last) = inr (last_handed items last)

  pack_handed : (x : List ℕ) → PiecePackRule fs x → PackRule entries fs x
  pack_handed x h =
      let config = h.order.0 in
      let st = h.order.1 in
      let t = made_through entries left (fed_in fs) fs config st leads h.order.2 in
      let made = made_at config.version st in
      let whole = blobs_of config.version t.0 in
      record {
        indexes = h.indexes;
        first = h.first;
        unlisted = h.unlisted;
        items = h.items;
        pack = h.pack;
        folder = t.0;
        cut = t.1;
        made = λ item among. subst (λ (c : Config). Contains (blobs_of c.version t.0) item) (sym t.2) (among_blobs made t.3 whole t.4 item (order_made fs made h.items h.order.3 item among));
        order = subst (λ (c : Config). IsInOrder fs (blobs_of c.version t.0) h.items) (sym t.2) (order_later fs made t.3 whole h.items t.4 h.order.3);
        once = h.once;
        unread = h.unread;
        unput = h.unput;
        prompt = h.prompt;
        full = pack_last h.items h.full;
      }

  index_last : (x : List ℕ) → IsFullIndex x ⊎ PieceAreLast fs [] → IsFullIndex x ⊎ AreLast entries fs []
  index_last x (inl full) = inl full
  index_last x (inr last) = inr (last_handed [] last)

  large_handed : (version : ℕ) → PieceTooLarge version fs → IsTooLarge version entries fs
  large_handed version h =
      let V = h.config.version in
      let t = made_through entries left (fed_in fs) fs h.config h.st leads h.at in
      let blob = item_of Tree h.text in
      record {
        folder = t.0;
        cut = t.1;
        of_version = ap (λ (c : Config). c.version) t.2 ∙ h.of_version;
        text = h.text;
        made = subst (λ (c : Config). Contains (blobs_of c.version t.0) blob) (sym t.2) (among_blobs (made_at V h.st) t.3 (blobs_of V t.0) t.4 blob h.made);
        large = h.large;
      }

-- ---- the rule

-- who ended didn't give up
end_kept : (items : Feeding) → AreTaken items → (place_of items).over ≡ true → NobodyGaveUp items
end_kept items taken over = let k = ended_by items taken over in subst NobodyGaveUp (sym k.1) tt

gone_not : (items : Feeding) → NobodyGaveUp items → WasGivenUp items → ⊥
gone_not [] kept gone = gone
gone_not (fed_abandon ∷ items) kept gone = kept
gone_not (item ∷ items) kept gone = gone

module _ (who : Asker) (entries : List Entry) (whole : List Fed) (leads : LeadThrough entries whole []) where
  seen_allows : (fs : Trace) (ask : Ask) → IsFedSo who (Some whole) (unfed fs) fs → PieceAllows fs ask → BackupAllows entries fs ask
  seen_allows fs (Ask.Put token Kind.Pack n x) so h =
      let on = fed_through entries who whole (unfed fs) fs leads so h.kept in
      pack_handed entries on.0 fs h.taken on.1 x h
  seen_allows fs (Ask.Put token Kind.Index n x) so (rule, kept, each, full) =
      let on = fed_through entries who whole (unfed fs) fs leads so kept in
      (rule, each, index_last entries on.0 fs (welcome_taken fs so.welcome) on.1 x full)
  seen_allows fs (Ask.Put token Kind.Snapshot n x) so (over, taken, rule) =
      let on = fed_through entries who whole (unfed fs) fs leads so (end_kept (fed_in fs) taken over) in
      subst (λ en. SnapshotRule en fs token x) (ended_spell entries on.0 (fed_in fs) on.1 over) rule
  seen_allows fs (Ask.Delete token k n) so h = h
  seen_allows fs (Ask.Upgrade token) so h = h
  seen_allows fs ask so h = h.0

  -- what a backup that is fed items of these entries may ask for, a backup of the entries may
  pub allows_handed : (fs : Trace) (ask : Ask) → IsFedSo who (Some whole) (unfed fs) fs → PieceAllows fs ask → BackupAllows entries (unfed fs) ask
  allows_handed fs ask so h = allows_so fs entries ask (seen_allows fs ask so h)

  seen_concludes : (fs : Trace) (outcome : Outcome) → IsFedSo who (Some whole) (unfed fs) fs → NobodyGaveUp (fed_in fs) → PieceConcludes fs outcome → BackupConcludes entries fs outcome
  seen_concludes fs (Outcome.Stored name blobs bytes) so kept h = h
  seen_concludes fs (Outcome.Ended End.DirectoryTooLarge) so kept h = let on = fed_through entries who whole (unfed fs) fs leads so kept in large_handed entries on.0 fs h.taken on.1 1 h
  seen_concludes fs (Outcome.Ended End.FileTooLarge) so kept h = let on = fed_through entries who whole (unfed fs) fs leads so kept in large_handed entries on.0 fs h.taken on.1 2 h
  seen_concludes fs (Outcome.Ended End.Abandoned) so kept h = absurd (gone_not (fed_in fs) kept h.1)
  seen_concludes fs outcome so kept h = absurd h

  -- and it may end as that, if nobody gave up
  pub concludes_handed : (fs : Trace) (outcome : Outcome) → IsFedSo who (Some whole) (unfed fs) fs → NobodyGaveUp (fed_in fs) → PieceConcludes fs outcome → BackupConcludes entries (unfed fs) outcome
  concludes_handed fs outcome so kept h = concludes_so fs entries outcome (seen_concludes fs outcome so kept h)
