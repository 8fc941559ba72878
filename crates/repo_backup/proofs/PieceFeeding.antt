-- What is known once an item was taken.
use Rattle.std.proofs.Common.{arith, ◌≡◌, ◌≢◌, ◌<◌, ◌≤◌, ◌++◌, ◌∷◌, [], ℕ, true, false, List, length, Option, Some, None, is_some, refl, sym, ap, subst, inl, inr, ◌⊎◌, ◌∙◌, length-append, Contains}
use Rattle.repo_index.specs.IndexText.{facts_in}
use Rattle.repo_index.specs.declared.facts.Fact.{Fact}
use Rattle.repo_index.specs.declared.facts.PackFacts.{PackFacts}
use Rattle.repo_name.specs.Limits.{blob_limit, facts_limit}
use Rattle.repo_name.specs.declared.kinds.BlobKind.TheVariants.{Tree}
use Rattle.repo_pack.specs.PackLayout.{item_of}
use Rattle.repo_pack.specs.PackLayout as layout
use Rattle.repo_pack.specs.PackWriting.{IsOpen}
use Rattle.repo_session.specs.Feeds.{Fed, fed_end}
use Rattle.repo_session.specs.Order.{Task, opened, IsWorking}
use Rattle.repo_session.specs.Traces.{Trace, fed_in, feeding}
use Rattle.repo_name.specs.declared.tokens.Token.{Token}
use Rattle.repo_writing.specs.Writing.{Put, items_of}
use Rattle.repo_backup.specs.Backing.{HasWritten}
use Rattle.repo_backup.specs.Items.{Feeding, FileSoFar, Place, after, closed, place_of, MayTake, NobodyGaveUp, AreTaken, ItemFault, fed_part, fed_of}
use Rattle.repo_backup.specs.Packings.{IsSealedBy, IsListed, IsLeftOpen, AimsOn}
use Rattle.repo_writing.specs.Filling.{HasConfig, IsPromptPack, IsFullPack}
use Rattle.repo_backup.specs.PieceRules.{IsStandingOf}
use Rattle.repo_backup.specs.PieceStates.{waits, listed_of, StandsAt, PieceAt, PieceWaits, IsPieceDue, IsPieceDone, IsPieceLarge}
use Rattle.repo_backup.specs.Pieces.{HasRoom, PieceStands, WorkStands, IsReady, IsSealedAs, Goes, EndsTooLarge, Refuses, Stays, sealing_at}
use Rattle.repo_backup.specs.Standings.{Standing, IsCutSoFar, place_at, made_at}
use Rattle.repo_backup.specs.declared.items.FeedError.{FeedError}
use Rattle.repo_backup.specs.declared.items.Item.{Item}
use Rattle.repo_backup.specs.declared.packing.Packing.{Packing}
use Rattle.repo_backup.specs.declared.packing.Sealing.{Sealing}
use Rattle.repo_backup.specs.declared.piece_backing.PieceBacking.{PieceBacking}
use Rattle.repo_backup.proofs.Closing.{none_there}
use Rattle.repo_backup.proofs.FedOn.{fed_items, fed_written}
use Rattle.repo_backup.proofs.PieceRuling.{config_on, standing_after, standing_fed}
use Rattle.repo_backup.proofs.Piecing.{plain, packing_in, cut_in, none_sealed}
use Rattle.repo_tree.specs.declared.configs.Config.{Config}
use Rattle.repo_backup.specs.declared.piece_works.PieceWork.{PieceWork}

-- a session that works has asked for something
pub works_on : (task : Task) (token : Token) (es : Trace) → IsWorking task token es → es ≢ []
works_on task token es w none = absurd (omega (arith, ap length (sym none ∙ w.1.since), length-append w.1.later (opened task token w.1.text)))

-- ---- what kind of item it is

-- it is neither the end of all nor a giving up
abbrev pub IsPlain : Item → Type 0
IsPlain Item.End = ⊥
IsPlain Item.Abandon = ⊥
IsPlain item = Unit {0}

pub plain_item : (item : Item) → (item ≡ Item.End → ⊥) → (item ≡ Item.Abandon → ⊥) → IsPlain item
plain_item (Item.Dir name) e a = tt
plain_item (Item.File name) e a = tt
plain_item (Item.Bytes piece) e a = tt
plain_item Item.Close e a = tt
plain_item Item.End e a = absurd (e refl)
plain_item Item.Abandon e a = absurd (a refl)

pub plain_sealing : (item : Item) → IsPlain item → sealing_at item ≡ Sealing.Due
plain_sealing (Item.Dir name) p = refl
plain_sealing (Item.File name) p = refl
plain_sealing (Item.Bytes piece) p = refl
plain_sealing Item.Close p = refl
plain_sealing Item.End p = absurd p
plain_sealing Item.Abandon p = absurd p

-- which of them it is
pub sort_of : (item : Item) → IsPlain item ⊎ ((item ≡ Item.End) ⊎ (item ≡ Item.Abandon))
sort_of (Item.Dir name) = inl tt
sort_of (Item.File name) = inl tt
sort_of (Item.Bytes piece) = inl tt
sort_of Item.Close = inl tt
sort_of Item.End = inr (inl refl)
sort_of Item.Abandon = inr (inr refl)

-- the open pack takes more; and where no more blob comes, it is empty
pub left_open : (sealing : Sealing) (listed : Option PackFacts) (p : Packing) → IsLeftOpen sealing listed p → IsOpen p.packer.writer
left_open Sealing.Due listed p h = h
left_open Sealing.Last None p h = h.0
left_open Sealing.Last (Some x) p h = h.0

pub left_empty : (listed : Option PackFacts) (p : Packing) → IsLeftOpen Sealing.Last listed p → p.packer.writer.items ≡ []
left_empty None p h = h.1
left_empty (Some x) p h = h.1

-- nobody gave up by it
pub nobody_gave_up : (n : ℕ) (item : Item) (items : Feeding) → (item ≡ Item.Abandon → ⊥) → NobodyGaveUp (fed_part n item ∷ items)
nobody_gave_up n (Item.Dir name) items a = tt
nobody_gave_up n (Item.File name) items a = tt
nobody_gave_up n (Item.Bytes piece) items a = tt
nobody_gave_up n Item.Close items a = tt
nobody_gave_up n Item.End items a = tt
nobody_gave_up n Item.Abandon items a = absurd (a refl)

closed_over : (file : Option FileSoFar) (p : Place) → (closed file p).over ≡ p.over
closed_over None p = refl
closed_over (Some f) p = refl

-- where no more blob comes, they end by it
ends_by : (n : ℕ) (item : Item) (p : Place) → sealing_at item ≡ Sealing.Last → (after p (fed_part n item)).over ≡ true
ends_by n Item.End p e = refl
ends_by n (Item.Dir name) p e = absurd (cc)
ends_by n (Item.File name) p e = absurd (cc)
ends_by n (Item.Bytes piece) p e = absurd (cc)
ends_by n Item.Close p e = absurd (cc)
ends_by n Item.Abandon p e = absurd (cc)

-- a pack that was sealed where it was just due is full
pub full_by : (config : Config) (es : Trace) (sealed : List layout.Item) → HasConfig es config → IsSealedBy Sealing.Due config.target sealed → 1 ≤ length sealed → IsFullPack es sealed
full_by config es sealed has (inl none) many = absurd (omega (arith, ap length none, many))
full_by config es sealed has (inr full) many = (config, has, full.0)

-- one that was sealed so was open before its last blob
pub prompt_by : (sealing : Sealing) (config : Config) (es : Trace) (sealed : List layout.Item) → HasConfig es config → IsSealedBy sealing config.target sealed → 1 ≤ length sealed → IsPromptPack es sealed
prompt_by Sealing.Due config es sealed has (inl none) many = absurd (omega (arith, ap length none, many))
prompt_by Sealing.Due config es sealed has (inr full) many = (config, has, full.1)
prompt_by Sealing.Last config es sealed has (inl none) many = absurd (omega (arith, ap length none, many))
prompt_by Sealing.Last config es sealed has (inr before) many = (config, has, before)

-- where the items haven't ended, the root is open
pub open_root : (w : PieceWork) (facts : List Fact) (st : Standing) (sent sealed : List layout.Item) → WorkStands w facts st sent sealed → st.over ≡ false → w.walk.root ≡ None
open_root w facts st sent sealed (inl h) e = none_there w.walk.root (h.1.at.over ∙ e)
open_root w facts st sent sealed (inr h) e = none_there w.walk.root h.at.over

-- they don't end by it
plain_over : (n : ℕ) (item : Item) (p : Place) → IsPlain item → (after p (fed_part n item)).over ≡ p.over
plain_over n (Item.Dir name) p h = refl
plain_over n (Item.File name) p h = refl
plain_over n (Item.Bytes piece) p h = refl
plain_over n Item.Close p h = closed_over p.file p
plain_over n Item.End p h = absurd h
plain_over n Item.Abandon p h = absurd h

-- ---- the item was taken

module _ (facts : List Fact) (b c : PieceBacking) (puts next : List Put) (items : Feeding) (es : Trace) (h : StandsAt facts b puts next [] items es) (ready : IsReady b.work) where
  -- it stands there
  pub stands_plain : PieceStands b.work facts h.st (items_of (puts ++ next)) []
  stands_plain = plain b.work facts h.st (items_of (puts ++ next)) [] ready.unlaid h.stands

  -- where it stood the items hadn't ended
  not_over : (place_of items).over ≡ false
  not_over = sym (stands_plain.at.over ∙ ap (λ (p : Place). p.over) h.at.lead.place) ∙ ap is_some ready.unended

  -- the items with this one may be taken
  pub taken_more : (fed : Fed) → MayTake (place_at h.st) fed → AreTaken (fed ∷ items)
  taken_more fed may = (not_over, h.kept, subst (λ p. MayTake p fed) h.at.lead.place may, h.taken)

  -- a directory's tree text is too large
  pub large_at : (fed : Fed) → EndsTooLarge facts fed b.work → AreTaken (fed ∷ items) × ((now : Standing) × (text : List ℕ) × IsStandingOf (fed ∷ items) es h.config now × Contains (made_at h.config.version now) (item_of Tree text) × (blob_limit < length text))
  large_at fed large =
      let k = large h.st (items_of (puts ++ next)) stands_plain in
      (taken_more fed k.0, (k.1, k.2, standing_after fed items es h.config h.st k.1 h.at k.3 (subst (λ q. IsCutSoFar q k.1) h.goes_by.params k.4), subst (λ n. Contains (made_at n k.1) (item_of Tree k.2)) h.goes_by.version k.5, k.6))

  module _ (waiting : c.waiting ≡ b.waiting) (listed_is : c.listed ≡ b.listed) (counts : c.counts ≡ b.counts) (n : ℕ) (item : Item) (other : item ≡ Item.Abandon → ⊥) (goes : Goes facts (sealing_at item) (fed_part n item) b.work c.work)
      (params : c.work.walk.params ≡ b.work.walk.params) (version : c.work.walk.version ≡ b.work.walk.version) (aims : AimsOn b.work.packing c.work.packing) (listed : Option PackFacts) (left : IsLeftOpen (sealing_at item) listed c.work.packing) (room : HasRoom c.work.walk.file c.work.packing) where
    abbrev pub part : Fed
    part = fed_part n item

    abbrev pub step : MayTake (place_at h.st) part × (now : Standing) × (sealed : List layout.Item) × (place_at now ≡ after (place_at h.st) part) × WorkStands c.work facts now (items_of (puts ++ next)) sealed
        × IsSealedAs (sealing_at item) b.work.packing.packer.writer.target sealed c.work
    step = goes h.st (items_of (puts ++ next)) stands_plain

    -- a plain item doesn't end them
    pub plain_open : IsPlain item → c.work.walk.root ≡ None
    plain_open is_plain =
        let k = step in
        open_root c.work facts k.1 (items_of (puts ++ next)) k.2 k.4 (ap (λ (p : Place). p.over) k.3 ∙ plain_over n item (place_at h.st) is_plain ∙ ap (λ (p : Place). p.over) h.at.lead.place ∙ not_over)

    -- where they ended, the open pack is empty
    empty_at_end : c.work.walk.root ≢ None → c.work.packing.packer.writer.items ≡ []
    empty_at_end some = elim (sort_of item) [
      | inl plain ↦ absurd (some (plain_open plain))
      | inr which ↦ elim which [
        | inl end ↦ left_empty listed c.work.packing (subst (λ x. IsLeftOpen (sealing_at x) listed c.work.packing) end left)
        | inr up ↦ absurd (other up)
      ]
    ]

    -- the work stands one item further
    pub stands_further : StandsAt facts c puts next step.2 (part ∷ items) es
    stands_further =
        let k = step in
        let by : c.work.walk.params ≡ h.config.params = params ∙ h.goes_by.params in
        let all : waits b ≡ waits c = λ i. sym waiting i ++ listed_of (sym listed_is i) in
        record {
          config = h.config;
          st = k.1;
          at = standing_after part items es h.config h.st k.1 h.at k.3 (subst (λ q. IsCutSoFar q k.1) by (cut_in c.work facts k.1 (items_of (puts ++ next)) k.2 k.4));
          taken = taken_more part k.0;
          kept = nobody_gave_up n item items other;
          goes_by = record { params = by; version = version ∙ h.goes_by.version; aim = ap (λ t. t.bytes) aims.0 ∙ h.goes_by.aim; aims = aims.1 (h.goes_by.aims ∙ sym h.goes_by.aim) ∙ ap (λ t. t.bytes) aims.0 ∙ h.goes_by.aim };
          stands = k.4;
          opened = room;
          ended = empty_at_end;
          written = subst (λ ws. HasWritten facts ws c.counts puts next es) all (subst (λ m. HasWritten facts (waits b) m puts next es) (sym counts) h.written);
        }

    -- and no pack is sealed
    pub stands_unsealed : c.work.packing.packer.sealed ≡ None → StandsAt facts c puts next [] (part ∷ items) es
    unfolding stands_further
    stands_unsealed unsealed = subst (λ l. StandsAt facts c puts next l (part ∷ items) es) (none_sealed c.work.packing.packer.sealed step.2 unsealed (packing_in c.work facts step.1 (items_of (puts ++ next)) step.2 step.4).sealed_is) stands_further

    -- a pack that is sealed was open before its last blob
    pub sealed_prompt : (so : PackFacts) → IsListed (Some so) c.work.packing → IsPromptPack es step.2
    sealed_prompt so lists =
        let k = step in
        let many = (lists k.2 (packing_in c.work facts k.1 (items_of (puts ++ next)) k.2 k.4).sealed_is).1.holds.holds.pack.count.0 in
        elim k.5 [
          | inl due ↦ prompt_by Sealing.Due h.config es k.2 h.at.has (subst (λ (t : ℕ). IsSealedBy Sealing.Due t k.2) h.goes_by.aims due) many
          | inr last ↦ prompt_by Sealing.Last h.config es k.2 h.at.has (subst (λ (t : ℕ). IsSealedBy Sealing.Last t k.2) h.goes_by.aims last.2) many
        ]

    -- and is full, or the items ended, and no part is left
    pub sealed_full : (so : PackFacts) → IsListed (Some so) c.work.packing → IsFullPack es step.2 ⊎ (((place_of (part ∷ items)).over ≡ true) × (c.work.parts ≡ None))
    sealed_full so lists =
        let k = step in
        let many = (lists k.2 (packing_in c.work facts k.1 (items_of (puts ++ next)) k.2 k.4).sealed_is).1.holds.holds.pack.count.0 in
        elim k.5 [ inl due ↦ inl (full_by h.config es k.2 h.at.has (subst (λ (t : ℕ). IsSealedBy Sealing.Due t k.2) h.goes_by.aims due) many) | inr last ↦ inr (ends_by n item (place_of items) last.0, last.1) ]

-- ---- it wasn't

-- the work stands where it stood
pub stands_still : (facts : List Fact) (b c : PieceBacking) (puts next : List Put) (items : Feeding) (es : Trace) → StandsAt facts b puts next [] items es → c.waiting ≡ b.waiting → c.listed ≡ b.listed → c.counts ≡ b.counts
    → Stays facts b.work c.work → IsReady b.work → IsReady c.work → c.work.walk.params ≡ b.work.walk.params → c.work.walk.version ≡ b.work.walk.version → AimsOn b.work.packing c.work.packing → StandsAt facts c puts next [] items es
stands_still facts b c puts next items es h waiting listed_is counts stays was ready params version aims =
    let all : waits b ≡ waits c = λ i. sym waiting i ++ listed_of (sym listed_is i) in
    record {
      config = h.config;
      st = h.st;
      at = h.at;
      taken = h.taken;
      kept = h.kept;
      goes_by = record { params = params ∙ h.goes_by.params; version = version ∙ h.goes_by.version; aim = ap (λ t. t.bytes) aims.0 ∙ h.goes_by.aim; aims = aims.1 (h.goes_by.aims ∙ sym h.goes_by.aim) ∙ ap (λ t. t.bytes) aims.0 ∙ h.goes_by.aim };
      stands = inl (ready.unlaid, stays h.st (items_of (puts ++ next)) (plain b.work facts h.st (items_of (puts ++ next)) [] was.unlaid h.stands));
      opened = ready.opened;
      ended = λ some. absurd (some ready.unended);
      written = subst (λ ws. HasWritten facts ws c.counts puts next es) all (subst (λ m. HasWritten facts (waits b) m puts next es) (sym counts) h.written);
    }

-- ---- a backup that is fed

-- with the item in its place
fed_there : (facts : List Fact) (c : PieceBacking) (puts next : List Put) (sealed : List layout.Item) (fed : Fed) (es : Trace) → es ≢ [] → StandsAt facts c puts next sealed (fed ∷ fed_in es) es → PieceAt facts c puts next sealed (feeding fed es)
fed_there facts c puts next sealed fed es some h =
    let same = sym (fed_items fed es some) in
    record {
      config = h.config;
      st = h.st;
      at = standing_fed fed es h.config h.st some h.at;
      taken = subst AreTaken same h.taken;
      kept = subst NobodyGaveUp same h.kept;
      goes_by = h.goes_by;
      stands = h.stands;
      opened = h.opened;
      ended = h.ended;
      written = fed_written fed es facts (waits c) c.counts puts next h.written;
    }

module _ (facts : List Fact) (b c : PieceBacking) (es : Trace) (h : PieceWaits facts b es) (some : es ≢ []) (waiting : c.waiting ≡ b.waiting) (listed_is : c.listed ≡ b.listed) (counts : c.counts ≡ b.counts) where
  -- the items with it may be taken
  pub one_taken : (fed : Fed) → MayTake (place_at h.at.st) fed → AreTaken (fed ∷ fed_in es)
  one_taken fed may = taken_more facts b c h.puts [] (fed_in es) es h.at h.ready fed may

  module _ (n : ℕ) (item : Item) (other : item ≡ Item.Abandon → ⊥) (goes : Goes facts (sealing_at item) (fed_part n item) b.work c.work) (params : c.work.walk.params ≡ b.work.walk.params) (version : c.work.walk.version ≡ b.work.walk.version) (aims : AimsOn b.work.packing c.work.packing)
      (listed : Option PackFacts) (left : IsLeftOpen (sealing_at item) listed c.work.packing) (room : HasRoom c.work.walk.file c.work.packing) where
    fed_plainly : c.work.packing.packer.sealed ≡ None → PieceAt facts c h.puts [] [] (feeding (fed_part n item) es)
    fed_plainly unsealed = fed_there facts c h.puts [] [] (fed_part n item) es some (stands_unsealed facts b c h.puts [] (fed_in es) es h.at h.ready waiting listed_is counts n item other goes params version aims listed left room unsealed)

    -- input is wanted
    pub fed_waits : IsPlain item → c.work.packing.packer.sealed ≡ None → c.work.parts ≡ None → PieceWaits facts c (feeding (fed_part n item) es)
    fed_waits is_plain unsealed unlaid = record {
      puts = h.puts;
      at = fed_plainly unsealed;
      ready = record { unsealed = unsealed; unlaid = unlaid; opened = room; unended = plain_open facts b c h.puts [] (fed_in es) es h.at h.ready waiting listed_is counts n item other goes params version aims listed left room is_plain };
      listed = listed_is ∙ h.listed;
      room = subst (λ (ws : List PackFacts). length (facts_in ws) < facts_limit) (sym waiting) h.room;
    }

    -- all ended, and no pack is sealed
    pub fed_done : c.work.packing.packer.sealed ≡ None → c.work.parts ≡ None → IsPieceDone facts c (feeding (fed_part n item) es)
    fed_done unsealed unlaid =
        let n : length (facts_in c.waiting) ≡ length (facts_in b.waiting) = ap (λ ws. length (facts_in ws)) waiting in
        let room = h.room in
        record { idle = record { puts = h.puts; at = fed_plainly unsealed; unsealed = unsealed; listed = listed_is ∙ h.listed; few = omega (arith, n, room) }; unlaid = unlaid }

    -- a pack is sealed
    pub fed_due : (so : PackFacts) → IsListed (Some so) c.work.packing → IsPieceDue facts c so (feeding (fed_part n item) es)
    fed_due so lists =
        let fed = fed_part n item in
        let k = goes h.at.st (items_of (h.puts ++ [])) (stands_plain facts b c h.puts [] (fed_in es) es h.at h.ready) in
        let on = stands_further facts b c h.puts [] (fed_in es) es h.at h.ready waiting listed_is counts n item other goes params version aims listed left room in
        let full = sealed_full facts b c h.puts [] (fed_in es) es h.at h.ready waiting listed_is counts n item other goes params version aims listed left room so lists in
        let prompt = sealed_prompt facts b c h.puts [] (fed_in es) es h.at h.ready waiting listed_is counts n item other goes params version aims listed left room so lists in
        record {
          puts = h.puts;
          sealed = k.2;
          at = fed_there facts c h.puts [] k.2 fed es some on;
          none = listed_is ∙ h.listed;
          lists = lists;
          prompt = (prompt.0, config_on fed es prompt.0 prompt.1, prompt.2);
          full = elim full [ inl due ↦ inl (due.0, config_on fed es due.0 due.1, due.2) | inr over ↦ inr (ap (λ l. (place_of l).over) (fed_items fed es some) ∙ over.0, over.1) ];
          room = subst (λ (ws : List PackFacts). length (facts_in ws) < facts_limit) (sym waiting) h.room;
        }

  -- a directory's tree text is too large
  pub fed_large : (fed : Fed) → EndsTooLarge facts fed b.work → c.work.walk.version ≡ b.work.walk.version → IsPieceLarge facts c (feeding fed es)
  fed_large fed large version =
      let k = large_at facts b c h.puts [] (fed_in es) es h.at h.ready fed large in
      record {
        config = h.at.config;
        st = k.1.0;
        at = standing_fed fed es h.at.config k.1.0 some k.1.2;
        taken = subst AreTaken (sym (fed_items fed es some)) k.0;
        version_is = version ∙ h.at.goes_by.version;
        text = k.1.1;
        made = k.1.3;
        large = k.1.4;
      }

-- ---- it was refused

module _ (facts : List Fact) (b c : PieceBacking) (es : Trace) (h : PieceWaits facts b es) where
  pub fed_fault : (fed : Fed) (e : FeedError) → Refuses facts fed b.work e → ItemFault (place_of (fed_in es)) fed e
  fed_fault fed e refuses = subst (λ p. ItemFault p fed e) h.at.at.lead.place (refuses h.at.st (items_of (h.puts ++ [])) (stands_plain facts b c h.puts [] (fed_in es) es h.at h.ready))

  -- input is wanted as before
  pub fed_still : c.waiting ≡ b.waiting → c.listed ≡ b.listed → c.counts ≡ b.counts → Stays facts b.work c.work → IsReady c.work → c.work.walk.params ≡ b.work.walk.params → c.work.walk.version ≡ b.work.walk.version → AimsOn b.work.packing c.work.packing → PieceWaits facts c es
  fed_still waiting listed_is counts stays ready params version aims = record {
    puts = h.puts;
    at = stands_still facts b c h.puts [] (fed_in es) es h.at waiting listed_is counts stays h.ready ready params version aims;
    ready = ready;
    listed = listed_is ∙ h.listed;
    room = subst (λ (ws : List PackFacts). length (facts_in ws) < facts_limit) (sym waiting) h.room;
  }

-- ---- the end of all

-- it is the end, whatever count is told
pub ended_once : (n m : ℕ) (item : Item) → item ≡ Item.End → fed_part n item ≡ fed_part m item
ended_once n m item is = ap (fed_part n) is ∙ ap (fed_part m) (sym is)

-- want of memory is told of it where it may come
pub end_memory : (p : Place) (item : Item) (e : FeedError) → item ≡ Item.End → e ≡ FeedError.Memory → MayTake p (fed_part 0 item) → ItemFault p (fed_of item) e
end_memory p item e is told may = subst (λ x. ItemFault p (fed_of x) e) (sym is) (subst (λ x. ItemFault p fed_end x) (sym told) (subst (λ x. MayTake p (fed_part 0 x)) is may))
