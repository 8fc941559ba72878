-- What is known while a prune lists and reads.
use Rattle.std.proofs.Common.{◌≡◌, ◌≢◌, ◌∷◌, [], ℕ, Bool, true, false, cond, List, Option, refl, sym, ap, subst, inl, inr, ◌∙◌}
use Rattle.repo_name.specs.declared.kinds.Kind.{Kind}
use Rattle.repo_name.specs.declared.names.Name.{Name}
use Rattle.repo_name.specs.declared.tokens.Token.{Token}
use Rattle.repo_wire.specs.declared.messages.Ask.{Ask}
use Rattle.repo_wire.specs.declared.messages.Say.{Say}
use Rattle.repo_session.specs.declared.catalogs.Catalog.{Catalog}
use Rattle.repo_session.specs.declared.rolls.Roll.{Roll}
use Rattle.repo_session.specs.declared.jobs.Step.{Step}
use Rattle.repo_session.specs.Askers.{Asker}
use Rattle.repo_session.specs.Blobs.{HasCome}
use Rattle.repo_session.specs.Catalogs.{Catalogs, IsAll}
use Rattle.repo_session.specs.Ends.{AsksPart}
use Rattle.repo_session.specs.Jobs.{MayStep}
use Rattle.repo_session.specs.Listings.{IsSnapshotListing}
use Rattle.repo_session.specs.Order.{Task, opened, ReadsKind}
use Rattle.repo_session.specs.Readings.{KnowsIndexes, KnowsRoll}
use Rattle.repo_session.specs.Rolls.{IsPaged, IsRolled}
use Rattle.repo_session.specs.Traces.{Exchange, Trace, WasAsked, same_kind, page_names, is_last_page, object_got}
use Rattle.repo_session.proofs.Cataloguing.{are_indexed, catalog_on, rolled_on}
use Rattle.repo_session.proofs.Rolling.{same_self}
use Rattle.repo_session.proofs.Deleting.{ListsNone, listing_stays}
use Rattle.repo_prune.specs.Keeping.{Row}
use Rattle.repo_prune.specs.Pruning.{prune_rule, HasOnlyListed, IsReadInTurn, IsWanted, PruneAllows}
use Rattle.repo_prune.specs.PruneStates.{Known, AreAllListed, HasTarget, AreUnlisted, ReadsSnapshots, ReadsIndexes, ListsPacks, IsListingOf, KnowsPrune, KnowsStage, IsNextStep, KnowsAsMuch, HeedsFrom, StepsFrom, known_in}
use Rattle.repo_prune.specs.declared.prunes.Onward.{Onward}
use Rattle.repo_prune.specs.declared.prunes.Prune.{Prune}
use Rattle.repo_prune.specs.declared.prunes.Stage.{Stage}
use Rattle.repo_prune.proofs.Asides.{IsNoChange, only_listed, untouched_same, target_later}

-- ---- another kind

other_page : (j k : Kind) (ask : Ask) (say : Say) → same_kind j k ≡ false → IsListingOf j ask → page_names k ask say ≡ []
other_page j k Ask.Ticket say other h = absurd h
other_page j k (Ask.Lock row) say other h = absurd h
other_page j k (Ask.Refresh t time) say other h = absurd h
other_page j k (Ask.Unlock t) say other h = absurd h
other_page j k Ask.Locks say other h = absurd h
other_page j k (Ask.List i after) (Say.Token t) other h = refl
other_page j k (Ask.List i after) Say.Done other h = refl
other_page j k (Ask.List i after) (Say.Names more names) other h = let o : same_kind i k ≡ false = subst (λ z. same_kind z k ≡ false) (sym h) other in ap (λ b. cond b names []) o
other_page j k (Ask.List i after) (Say.Bytes x) other h = refl
other_page j k (Ask.List i after) (Say.LockList rows) other h = refl
other_page j k (Ask.List i after) (Say.Refused code) other h = refl
other_page j k (Ask.Get i n) (Say.Token t) other h = refl
other_page j k (Ask.Get i n) Say.Done other h = refl
other_page j k (Ask.Get i n) (Say.Names more names) other h = refl
other_page j k (Ask.Get i n) (Say.Bytes x) other h = refl
other_page j k (Ask.Get i n) (Say.LockList rows) other h = refl
other_page j k (Ask.Get i n) (Say.Refused code) other h = refl
other_page j k (Ask.Range pack offset len) say other h = absurd h
other_page j k (Ask.Put t i n x) say other h = absurd h
other_page j k (Ask.Delete t i n) say other h = absurd h
other_page j k (Ask.Upgrade t) say other h = absurd h
other_page j k Ask.Config say other h = absurd h

other_last_page : (j k i : Kind) (after : Option Name) (more : Bool) (names : List Name) → same_kind j k ≡ false → i ≡ j → is_last_page k (Ask.List i after) (Say.Names more names) ≡ false
other_last_page j k i after true names other h = refl
other_last_page j k i after false names other h = subst (λ z. same_kind z k ≡ false) (sym h) other

other_last : (j k : Kind) (ask : Ask) (say : Say) → same_kind j k ≡ false → IsListingOf j ask → is_last_page k ask say ≡ false
other_last j k Ask.Ticket say other h = absurd h
other_last j k (Ask.Lock row) say other h = absurd h
other_last j k (Ask.Refresh t time) say other h = absurd h
other_last j k (Ask.Unlock t) say other h = absurd h
other_last j k Ask.Locks say other h = absurd h
other_last j k (Ask.List i after) (Say.Token t) other h = refl
other_last j k (Ask.List i after) Say.Done other h = refl
other_last j k (Ask.List i after) (Say.Names more names) other h = other_last_page j k i after more names other h
other_last j k (Ask.List i after) (Say.Bytes x) other h = refl
other_last j k (Ask.List i after) (Say.LockList rows) other h = refl
other_last j k (Ask.List i after) (Say.Refused code) other h = refl
other_last j k (Ask.Get i n) (Say.Token t) other h = refl
other_last j k (Ask.Get i n) Say.Done other h = refl
other_last j k (Ask.Get i n) (Say.Names more names) other h = refl
other_last j k (Ask.Get i n) (Say.Bytes x) other h = refl
other_last j k (Ask.Get i n) (Say.LockList rows) other h = refl
other_last j k (Ask.Get i n) (Say.Refused code) other h = refl
other_last j k (Ask.Range pack offset len) say other h = absurd h
other_last j k (Ask.Put t i n x) say other h = absurd h
other_last j k (Ask.Delete t i n) say other h = absurd h
other_last j k (Ask.Upgrade t) say other h = absurd h
other_last j k Ask.Config say other h = absurd h

other_object : (j k : Kind) (ask : Ask) (say : Say) → same_kind j k ≡ false → IsListingOf j ask → object_got k ask say ≡ []
other_object j k Ask.Ticket say other h = absurd h
other_object j k (Ask.Lock row) say other h = absurd h
other_object j k (Ask.Refresh t time) say other h = absurd h
other_object j k (Ask.Unlock t) say other h = absurd h
other_object j k Ask.Locks say other h = absurd h
other_object j k (Ask.List i after) (Say.Token t) other h = refl
other_object j k (Ask.List i after) Say.Done other h = refl
other_object j k (Ask.List i after) (Say.Names more names) other h = refl
other_object j k (Ask.List i after) (Say.Bytes x) other h = refl
other_object j k (Ask.List i after) (Say.LockList rows) other h = refl
other_object j k (Ask.List i after) (Say.Refused code) other h = refl
other_object j k (Ask.Get i n) (Say.Token t) other h = refl
other_object j k (Ask.Get i n) Say.Done other h = refl
other_object j k (Ask.Get i n) (Say.Names more names) other h = refl
other_object j k (Ask.Get i n) (Say.Bytes x) other h = let o : same_kind i k ≡ false = subst (λ z. same_kind z k ≡ false) (sym h) other in ap (λ b. cond b (record { name = n; bytes = x } ∷ []) []) o
other_object j k (Ask.Get i n) (Say.LockList rows) other h = refl
other_object j k (Ask.Get i n) (Say.Refused code) other h = refl
other_object j k (Ask.Range pack offset len) say other h = absurd h
other_object j k (Ask.Put t i n x) say other h = absurd h
other_object j k (Ask.Delete t i n) say other h = absurd h
other_object j k (Ask.Upgrade t) say other h = absurd h
other_object j k Ask.Config say other h = absurd h

module _ (j k : Kind) (e : Exchange) (other : same_kind j k ≡ false) (listing : IsListingOf j e.ask) where
  no_page_of : (after : Option Name) → e.ask ≢ Ask.List k after
  no_page_of after is =
      let same : k ≡ j = subst (IsListingOf j) is listing in
      let itself : same_kind k k ≡ false = subst (λ z. same_kind z k ≡ false) (sym same) other in
      let yes = same_self k in
      absurd (cc)

  pub other_lists : ListsNone k e
  other_lists = record { page = other_page j k e.ask e.say other listing; last = other_last j k e.ask e.say other listing; ask = no_page_of }

  pub no_get_of : (n : Name) → e.ask ≢ Ask.Get k n
  no_get_of n is =
      let same : k ≡ j = subst (IsListingOf j) is listing in
      let itself : same_kind k k ≡ false = subst (λ z. same_kind z k ≡ false) (sym same) other in
      let yes = same_self k in
      absurd (cc)

  pub other_rolled : (names : List Name) (read : ℕ) (whole : Bool) (es : Trace) → IsRolled k names read whole es → IsRolled k names read whole (e ∷ es)
  other_rolled names read whole es h = rolled_on k e names read whole es (other_page j k e.ask e.say other listing) (other_last j k e.ask e.say other listing) (other_object j k e.ask e.say other listing) no_page_of no_get_of h

pub unlisted_same : (j : Kind) (e : Exchange) (es : Trace) (packs : Roll) → same_kind j Kind.Pack ≡ false → IsListingOf j e.ask → AreUnlisted packs es → AreUnlisted packs (e ∷ es)
unlisted_same j e es packs other listing h = record {
  of_packs = h.of_packs;
  none_read = h.none_read;
  rolled = subst (λ k. IsRolled k packs.names.items packs.read false (e ∷ es)) (sym h.of_packs)
      (other_rolled j Kind.Pack e other listing packs.names.items packs.read false es (subst (λ k. IsRolled k packs.names.items packs.read false es) h.of_packs h.rolled));
}

pub catalog_same : (j : Kind) (e : Exchange) (es : Trace) (c : Catalog) (whole : Bool) → same_kind j Kind.Index ≡ false → IsListingOf j e.ask → Catalogs c whole es → Catalogs c whole (e ∷ es)
catalog_same j e es c whole other listing h = catalog_on e c.roll.kind c.roll.names.items c.roll.read c.lookup whole es (other_page j Kind.Index e.ask e.say other listing) (other_last j Kind.Index e.ask e.say other listing)
    (other_object j Kind.Index e.ask e.say other listing) (no_page_of j Kind.Index e other listing) (no_get_of j Kind.Index e other listing) h

-- ---- what a listing asks for

pub listing_same : (j : Kind) (ask : Ask) → IsListingOf j ask → IsNoChange ask
listing_same j Ask.Ticket h = absurd h
listing_same j (Ask.Lock row) h = absurd h
listing_same j (Ask.Refresh t time) h = absurd h
listing_same j (Ask.Unlock t) h = absurd h
listing_same j Ask.Locks h = absurd h
listing_same j (Ask.List i after) h = record { puts = λ k. refl; deletes = λ k. refl }
listing_same j (Ask.Get i n) h = record { puts = λ k. refl; deletes = λ k. refl }
listing_same j (Ask.Range pack offset len) h = absurd h
listing_same j (Ask.Put t i n x) h = absurd h
listing_same j (Ask.Delete t i n) h = absurd h
listing_same j (Ask.Upgrade t) h = absurd h
listing_same j Ask.Config h = absurd h

-- a request for a part of a pack
part_is : (ask : Ask) → AsksPart ask → (pack : Name) × (offset : ℕ) × (len : ℕ) × (ask ≡ Ask.Range pack offset len)
part_is (Ask.Range pack offset len) h = (pack, offset, len, refl)
part_is _ h = absurd h

-- where no part of a pack was asked for, none is to come
pub listed_come : (es : Trace) → HasOnlyListed es → HasCome IsWanted es
listed_come [] listed = tt
listed_come (e ∷ es) listed = λ part. (let p = part_is e.ask part in absurd (listed.none_ranged p.0 p.1 p.2 (inl p.3)))

-- where those before a kind were read, it may ask for pages of it, and for its objects but packs, each once
kind_allowed : (j : Kind) (es : Trace) (ask : Ask) → j ≢ Kind.Pack → IsReadInTurn j es → ReadsKind j es ask → HasOnlyListed es → PruneAllows es ask
kind_allowed j es (Ask.List i after) other turn h listed = (inl (listed_come es listed), (listed.none_deleted, subst (λ k. IsReadInTurn k es) (sym h) turn))
kind_allowed j es (Ask.Get i n) other turn h listed = (inl (listed_come es listed), (listed.none_deleted, λ is. other (sym h.0 ∙ is), h.1, subst (λ k. IsReadInTurn k es) (sym h.0) turn))
kind_allowed j es (Ask.Range pack offset len) other turn h listed = absurd h
kind_allowed j es (Ask.Put t i n x) other turn h listed = absurd h
kind_allowed j es (Ask.Delete t i n) other turn h listed = absurd h
kind_allowed j es (Ask.Upgrade t) other turn h listed = absurd h
kind_allowed j es Ask.Ticket other turn h listed = absurd h
kind_allowed j es (Ask.Lock row) other turn h listed = absurd h
kind_allowed j es (Ask.Refresh t time) other turn h listed = absurd h
kind_allowed j es (Ask.Unlock t) other turn h listed = absurd h
kind_allowed j es Ask.Locks other turn h listed = absurd h
kind_allowed j es Ask.Config other turn h listed = absurd h

pub snapshots_allowed : (es : Trace) (ask : Ask) → ReadsKind Kind.Snapshot es ask → HasOnlyListed es → PruneAllows es ask
snapshots_allowed es ask h listed = kind_allowed Kind.Snapshot es ask (λ is. absurd (cc)) tt h listed

pub indexes_allowed : (es : Trace) (ask : Ask) (rows : List Row) → IsSnapshotListing es rows → ReadsKind Kind.Index es ask → HasOnlyListed es → PruneAllows es ask
indexes_allowed es ask rows snapshots h listed = kind_allowed Kind.Index es ask (λ is. absurd (cc)) (rows, snapshots) h listed

pub listing_untouched : (j : Kind) (e : Exchange) (es : Trace) → IsListingOf j e.ask → HasOnlyListed es → HasOnlyListed (e ∷ es)
listing_untouched j e es h listed =
    let u = untouched_same e es (listing_same j e.ask h) (only_listed es listed) in
    record {
      none_put = u.none_put;
      none_deleted = u.none_deleted;
      none_ranged = λ pack offset len asked. elim asked [ inl now ↦ subst (IsListingOf j) now h | inr before ↦ listed.none_ranged pack offset len before ];
    }

-- nor where the config was just read
pub opened_unranged : (task : Task) (token : Token) (text : List ℕ) (pack : Name) (offset len : ℕ) → ¬ WasAsked (opened task token text) (Ask.Range pack offset len)
opened_unranged task token text pack offset len (inl now) = absurd (cc)
opened_unranged task token text pack offset len (inr (inl now)) = absurd (cc)
opened_unranged task token text pack offset len (inr (inr (inl now))) = absurd (cc)
opened_unranged task token text pack offset len (inr (inr (inr none))) = none

pub roll_listing : (roll : Roll) (ask : Ask) (es : Trace) → KnowsRoll roll ask es → IsListingOf roll.kind ask
roll_listing roll Ask.Ticket es h = absurd h
roll_listing roll (Ask.Lock row) es h = absurd h
roll_listing roll (Ask.Refresh t time) es h = absurd h
roll_listing roll (Ask.Unlock t) es h = absurd h
roll_listing roll Ask.Locks es h = absurd h
roll_listing roll (Ask.List i after) es h = h.0
roll_listing roll (Ask.Get i n) es h = h.0
roll_listing roll (Ask.Range pack offset len) es h = absurd h
roll_listing roll (Ask.Put t i n x) es h = absurd h
roll_listing roll (Ask.Delete t i n) es h = absurd h
roll_listing roll (Ask.Upgrade t) es h = absurd h
roll_listing roll Ask.Config es h = absurd h

pub index_listing : (c : Catalog) (ask : Ask) (es : Trace) → KnowsIndexes c ask es → IsListingOf Kind.Index ask
index_listing c Ask.Ticket es h = absurd h
index_listing c (Ask.Lock row) es h = absurd h
index_listing c (Ask.Refresh t time) es h = absurd h
index_listing c (Ask.Unlock t) es h = absurd h
index_listing c Ask.Locks es h = absurd h
index_listing c (Ask.List i after) es h = h.0
index_listing c (Ask.Get i n) es h = h.0
index_listing c (Ask.Range pack offset len) es h = absurd h
index_listing c (Ask.Put t i n x) es h = absurd h
index_listing c (Ask.Delete t i n) es h = absurd h
index_listing c (Ask.Upgrade t) es h = absurd h
index_listing c Ask.Config es h = absurd h

-- ---- what the job knows of it

pub snapshots_known : (j : Prune) (ask : Ask) (es : Trace) → IsListingOf Kind.Snapshot ask → KnowsPrune j ask es → ReadsSnapshots j ask es
snapshots_known j Ask.Ticket es is h = absurd is
snapshots_known j (Ask.Lock row) es is h = absurd is
snapshots_known j (Ask.Refresh t time) es is h = absurd is
snapshots_known j (Ask.Unlock t) es is h = absurd is
snapshots_known j Ask.Locks es is h = absurd is
snapshots_known j (Ask.List Kind.Snapshot after) es is h = h
snapshots_known j (Ask.List Kind.Index after) es is h = absurd (cc)
snapshots_known j (Ask.List Kind.Pack after) es is h = absurd (cc)
snapshots_known j (Ask.Get Kind.Snapshot n) es is h = h
snapshots_known j (Ask.Get Kind.Index n) es is h = absurd (cc)
snapshots_known j (Ask.Get Kind.Pack n) es is h = absurd (cc)
snapshots_known j (Ask.Range pack offset len) es is h = absurd is
snapshots_known j (Ask.Put t i n x) es is h = absurd is
snapshots_known j (Ask.Delete t i n) es is h = absurd is
snapshots_known j (Ask.Upgrade t) es is h = absurd is
snapshots_known j Ask.Config es is h = absurd is

pub snapshots_back : (j : Prune) (ask : Ask) (es : Trace) → IsListingOf Kind.Snapshot ask → ReadsSnapshots j ask es → KnowsPrune j ask es
snapshots_back j Ask.Ticket es is h = absurd is
snapshots_back j (Ask.Lock row) es is h = absurd is
snapshots_back j (Ask.Refresh t time) es is h = absurd is
snapshots_back j (Ask.Unlock t) es is h = absurd is
snapshots_back j Ask.Locks es is h = absurd is
snapshots_back j (Ask.List Kind.Snapshot after) es is h = h
snapshots_back j (Ask.List Kind.Index after) es is h = absurd (cc)
snapshots_back j (Ask.List Kind.Pack after) es is h = absurd (cc)
snapshots_back j (Ask.Get Kind.Snapshot n) es is h = h
snapshots_back j (Ask.Get Kind.Index n) es is h = absurd (cc)
snapshots_back j (Ask.Get Kind.Pack n) es is h = absurd (cc)
snapshots_back j (Ask.Range pack offset len) es is h = absurd is
snapshots_back j (Ask.Put t i n x) es is h = absurd is
snapshots_back j (Ask.Delete t i n) es is h = absurd is
snapshots_back j (Ask.Upgrade t) es is h = absurd is
snapshots_back j Ask.Config es is h = absurd is

pub indexes_known : (j : Prune) (ask : Ask) (es : Trace) → IsListingOf Kind.Index ask → KnowsPrune j ask es → ReadsIndexes j ask es
indexes_known j Ask.Ticket es is h = absurd is
indexes_known j (Ask.Lock row) es is h = absurd is
indexes_known j (Ask.Refresh t time) es is h = absurd is
indexes_known j (Ask.Unlock t) es is h = absurd is
indexes_known j Ask.Locks es is h = absurd is
indexes_known j (Ask.List Kind.Snapshot after) es is h = absurd (cc)
indexes_known j (Ask.List Kind.Index after) es is h = h
indexes_known j (Ask.List Kind.Pack after) es is h = absurd (cc)
indexes_known j (Ask.Get Kind.Snapshot n) es is h = absurd (cc)
indexes_known j (Ask.Get Kind.Index n) es is h = h
indexes_known j (Ask.Get Kind.Pack n) es is h = absurd (cc)
indexes_known j (Ask.Range pack offset len) es is h = absurd is
indexes_known j (Ask.Put t i n x) es is h = absurd is
indexes_known j (Ask.Delete t i n) es is h = absurd is
indexes_known j (Ask.Upgrade t) es is h = absurd is
indexes_known j Ask.Config es is h = absurd is

pub indexes_back : (j : Prune) (ask : Ask) (es : Trace) → IsListingOf Kind.Index ask → ReadsIndexes j ask es → KnowsPrune j ask es
indexes_back j Ask.Ticket es is h = absurd is
indexes_back j (Ask.Lock row) es is h = absurd is
indexes_back j (Ask.Refresh t time) es is h = absurd is
indexes_back j (Ask.Unlock t) es is h = absurd is
indexes_back j Ask.Locks es is h = absurd is
indexes_back j (Ask.List Kind.Snapshot after) es is h = absurd (cc)
indexes_back j (Ask.List Kind.Index after) es is h = h
indexes_back j (Ask.List Kind.Pack after) es is h = absurd (cc)
indexes_back j (Ask.Get Kind.Snapshot n) es is h = absurd (cc)
indexes_back j (Ask.Get Kind.Index n) es is h = h
indexes_back j (Ask.Get Kind.Pack n) es is h = absurd (cc)
indexes_back j (Ask.Range pack offset len) es is h = absurd is
indexes_back j (Ask.Put t i n x) es is h = absurd is
indexes_back j (Ask.Delete t i n) es is h = absurd is
indexes_back j (Ask.Upgrade t) es is h = absurd is
indexes_back j Ask.Config es is h = absurd is

-- ---- from a stage to the job

no_listing : (k : Known) (stage : Stage) (ask : Ask) (j : Kind) (es : Trace) → IsListingOf j ask → KnowsStage k stage ask es → ⊥
no_listing k stage Ask.Ticket j es is h = is
no_listing k stage (Ask.Lock row) j es is h = is
no_listing k stage (Ask.Refresh t time) j es is h = is
no_listing k stage (Ask.Unlock t) j es is h = is
no_listing k stage Ask.Locks j es is h = is
no_listing k Stage.Listing (Ask.List i after) j es is h = h
no_listing k (Stage.Walking trees fact) (Ask.List i after) j es is h = let asks = h.asks in absurd (cc)
no_listing k (Stage.Moving m place) (Ask.List i after) j es is h = h
no_listing k (Stage.Relisting r) (Ask.List i after) j es is h = h
no_listing k (Stage.Deleting d) (Ask.List i after) j es is h = h
no_listing k Stage.Listing (Ask.Get i n) j es is h = h
no_listing k (Stage.Walking trees fact) (Ask.Get i n) j es is h = let asks = h.asks in absurd (cc)
no_listing k (Stage.Moving m place) (Ask.Get i n) j es is h = h
no_listing k (Stage.Relisting r) (Ask.Get i n) j es is h = h
no_listing k (Stage.Deleting d) (Ask.Get i n) j es is h = h
no_listing k stage (Ask.Range pack offset len) j es is h = is
no_listing k stage (Ask.Put t i n x) j es is h = is
no_listing k stage (Ask.Delete t i n) j es is h = is
no_listing k stage (Ask.Upgrade t) j es is h = is
no_listing k stage Ask.Config j es is h = is

pub later_known : (j : Prune) (ask : Ask) (es : Trace) → KnowsStage (known_in j) j.stage ask es → KnowsPrune j ask es
later_known j Ask.Ticket es h = h
later_known j (Ask.Lock row) es h = h
later_known j (Ask.Refresh t time) es h = h
later_known j (Ask.Unlock t) es h = h
later_known j Ask.Locks es h = h
later_known j (Ask.List Kind.Snapshot after) es h = absurd (no_listing (known_in j) j.stage (Ask.List Kind.Snapshot after) Kind.Snapshot es refl h)
later_known j (Ask.List Kind.Index after) es h = absurd (no_listing (known_in j) j.stage (Ask.List Kind.Index after) Kind.Index es refl h)
later_known j (Ask.List Kind.Pack after) es h = absurd (no_listing (known_in j) j.stage (Ask.List Kind.Pack after) Kind.Pack es refl h)
later_known j (Ask.Get Kind.Snapshot n) es h = absurd (no_listing (known_in j) j.stage (Ask.Get Kind.Snapshot n) Kind.Snapshot es refl h)
later_known j (Ask.Get Kind.Index n) es h = absurd (no_listing (known_in j) j.stage (Ask.Get Kind.Index n) Kind.Index es refl h)
later_known j (Ask.Get Kind.Pack n) es h = absurd (no_listing (known_in j) j.stage (Ask.Get Kind.Pack n) Kind.Pack es refl h)
later_known j (Ask.Range pack offset len) es h = h
later_known j (Ask.Put t i n x) es h = h
later_known j (Ask.Delete t i n) es h = h
later_known j (Ask.Upgrade t) es h = h
later_known j Ask.Config es h = h

-- the next step is one that the job may take
pub may_step : (j : Prune) (who : Asker) (e : Exchange) (es : Trace) (step : Step) → e.emitted ≡ [] → HasCome IsWanted (e ∷ es) → IsNextStep (known_in j) who j.stage step (e ∷ es) → MayStep prune_rule who (KnowsPrune j) es e step
may_step j who e es (Step.Ask ask) none come h = let a = h come in (inl none, record { work = a.work; may = a.may; allowed = a.allowed; knows = later_known j ask (e ∷ es) a.knows })
may_step j who e es (Step.Finish outcome) none come h = (inl none, h come)
may_step j who e es Step.Want none come h = absurd h
may_step j who e es Step.Away none come h = absurd h

-- a step that it may take by what its stage knows, it may take
pub may_turn : (j : Prune) (who : Asker) (e : Exchange) (es : Trace) (step : Step) → MayStep prune_rule who (KnowsStage (known_in j) j.stage) es e step → MayStep prune_rule who (KnowsPrune j) es e step
may_turn j who e es (Step.Ask ask) h = (h.0, record { work = h.1.work; may = h.1.may; allowed = h.1.allowed; knows = later_known j ask (e ∷ es) h.1.knows })
may_turn j who e es (Step.Finish outcome) h = h
may_turn j who e es Step.Want h = h
may_turn j who e es Step.Away h = h

-- the stage and the step of what comes next
pub gone_on : (k : Known) (who : Asker) (onward : Onward) (j : Prune) (step : Step) (es : Trace) → step ≡ onward.step → j.stage ≡ onward.stage → known_in j ≡ k → IsNextStep k who onward.stage onward.step es
    → IsNextStep (known_in j) who j.stage step es
gone_on k who onward j step es step_is stage_is same h =
    subst (λ z. IsNextStep z who j.stage step es) (sym same) (subst (λ s. IsNextStep k who s step es) (sym stage_is) (subst (λ s. IsNextStep k who onward.stage s es) (sym step_is) h))

-- ---- a page of packs

-- what is done on a page, is done on each request of the listing of packs, which gets none
pub steps_listing : (old : Prune) (token : Token) (ask : Ask) (say : Say) (step : Step) (new : Prune) → ((after : Option Name) → StepsFrom old token (Ask.List Kind.Pack after) say step new) → IsListingOf Kind.Pack ask → StepsFrom old token ask say step new
steps_listing old token (Ask.List i after) say step new h is = subst (λ k. StepsFrom old token (Ask.List k after) say step new) (sym is) (h after)
steps_listing old token (Ask.Get i n) say step new h is = λ who es w obeys asked. absurd (asked.allowed.1.1 is)
steps_listing old token (Ask.Range pack offset len) say step new h is = absurd is
steps_listing old token (Ask.Put t i n x) say step new h is = absurd is
steps_listing old token (Ask.Delete t i n) say step new h is = absurd is
steps_listing old token (Ask.Upgrade t) say step new h is = absurd is
steps_listing old token Ask.Ticket say step new h is = absurd is
steps_listing old token (Ask.Lock row) say step new h is = absurd is
steps_listing old token (Ask.Refresh t time) say step new h is = absurd is
steps_listing old token (Ask.Unlock t) say step new h is = absurd is
steps_listing old token Ask.Locks say step new h is = absurd is
steps_listing old token Ask.Config say step new h is = absurd is

pub heeds_listing : (old : Prune) (token : Token) (ask : Ask) (say : Say) (step : Step) → ((after : Option Name) → HeedsFrom old token (Ask.List Kind.Pack after) say step) → IsListingOf Kind.Pack ask → HeedsFrom old token ask say step
heeds_listing old token (Ask.List i after) say step h is = subst (λ k. HeedsFrom old token (Ask.List k after) say step) (sym is) (h after)
heeds_listing old token (Ask.Get i n) say step h is = λ who es w obeys asked. absurd (asked.allowed.1.1 is)
heeds_listing old token (Ask.Range pack offset len) say step h is = absurd is
heeds_listing old token (Ask.Put t i n x) say step h is = absurd is
heeds_listing old token (Ask.Delete t i n) say step h is = absurd is
heeds_listing old token (Ask.Upgrade t) say step h is = absurd is
heeds_listing old token Ask.Ticket say step h is = absurd is
heeds_listing old token (Ask.Lock row) say step h is = absurd is
heeds_listing old token (Ask.Refresh t time) say step h is = absurd is
heeds_listing old token (Ask.Unlock t) say step h is = absurd is
heeds_listing old token Ask.Locks say step h is = absurd is
heeds_listing old token Ask.Config say step h is = absurd is

pub knows_listing : (old : Prune) (ask : Ask) (new : Prune) → ((after : Option Name) → KnowsAsMuch old (Ask.List Kind.Pack after) new) → IsListingOf Kind.Pack ask → KnowsAsMuch old ask new
knows_listing old (Ask.List i after) new h is = subst (λ k. KnowsAsMuch old (Ask.List k after) new) (sym is) (h after)
knows_listing old (Ask.Get i n) new h is = λ es known. absurd (subst (λ k. KnowsPrune old (Ask.Get k n) es) is known)
knows_listing old (Ask.Range pack offset len) new h is = absurd is
knows_listing old (Ask.Put t i n x) new h is = absurd is
knows_listing old (Ask.Delete t i n) new h is = absurd is
knows_listing old (Ask.Upgrade t) new h is = absurd is
knows_listing old Ask.Ticket new h is = absurd is
knows_listing old (Ask.Lock row) new h is = absurd is
knows_listing old (Ask.Refresh t time) new h is = absurd is
knows_listing old (Ask.Unlock t) new h is = absurd is
knows_listing old Ask.Locks new h is = absurd is
knows_listing old Ask.Config new h is = absurd is

-- it may be asked for
pub pack_page : (j : Prune) (es : Trace) (ask : Ask) (after : Option Name) → ask ≡ Ask.List Kind.Pack after → ListsPacks j ask es → PruneAllows es ask × KnowsPrune j ask es
pack_page j es ask after is h =
    let indexed = are_indexed j.catalog.roll.kind j.catalog.roll.names.items j.catalog.roll.read j.catalog.lookup es h.indexes h.all in (
      subst (PruneAllows es) (sym is) (inl (listed_come es h.untouched), (h.untouched.none_deleted, ((j.snapshots.rows.items, h.snapshots), indexed))),
      subst (λ a. KnowsPrune j a es) (sym is) (subst (λ a. ListsPacks j a es) is h),
    )

-- ---- all packs are listed

pub packs_listed : (j : Prune) (packs : Roll) (e : Exchange) (es : Trace) → IsListingOf Kind.Pack e.ask → HasOnlyListed es → IsSnapshotListing es j.snapshots.rows.items → Catalogs j.catalog true es → IsAll j.catalog
    → HasTarget es j.target.bytes → IsPaged Kind.Pack packs.names.items true (e ∷ es)
    → AreAllListed (record { rows = j.snapshots.rows.items; indexes = j.catalog.roll.names.items; facts = j.catalog.lookup; packs = packs.names.items; target = j.target.bytes }) (e ∷ es) × HasOnlyListed (e ∷ es)
packs_listed j packs e es listing untouched rows catalog all target paged =
    let c = catalog_same Kind.Pack e es j.catalog true refl listing catalog in (
      record {
        snapshots = listing_stays e es j.snapshots.rows.items (other_lists Kind.Pack Kind.Snapshot e refl listing) rows;
        indexes = are_indexed j.catalog.roll.kind j.catalog.roll.names.items j.catalog.roll.read j.catalog.lookup (e ∷ es) c all;
        listed = c.rolled.paged.listed;
        gives = c.gives;
        packs = paged;
        target = target_later e es j.target.bytes target;
      },
      listing_untouched Kind.Pack e es listing untouched,
    )
