-- What a job ends at once on, and on what it goes on.
use Rattle.std.proofs.Common.{arith, ◌≡◌, ◌≢◌, ◌⊎◌, ◌∷◌, [], ℕ, Bool, true, false, List, Option, Some, None, refl, sym, subst, inl, inr, ⊎_elim, ◌∙◌}
use Rattle.std.proofs.lemmas.Option.{same_Some}
use Rattle.repo_name.specs.Naming as naming
use Rattle.repo_name.specs.declared.kinds.Kind.{Kind}
use Rattle.repo_name.specs.declared.kinds.Thing.{Thing}
use Rattle.repo_name.specs.declared.names.Name.{Name}
use Rattle.repo_wire.specs.declared.messages.Ask.{Ask}
use Rattle.repo_wire.specs.declared.messages.Say.{Say}
use Rattle.repo_tree.specs.declared.faults.TextError.{TextError}
use Rattle.repo_tree.specs.ConfigText.{ConfigFault, HasConfig, MissesConfig}
use Rattle.repo_tree.specs.SnapshotText.{SnapshotFault, MissesSnapshot}
use Rattle.repo_tree.specs.Versions.{IsKnownTo}
use Rattle.repo_store.specs.Pages.{PageRises}
use Rattle.repo_session.specs.declared.emissions.Emission.{Emission}
use Rattle.repo_session.specs.declared.outcomes.End.{End}
use Rattle.repo_session.specs.declared.outcomes.Outcome.{Outcome}
use Rattle.repo_session.specs.Ends.{AreHeeded, CausedBy, IsBad, IsOfOtherVersion, IsSenseless, IsUnreadable, IsUnwelcome, IsUseless, IsWelcome, MayFollow, before_unlock}
use Rattle.repo_session.specs.Jobs.{HeedsOn}
use Rattle.repo_session.specs.declared.jobs.Step.{Step}
use Rattle.repo_session.specs.Lines.{or_spent}
use Rattle.repo_session.specs.Readings.{KnowsIndexes}
use Rattle.repo_session.specs.Traces.{Each, Exchange, Trace, giving}
use Rattle.repo_session.specs.declared.catalogs.Catalog.{Catalog}
use Rattle.repo_session.proofs.GoingOn.{unwelcome_of}

-- ---- a text whose version isn't known has no other fault

pub snapshot_version : (known : ℕ) (x : List ℕ) (fault : TextError) → SnapshotFault known x fault → SnapshotFault known x TextError.Version → (fault ≡ TextError.Version) ⊎ (fault ≡ TextError.Memory)
snapshot_version known x TextError.TooLarge h other = let short = other.2.short in absurd (omega (arith, h, short))
snapshot_version known x TextError.Json h other = absurd (h.1 other.0 other.2)
snapshot_version known x TextError.Shape h other =
    let same : h.0 ≡ other.0 = same_Some h.0 other.0 (sym h.1.is.reads ∙ other.2.is.reads) in
    absurd (⊎_elim (λ none. none other.1 other.3) (λ misses. other.4 (subst (IsKnownTo known) (same_Some misses.0 other.1 (sym misses.1 ∙ other.3)) misses.2)) (subst (MissesSnapshot known) same h.2))
snapshot_version known x TextError.Version h other = inl refl
snapshot_version known x TextError.Params h other = absurd h
snapshot_version known x TextError.Memory h other = inr refl

config_version : (known : ℕ) (x : List ℕ) (fault : TextError) → ConfigFault known x fault → ConfigFault known x TextError.Version → (fault ≡ TextError.Version) ⊎ (fault ≡ TextError.Memory)
config_version known x TextError.TooLarge h other = let short = other.2.short in absurd (omega (arith, h, short))
config_version known x TextError.Json h other = absurd (h.1 other.0 other.2)
config_version known x TextError.Shape h other =
    let same : h.0 ≡ other.0 = same_Some h.0 other.0 (sym h.1.is.reads ∙ other.2.is.reads) in
    absurd (⊎_elim (λ none. none other.1 other.3) (λ misses. other.4 (subst (IsKnownTo known) (same_Some misses.0 other.1 (sym misses.1 ∙ other.3)) misses.2)) (subst (MissesConfig known) same h.2))
config_version known x TextError.Version h other = inl refl
config_version known x TextError.Params h other =
    let members : HasConfig other.0 h.1 = subst (λ d. HasConfig d h.1) (same_Some h.0 other.0 (sym h.2.is.reads ∙ other.2.is.reads)) h.3 in
    absurd (other.4 (subst (IsKnownTo known) (same_Some h.1.version other.1 (sym members.version ∙ other.3)) h.4))
config_version known x TextError.Memory h other = inr refl

-- ---- what is of a version that isn't known is the config that was asked for, or a snapshot that was

pub by_other : (known : ℕ) (P : Ask → Say → Type 0) → ((x : List ℕ) → ConfigFault known x TextError.Version → P Ask.Config (Say.Bytes x))
    → ((n : Name) (x : List ℕ) → naming.name x ≡ n → SnapshotFault known x TextError.Version → P (Ask.Get Kind.Snapshot n) (Say.Bytes x)) → (ask : Ask) (say : Say) → IsOfOtherVersion known ask say → P ask say
by_other known P config snapshot Ask.Config (Say.Bytes x) o = config x o
by_other known P config snapshot Ask.Config (Say.Token token) o = absurd o
by_other known P config snapshot Ask.Config Say.Done o = absurd o
by_other known P config snapshot Ask.Config (Say.Names more names) o = absurd o
by_other known P config snapshot Ask.Config (Say.LockList rows) o = absurd o
by_other known P config snapshot Ask.Config (Say.Refused code) o = absurd o
by_other known P config snapshot (Ask.Get Kind.Snapshot n) (Say.Bytes x) o = snapshot n x o.0 o.1
by_other known P config snapshot (Ask.Get Kind.Snapshot n) (Say.Token token) o = absurd o
by_other known P config snapshot (Ask.Get Kind.Snapshot n) Say.Done o = absurd o
by_other known P config snapshot (Ask.Get Kind.Snapshot n) (Say.Names more names) o = absurd o
by_other known P config snapshot (Ask.Get Kind.Snapshot n) (Say.LockList rows) o = absurd o
by_other known P config snapshot (Ask.Get Kind.Snapshot n) (Say.Refused code) o = absurd o
by_other known P config snapshot (Ask.Get Kind.Pack n) say o = absurd o
by_other known P config snapshot (Ask.Get Kind.Index n) say o = absurd o
by_other known P config snapshot Ask.Ticket say o = absurd o
by_other known P config snapshot (Ask.Lock row) say o = absurd o
by_other known P config snapshot (Ask.Refresh token time) say o = absurd o
by_other known P config snapshot (Ask.Unlock token) say o = absurd o
by_other known P config snapshot Ask.Locks say o = absurd o
by_other known P config snapshot (Ask.List k after) say o = absurd o
by_other known P config snapshot (Ask.Range pack offset len) say o = absurd o
by_other known P config snapshot (Ask.Put token k n x) say o = absurd o
by_other known P config snapshot (Ask.Delete token k n) say o = absurd o
by_other known P config snapshot (Ask.Upgrade token) say o = absurd o

-- so a reply that isn't wanted is none
pub unwelcome_understood : (known : ℕ) (ask : Ask) (say : Say) → IsUnwelcome ask say → ¬ IsOfOtherVersion known ask say
unwelcome_understood known ask say u o = by_other known (λ a s. IsUnwelcome a s → ⊥) (λ x fault w. w tt) (λ n x is fault w. w tt) ask say o u

-- nor is one that makes no sense
pub senseless_understood : (known : ℕ) (ask : Ask) (say : Say) → IsSenseless known ask say → ¬ IsOfOtherVersion known ask say
senseless_understood known ask say h o = by_other known (λ a s. IsSenseless known a s → ⊥) (λ x fault w. ⊎_elim w.2 w.3 (config_version known x w.0 w.1 fault)) (λ n x is fault w. w tt) ask say o h

-- nor is one that brings a bad object
bad_snapshot : (known : ℕ) (n : Name) (x y : List ℕ) → Say.Bytes x ≡ Say.Bytes y → naming.name x ≡ n → SnapshotFault known x TextError.Version → (naming.name y ≢ n) ⊎ IsUnreadable known Kind.Snapshot y → ⊥
bad_snapshot known n x y same is fault bad =
    let q : x ≡ y = cc in
    ⊎_elim (λ other. other (subst (λ z. naming.name z ≡ n) q is)) (λ u. ⊎_elim u.2 u.3 (snapshot_version known y u.0 u.1 (subst (λ z. SnapshotFault known z TextError.Version) q fault))) bad

pub bad_understood : (known : ℕ) (ask : Ask) (say : Say) (thing : Thing) (name : Name) → IsBad known ask say thing name → ¬ IsOfOtherVersion known ask say
bad_understood known ask say thing name h o =
    by_other known (λ a s. IsBad known a s thing name → ⊥) (λ x fault w. w) (λ n x is fault w. bad_snapshot known n x w.0 w.1 is fault w.4) ask say o h

-- nor is a reply to a request for indexes
pub indexes_understood : (known : ℕ) (c : Catalog) (ask : Ask) (say : Say) (es : Trace) → KnowsIndexes c ask es → ¬ IsOfOtherVersion known ask say
indexes_understood known c ask say es h o = by_other known (λ a s. KnowsIndexes c a es → ⊥) (λ x fault w. w) (λ n x is fault w. let q = w.0 in absurd (cc)) ask say o h

-- ---- on what a job goes on

-- a page that was asked for, and the bytes of an object that was
pub names_wanted : {more : Bool} {names : List Name} (kind : Kind) (after : Option Name) (say : Say) → say ≡ Say.Names more names → ¬ IsUnwelcome (Ask.List kind after) say
names_wanted kind after say is w = subst (λ s. IsUnwelcome (Ask.List kind after) s) is w tt

pub bytes_wanted : (kind : Kind) (name : Name) (say : Say) (x : List ℕ) → say ≡ Say.Bytes x → ¬ IsUnwelcome (Ask.Get kind name) say
bytes_wanted kind name say x is w = subst (λ s. IsUnwelcome (Ask.Get kind name) s) is w tt

-- so by a page that rises behind the last name, and by the bytes of an object that have its name and are one
pub page_welcome : {more : Bool} {names : List Name} (known : ℕ) (kind : Kind) (after last : Option Name) (say : Say) (emitted : List Emission) → say ≡ Say.Names more names → after ≡ last → PageRises last more names
    → IsWelcome known (giving (Ask.List kind after) say emitted)
page_welcome {more} {names} known kind after last say emitted is behind rises = record {
  wanted = names_wanted kind after say is;
  sensible = λ s. (subst (λ x. IsSenseless known (Ask.List kind after) x) is s) (subst (λ a. PageRises a more names) (sym behind) rises);
  good = λ thing name bad. bad;
}

pub object_welcome : (known : ℕ) (kind : Kind) (name : Name) (say : Say) (x : List ℕ) (emitted : List Emission) → say ≡ Say.Bytes x → naming.name x ≡ name → ¬ IsUnreadable known kind x
    → IsWelcome known (giving (Ask.Get kind name) say emitted)
object_welcome known kind name say x emitted is named reads = record {
  wanted = bytes_wanted kind name say x is;
  sensible = λ s. subst (λ y. IsSenseless known (Ask.Get kind name) y) is s tt;
  good = λ thing n bad. (
      let q : bad.0 ≡ x = cc in
      ⊎_elim (λ other. other (subst (λ y. naming.name y ≡ name) (sym q) named)) (λ unreadable. reads (subst (λ y. IsUnreadable known kind y) q unreadable)) bad.4);
}

-- a reply that is welcome, and isn't of a version that isn't known
useful : (known : ℕ) (notes : Bool) (e : Exchange) → IsWelcome known e → ¬ IsUseless known notes e.ask e.say
useful known false e welcome useless = ⊎_elim welcome.sensible (λ bad. welcome.good bad.0 bad.1 bad.2) useless
useful known true e welcome useless = welcome.sensible useless

pub welcome_follows : (known : ℕ) (notes : Bool) (e : Exchange) → ¬ IsOfOtherVersion known e.ask e.say → IsWelcome known e → MayFollow known notes e
welcome_follows known notes e understood welcome ends =
    ⊎_elim understood (λ other. ⊎_elim (λ passed. welcome.wanted (unwelcome_of notes e.ask e.say passed)) (useful known notes e welcome) other) ends

-- so is such a page
pub page_follows : {more : Bool} {names : List Name} (known : ℕ) (notes : Bool) (kind : Kind) (after last : Option Name) (say : Say) (emitted : List Emission) → say ≡ Say.Names more names → after ≡ last → PageRises last more names
    → MayFollow known notes (giving (Ask.List kind after) say emitted)
page_follows known notes kind after last say emitted is behind rises =
    welcome_follows known notes (giving (Ask.List kind after) say emitted) (λ other. other) (page_welcome known kind after last say emitted is behind rises)

-- ---- steps

-- an end that the exchange caused
pub heeds_end : (known : ℕ) (notes : Bool) (e : Exchange) (end : End) → CausedBy known e.ask e.say end → HeedsOn known notes e (Step.Finish (Outcome.Ended end))
heeds_end known notes e end caused = λ ends. (end, refl, caused)

-- any step, on an exchange after which a job may go on
pub heeds_follow : (known : ℕ) (notes : Bool) (e : Exchange) (step : Step) → MayFollow known notes e → HeedsOn known notes e step
heeds_follow known notes e step follow = λ ends. absurd (follow ends)

-- ---- traces

-- who goes on by each heeded all, however it ends
pub heeded_of : (known : ℕ) (notes : Bool) (outcome : Option Outcome) (es : Trace) → Each (MayFollow known notes) es → AreHeeded known notes outcome es
heeded_of known notes outcome [] all = tt
heeded_of known notes outcome (e ∷ es) all = ((λ ends. absurd (all.0 ends)), all.1)

pub heeded_before : (known : ℕ) (notes : Bool) (outcome : Option Outcome) (es : Trace) → before_unlock es ≡ es → Each (MayFollow known notes) es → AreHeeded known notes outcome (before_unlock es)
heeded_before known notes outcome es whole all = subst (λ fs. AreHeeded known notes outcome fs) (sym whole) (heeded_of known notes outcome es all)

-- who hasn't ended goes on by each
all_follow : (known : ℕ) (notes : Bool) (outcome : Option Outcome) (es : Trace) → outcome ≡ None → AreHeeded known notes outcome es → Each (MayFollow known notes) es
all_follow known notes outcome [] none h = tt
all_follow known notes outcome (e ∷ es) none h = ((λ ends. let by = h.0 ends in let is = by.1 in absurd (cc)), h.1)

pub follow_before : (known : ℕ) (notes : Bool) (outcome : Option Outcome) (es : Trace) → outcome ≡ None → before_unlock es ≡ es → AreHeeded known notes outcome (before_unlock es) → Each (MayFollow known notes) es
follow_before known notes outcome es none whole h = all_follow known notes outcome es none (subst (λ fs. AreHeeded known notes outcome fs) whole h)

-- where the numbers are spent, who has no outcome yet gets one
pub heeded_spent : (known : ℕ) (notes : Bool) (outcome : Option Outcome) (es : Trace) → AreHeeded known notes outcome es → AreHeeded known notes (or_spent outcome) es
heeded_spent known notes None es h = heeded_of known notes (or_spent None) es (all_follow known notes None es refl h)
heeded_spent known notes (Some outcome) es h = h
