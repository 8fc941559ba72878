-- What is remembered of a shelf.
use Rattle.std.specs.Prelude.{◌≡◌, ◌⊎◌, ⊤, ℕ, Bool, true, false, not, List, Option, Some, None, is_some, option_map, Result}
use Rattle.std.specs.BTreeMap.{BTreeMap}
use Rattle.repo_name.specs.declared.kinds.Kind.{Kind}
use Rattle.repo_name.specs.declared.names.Name.{Name}
use Rattle.repo_name.specs.NameMaps.{found}
use Rattle.repo_locks.specs.TokenMachine.{Tokens}
use Rattle.repo_store.specs.Pages.{Has}
use Rattle.repo_store.specs.Stores.{Store}
use Rattle.repo_store.specs.declared.known.Known.{Known}
use Rattle.repo_store.specs.declared.kept.Kept.{Kept}
use Rattle.repo_store.specs.declared.faults.FaultShelf.{FaultShelf}
use Rattle.repo_store.specs.declared.faults.Armed.{Armed}
use Rattle.repo_store.specs.declared.shelves.ShelfError.{ShelfError}
use Rattle.repo_store.specs.Laws.{Reads}

-- a set of names, as it is kept: a map of them to nothing
abbrev pub NameSet : Type 0
NameSet = BTreeMap Name (Unit {0})

-- whether a name is in a set
abbrev pub is_in : NameSet → Name → Bool
is_in names n = is_some (found names n)

-- whether a name is known to be there, if that is known of names
abbrev pub Names : Type 0
Names = Option (Name → Bool)

-- what is known of the names of a kind
abbrev pub names_of : Known → Kind → Names
names_of known Kind.Pack = option_map is_in known.packs
names_of known Kind.Index = option_map is_in known.indexes
names_of known Kind.Snapshot = option_map is_in known.snapshots

-- the names that are known are just those under which something is there
abbrev pub AreThere : Names → (Name → Option (List ℕ)) → Type 0
AreThere None there = ⊤
AreThere (Some has) there = (n : Name) → has n ≡ is_some (there n)

-- a ledger that is known is the store's
abbrev pub IsLedgerOf : Option Tokens → Store → Type 0
IsLedgerOf None store = ⊤
IsLedgerOf (Some tokens) store = tokens ≡ store.tokens

-- what is known agrees with a store
pub record Agrees (known : Known) (store : Store) : Type 0 where
  pub ledger : IsLedgerOf known.ledger store
  pub names : (k : Kind) → AreThere (names_of known k) (store.objects k)

-- nothing is known
abbrev pub nothing : Known
nothing = record { ledger = None; packs = None; indexes = None; snapshots = None }

-- of known names one is there, or not, from now on
abbrev pub Changes : Names → Name → Bool → Names → Type 0
Changes None name there new = new ≡ None
Changes (Some has) name there new = (now : Name → Bool) × (new ≡ Some now) × (now name ≡ there) × ((n : Name) → (n ≡ name) ⊎ (now n ≡ has n))

-- a name wasn't known to be there
abbrev pub WasNew : Names → Name → Bool → Type 0
WasNew None name added = added ≡ false
WasNew (Some has) name added = added ≡ not (has name)

-- all else that is known stays
pub record KeepsOthers (old : Known) (kind : Kind) (new : Known) : Type 0 where
  pub others : (k : Kind) → (k ≡ kind) ⊎ (names_of new k ≡ names_of old k)
  pub ledger : new.ledger ≡ old.ledger

-- all that is known stays
pub record StaysKnown (old new : Known) : Type 0 where
  pub names : (k : Kind) → names_of new k ≡ names_of old k
  pub ledger : new.ledger ≡ old.ledger

-- the names of a page joined a set
pub record PageJoins (page : List Name) (old new : NameSet) : Type 0 where
  pub stay : (n : Name) → is_in old n ≡ true → is_in new n ≡ true
  pub join : (n : Name) → Has page n → is_in new n ≡ true
  pub only : (n : Name) → is_in new n ≡ true → (is_in old n ≡ true) ⊎ Has page n

-- the inner shelf armed anew, and nothing else changed
abbrev pub armed_as : {S : Type 0} → Armed → Kept (FaultShelf S) → Kept (FaultShelf S)
armed_as armed kept = record { inner = record { inner = kept.inner.inner; armed = armed; count = kept.inner.count }; known = kept.known; alloc = kept.alloc }

-- a reading call that gives all names of a kind
abbrev pub ReadsNames : Kind → Store → Result NameSet ShelfError → Store → Type 0
ReadsNames kind old result new = Reads (λ names. AreThere (Some (is_in names)) (old.objects kind)) old result new
