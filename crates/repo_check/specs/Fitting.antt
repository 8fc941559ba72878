-- Whether an index fits the packs that it names, by the facts of those packs.
use Rattle.std.specs.Prelude.{◌≡◌, ◌≢◌, ◌⊎◌, ◌∷◌, [], ℕ, List, Option, Some, None, Contains, cond}
use Rattle.std.specs.Ordering.{is_eq}
use Rattle.repo_name.specs.Naming.{name_cmp}
use Rattle.repo_name.specs.declared.kinds.Kind.{Kind}
use Rattle.repo_name.specs.declared.names.Name.{Name}
use Rattle.repo_pack.specs.PackLayout.{Item, IsTruePack}
use Rattle.repo_index.specs.IndexText.{facts_in}
use Rattle.repo_index.specs.Lookups.{Joins, AreFactsOf}
use Rattle.repo_index.specs.declared.facts.Fact.{Fact}
use Rattle.repo_index.specs.declared.facts.PackFacts.{PackFacts}
use Rattle.repo_check.specs.Answers.{Gathered, Came}
use Rattle.repo_check.specs.Arrivals.{AreToldOf}
use Rattle.repo_check.specs.Gathering.{well_noted}
use Rattle.repo_check.specs.Rounds.{RoundView}
use Rattle.repo_check.specs.declared.rounds.Note.{Note}

-- the facts of each pack that came and reads
abbrev pub FactsOfPacks : Type 0
FactsOfPacks = Name → Option (List Fact)

-- the facts of packs, by their names and by what was noted of the first of them
abbrev pub facts_at : List Name → List (Note (List Fact)) → FactsOfPacks
facts_at [] notes pack = None
facts_at (n ∷ names) [] pack = None
facts_at (n ∷ names) (note ∷ notes) pack = cond (is_eq (name_cmp n pack)) (well_noted note) (facts_at names notes pack)

-- by a round over packs
abbrev pub facts_by : RoundView (List Fact) → FactsOfPacks
facts_by round = facts_at round.names round.notes

-- the pack's facts are known: those of the pack that came; none came, where there are none
abbrev pub IsKnownAs : Gathered → Name → Option (List Fact) → Type 0
IsKnownAs answers pack (Some facts) = (x : List ℕ) × (items : List Item) × Came (answers.objects Kind.Pack) pack x × IsTruePack x items × AreToldOf pack items facts
IsKnownAs answers pack None = (x : List ℕ) (items : List Item) → Came (answers.objects Kind.Pack) pack x → ¬ IsTruePack x items

-- so are those of all packs
abbrev pub AreKnown : Gathered → FactsOfPacks → Type 0
AreKnown answers packs = (pack : Name) → IsKnownAs answers pack (packs pack)

-- an index of these facts lists the pack with the facts that are known of it
abbrev pub ListsAsKnown : List Fact → FactsOfPacks → Name → Type 0
ListsAsKnown facts packs pack = (own : List Fact) × (packs pack ≡ Some own) × AreFactsOf facts pack own

-- it doesn't: none are known, or others
abbrev pub ListsOtherwise : List Fact → FactsOfPacks → Name → Type 0
ListsOtherwise facts packs pack = (packs pack ≡ None) ⊎ ((own : List Fact) × (known : List Fact) × (packs pack ≡ Some known) × AreFactsOf facts pack own × (own ≢ known))

-- each of some packs is; and one of them isn't
abbrev pub AllListedAsKnown : List Fact → FactsOfPacks → List Name → Type 0
AllListedAsKnown own facts packs = (pack : Name) → Contains packs pack → ListsAsKnown own facts pack

abbrev pub OneIsListedOtherwise : List Fact → FactsOfPacks → List Name → Type 0
OneIsListedOtherwise own facts packs = (pack : Name) × Contains packs pack × ListsOtherwise own facts pack

-- an index lists each pack that it names so
pub record Fits (text : List PackFacts) (packs : FactsOfPacks) : Type 0 where
  pub facts : List Fact
  pub joined : Joins [] (facts_in text) facts
  pub each : (fact : Fact) → Contains (facts_in text) fact → ListsAsKnown facts packs fact.place.pack

-- or it names one that it lists otherwise
pub record Misfits (text : List PackFacts) (packs : FactsOfPacks) : Type 0 where
  pub facts : List Fact
  pub joined : Joins [] (facts_in text) facts
  pub fact : Fact
  pub among : Contains (facts_in text) fact
  pub otherwise : ListsOtherwise facts packs fact.place.pack
