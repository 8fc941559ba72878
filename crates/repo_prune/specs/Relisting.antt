-- How a prune puts its new indexes.
use Rattle.std.specs.Prelude.{◌≡◌, ◌≢◌, ◌≤◌, ◌⊎◌, ◌++◌, ◌∷◌, [], ⊤, ℕ, List, length, take, Option, Some, None, Contains}
use Rattle.repo_name.specs.Limits.{blobs_limit, facts_limit, index_limit}
use Rattle.repo_name.specs.Naming as naming
use Rattle.repo_name.specs.declared.kinds.Kind.{Kind}
use Rattle.repo_name.specs.declared.tokens.Token.{Token}
use Rattle.repo_pack.specs.PackLayout.{IsWithin}
use Rattle.repo_index.specs.IndexText.{IsIndexText, facts_in}
use Rattle.repo_index.specs.IndexWriting.{AreFew, index_text}
use Rattle.repo_index.specs.declared.facts.Fact.{Fact}
use Rattle.repo_index.specs.declared.facts.PackFacts.{PackFacts}
use Rattle.repo_wire.specs.declared.messages.Ask.{Ask}
use Rattle.repo_session.specs.declared.jobs.Step.{Step}
use Rattle.repo_session.specs.Jobs.{IsShortStep}
use Rattle.repo_prune.specs.Pruning.{AreCutInTime}
use Rattle.repo_prune.specs.declared.relisting.Relisting.{Relisting}

-- a pack may be listed with 1 to 4,096 facts of it, within range
pub record IsListable (listed : PackFacts) : Type 0 where
  pub some : 1 ≤ length listed.facts
  pub few : length listed.facts ≤ blobs_limit
  pub within : (fact : Fact) → Contains listed.facts fact → (fact.place.pack ≡ listed.pack) × IsWithin fact.place.offset fact.place.length

-- each of them may
abbrev pub AreListable : List PackFacts → Type 0
AreListable packs = (listed : PackFacts) → Contains packs listed → IsListable listed

-- the same packs, as many of them listed, by the same indexes
pub record IsSameRelisting (old new : Relisting) : Type 0 where
  pub packs : new.packs.items ≡ old.packs.items
  pub listed : new.listed ≡ old.listed
  pub indexes : new.indexes.items ≡ old.indexes.items
  pub counts : new.counts ≡ old.counts

-- an index of the packs behind those that are listed is put, the written text of these packs, which has 20,000 blobs or more, and without its last pack fewer,
-- or all packs are listed with it, and 24,095 at most; and its name is noted
pub record PutsNext (old : Relisting) (token : Token) (step : Step) (new : Relisting) : Type 0 where
  pub waiting : List PackFacts
  pub text : List ℕ
  pub reads : IsIndexText text waiting
  pub written : text ≡ index_text waiting
  pub some : waiting ≢ []
  pub few : AreFew waiting
  pub short : length text ≤ index_limit
  pub behind : take new.listed new.packs.items ≡ take old.listed old.packs.items ++ waiting
  pub cut : AreCutInTime waiting
  pub full : (facts_limit ≤ length (facts_in waiting)) ⊎ (length new.packs.items ≤ new.listed)
  pub puts : step ≡ Step.Ask (Ask.Put token Kind.Index (naming.name text) text)
  pub named : new.indexes.items ≡ old.indexes.items ++ naming.name text ∷ []
  pub packs : new.packs.items ≡ old.packs.items
  pub counts : new.counts ≡ old.counts

-- the next index is put; or all packs are listed
abbrev pub Relists : Relisting → Token → Option Step → Relisting → Type 0
Relists old token None new = (length old.packs.items ≤ old.listed) × IsSameRelisting old new
Relists old token (Some step) new = AreListable old.packs.items → PutsNext old token step new

-- what is asked next fits a frame
abbrev pub IsShortRelisting : Option Step → Type 0
IsShortRelisting None = ⊤
IsShortRelisting (Some step) = IsShortStep step
