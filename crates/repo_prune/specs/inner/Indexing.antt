-- How packs are listed in new indexes.
use Rattle.std.specs.Prelude.{◌≡◌, ◌≢◌, ◌≤◌, ◌<◌, ◌⊎◌, [], ℕ, Bool, List, length, take, Contains, ◌++◌, ◌∷◌}
use Rattle.std.specs.Ordering.{is_lt}
use Rattle.repo_name.specs.Limits.{blobs_limit, facts_limit}
use Rattle.repo_name.specs.Naming.{name_cmp}
use Rattle.repo_index.specs.IndexText.{facts_in}
use Rattle.repo_index.specs.declared.facts.PackFacts.{PackFacts}
use Rattle.repo_name.specs.declared.kinds.Kind.{Kind}
use Rattle.repo_name.specs.declared.tokens.Token.{Token}
use Rattle.repo_session.specs.declared.jobs.Step.{Step}
use Rattle.repo_name.specs.declared.names.Name.{Name}
use Rattle.repo_wire.specs.declared.messages.Ask.{Ask}

-- the first packs go into one index: as many as it takes to have 20,000 blobs, or all
pub record IsIndexCut (packs : List PackFacts) (taken : ℕ) : Type 0 where
  pub within : taken ≤ length packs
  pub some : packs ≢ [] → 1 ≤ taken
  pub before : (fewer : ℕ) → fewer < taken → length (facts_in (take fewer packs)) < facts_limit
  pub full : (taken ≡ length packs) ⊎ (facts_limit ≤ length (facts_in (take taken packs)))

-- each has 4,096 blobs at most
abbrev pub AreSmall : List PackFacts → Type 0
AreSmall packs = (listed : PackFacts) → Contains packs listed → length listed.facts ≤ blobs_limit

-- a pack stands before another by their names
abbrev pub is_before : PackFacts → PackFacts → Bool
is_before a b = is_lt (name_cmp a.pack b.pack)

-- the name of the object that a step puts comes to the names
abbrev pub NotesIndex : Step → List Name → List Name → Type 0
NotesIndex step old new = (token : Token) (kind : Kind) (name : Name) (bytes : List ℕ) → step ≡ Step.Ask (Ask.Put token kind name bytes) → new ≡ old ++ name ∷ []
