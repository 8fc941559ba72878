-- When a pack is full, and an index.
use Rattle.std.specs.Prelude.{◌≡◌, ◌≤◌, ◌++◌, ◌∷◌, [], ℕ, List, length}
use Rattle.repo_name.specs.Limits.{facts_limit}
use Rattle.repo_wire.specs.declared.messages.Ask.{Ask}
use Rattle.repo_wire.specs.declared.messages.Say.{Say}
use Rattle.repo_pack.specs.PackLayout.{Item}
use Rattle.repo_pack.specs.PackWriting.{IsDue, IsOpen}
use Rattle.repo_index.specs.IndexText.{IsIndexText, facts_in}
use Rattle.repo_index.specs.declared.facts.PackFacts.{PackFacts}
use Rattle.repo_tree.specs.ConfigText.{IsConfigText}
use Rattle.repo_tree.specs.declared.configs.Config.{Config}
use Rattle.repo_session.specs.Traces.{Trace, Exchanged}
use Rattle.repo_session.specs.Versions.{upto}
use Rattle.repo_session.specs.declared.versions.Versions.{Versions}

-- the config was read, and is of a version that jobs know which put packs
pub record HasConfig (es : Trace) (config : Config) : Type 0 where
  pub text : List ℕ
  pub read : Exchanged es Ask.Config (Say.Bytes text)
  pub reads : IsConfigText text config
  pub known : config.version ≤ upto Versions.Both

-- a pack that wants so many bytes was open before the last of these blobs
abbrev pub WasOpen : ℕ → List Item → Type 0
WasOpen target items = (before : List Item) × (last : Item) × (items ≡ before ++ last ∷ []) × IsOpen (record { items = before; target = target })

-- it is due with its last blob, and wasn't before
abbrev pub IsJustDue : ℕ → List Item → Type 0
IsJustDue target items = IsDue (record { items = items; target = target }) × WasOpen target items

-- by the config that was read a pack was open before the last of its blobs: it is sealed as soon as it is due
abbrev pub IsPromptPack : Trace → List Item → Type 0
IsPromptPack es items = (config : Config) × HasConfig es config × WasOpen config.target items

-- by that config it is due: its blobs reach what the config wants of a pack, or are as many as a pack may have
abbrev pub IsFullPack : Trace → List Item → Type 0
IsFullPack es items = (config : Config) × HasConfig es config × IsDue (record { items = items; target = config.target })

-- an index lists 20,000 blobs or more
abbrev pub IsFullIndex : List ℕ → Type 0
IsFullIndex x = (packs : List PackFacts) × IsIndexText x packs × (facts_limit ≤ length (facts_in packs))
