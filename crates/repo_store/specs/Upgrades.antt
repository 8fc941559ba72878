-- What an upgrade does to a store's config.
use Rattle.std.specs.Prelude.{◌≡◌, ◌⊎◌, List, ℕ, Option, Some, None}
use Rattle.repo_wire.specs.declared.messages.Code.{Code}
use Rattle.repo_wire.specs.declared.messages.Say.{Say}
use Rattle.repo_tree.specs.ConfigText.{IsConfigText, config_text, upgraded}
use Rattle.repo_tree.specs.declared.configs.Config.{Config}
use Rattle.repo_store.specs.Stores.{Store, SavesConfig}
use Rattle.repo_store.specs.declared.upgrades.Due.{Due}

-- the text is that of a config of version 2
abbrev pub IsRaisedText : List ℕ → Type 0
IsRaisedText text = (config : Config) × IsConfigText text config × (config.version ≡ 2)

-- the store's config is of version 2
abbrev pub IsRaised : Store → Type 0
IsRaised store = (text : List ℕ) × (store.config ≡ Some text) × IsRaisedText text

-- the text is that of a config of version 1; this one is the written text of the same values with version 2, and reads as them
pub record IsUpgradeOf (text anew : List ℕ) : Type 0 where
  pub config : Config
  pub reads : IsConfigText text config
  pub first : config.version ≡ 1
  pub written : anew ≡ config_text (upgraded config)
  pub again : IsConfigText anew (upgraded config)

-- what is said of a config that is to be of version 2: there is none; or it doesn't read; or it is so already; or it is written anew
abbrev pub RaiseAnswer : Option (List ℕ) → Store → Say → Store → Type 0
RaiseAnswer None old say new = (say ≡ Say.Refused Code.Missing) × (new ≡ old)
RaiseAnswer (Some text) old say new =
    (((config : Config) → ¬ IsConfigText text config) × (say ≡ Say.Refused Code.Malformed) × (new ≡ old))
    ⊎ ((IsRaisedText text × (say ≡ Say.Done) × (new ≡ old))
    ⊎ ((say ≡ Say.Done) × ((anew : List ℕ) × IsUpgradeOf text anew × SavesConfig anew old new)))

-- what is to be done with a config for that, or why nothing can be
abbrev pub IsDue : Option (List ℕ) → Due → Type 0
IsDue None due = due ≡ Due.Refuse Code.Missing
IsDue (Some text) (Due.Save anew) = IsUpgradeOf text anew.items
IsDue (Some text) Due.Nothing = IsRaisedText text
IsDue (Some text) (Due.Refuse code) = (code ≡ Code.NoMemory) ⊎ ((code ≡ Code.Malformed) × ((config : Config) → ¬ IsConfigText text config))
