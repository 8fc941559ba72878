-- What an upgrade does.
use Rattle.std.proofs.Common.{◌≡◌, ◌⊎◌, inl, inr, ℕ, true, List, refl, subst, Option, Some, None}
use Rattle.repo_name.specs.declared.tokens.Token.{Token}
use Rattle.repo_wire.specs.declared.messages.Say.{Say}
use Rattle.repo_locks.specs.TokenMachine.{live_as}
use Rattle.repo_store.specs.StoreMachine.{UpgradeAnswer}
use Rattle.repo_tree.specs.ConfigText.{IsConfigText, config_text, upgraded}
use Rattle.repo_tree.specs.declared.configs.Config.{Config}
use Rattle.repo_store.specs.Stores.{Store, SavesConfig}
use Rattle.repo_store.specs.Upgrades.{RaiseAnswer}

-- the config was of version 1, and is written anew
pub record Raises (old new : Store) : Type 0 where
  pub text : List ℕ
  pub config : Config
  pub was : old.config ≡ Some text
  pub reads : IsConfigText text config
  pub first : config.version ≡ 1
  pub anew : IsConfigText (config_text (upgraded config)) (upgraded config)
  pub saves : SavesConfig (config_text (upgraded config)) old new

raised : (old : Store) (say : Say) (new : Store) (found : Option (List ℕ)) → old.config ≡ found → RaiseAnswer found old say new → (new ≡ old) ⊎ Raises old new
raised old say new None is h = inl h.1
raised old say new (Some text) is (inl h) = inl h.2
raised old say new (Some text) is (inr (inl h)) = inl h.2
raised old say new (Some text) is (inr (inr h)) =
    let r = h.1.1 in inr (record {
      text = text;
      config = r.config;
      was = is;
      reads = r.reads;
      first = r.first;
      anew = subst (λ x. IsConfigText x (upgraded r.config)) r.written r.again;
      saves = subst (λ x. SavesConfig x old new) r.written h.1.2;
    })

-- nothing changes, or the token is live and exclusive and the config is raised
pub upgrade_does : (old : Store) (token : Token) (say : Say) (new : Store) → UpgradeAnswer old token say new → (new ≡ old) ⊎ ((live_as old.tokens token ≡ Some true) × Raises old new)
upgrade_does old token say new (inl h) = inl h.2
upgrade_does old token say new (inr (inl h)) = inl h.2
upgrade_does old token say new (inr (inr h)) = go (raised old say new old.config refl h.1) where
  go : (new ≡ old) ⊎ Raises old new → (new ≡ old) ⊎ ((live_as old.tokens token ≡ Some true) × Raises old new)
  go (inl same) = inl same
  go (inr r) = inr (h.0, r)
