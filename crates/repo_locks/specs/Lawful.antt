use Rattle.std.specs.Prelude.{◌≡◌, ◌≤◌, ◌<◌, ◌^◌, ◌∷◌, [], ⊤, ℕ, true, List, length, All, None}
use Rattle.repo_name.specs.Rows.{IsRow}
use Rattle.repo_name.specs.declared.tokens.Token.{Token}
use Rattle.repo_locks.specs.TokenMachine.{Tokens, fresh_limit, live_limit, is_fresh, live_as, has_exclusive, tokens_of}

-- tokens ascend, all above one number and below another
abbrev pub Ascends : ℕ → ℕ → List Token → Type 0
Ascends low high [] = ⊤
Ascends low high (t ∷ ts) = (low < t.0) × (t.0 < high) × Ascends t.0 high ts

-- a lawful ledger, as every ledger of a program is
pub record IsLedger (l : Tokens) : Type 0 where
  pub first : 1 ≤ l.next
  pub last : l.next < 2 ^ 64
  pub fresh : Ascends 0 l.next l.fresh
  pub few_fresh : length l.fresh ≤ fresh_limit
  pub live : Ascends 0 l.next (tokens_of l.live)
  pub few_live : length l.live ≤ live_limit
  pub apart : (t : Token) → is_fresh l t ≡ true → live_as l t ≡ None
  pub alone : has_exclusive l.live ≡ true → length l.live ≡ 1
  pub rows : All IsRow l.live
