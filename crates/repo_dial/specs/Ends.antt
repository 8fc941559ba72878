-- The ends of a connection, and what goes over it.
use Rattle.std.specs.Prelude.{◌≡◌, ◌++◌, ◌∷◌, [], ⊤, ℕ, List, Option, Some, None}
use Rattle.std.proofs.Common.{sym, subst}
use Rattle.std.specs.Io.KnownBytes.{Appends, Consumes}
use Rattle.std.proofs.KnownBytes.{Appends-nil, Consumes-nil}
use Rattle.repo_store.specs.Channels.{Passage, heard, said, heard_in, said_in}

-- the ends of a connection: what will still be heard, what was said, and what went over it, the newest first, where each of these is known
pub record ConnectionEnds : Type 0 where
  pub ahead : Option (List ℕ)
  pub sent : Option (List ℕ)
  pub passages : Option (List Passage)

-- those of a reader and a writer apart, which tell no order
abbrev pub apart : Option (List ℕ) → Option (List ℕ) → ConnectionEnds
apart ahead sent = record { ahead = ahead; sent = sent; passages = None }

-- where it is known which passages went over it in the end, it was before, and these are before those
abbrev pub Records : Option (List Passage) → List Passage → Option (List Passage) → Type 0
Records old passages None = ⊤
Records None passages (Some new) = ⊥
Records (Some old) passages (Some new) = new ≡ passages ++ old

-- Over a connection these passages went, the newest first, and nothing else: what was heard by them was ahead, what was said by them stands behind what
-- was said before, and they are recorded.
pub record GoesBy (came : ConnectionEnds) (passages : List Passage) (left : ConnectionEnds) : Type 0 where
  pub read : Consumes came.ahead left.ahead (heard_in passages)
  pub sent : Appends came.sent left.sent (said_in passages)
  pub recorded : Records came.passages passages left.passages

-- a reader and a writer apart go on so
pub heard_apart : (a b c d : Option (List ℕ)) (bytes : List ℕ) → Consumes a b bytes → d ≡ c → GoesBy (apart a c) (heard bytes ∷ []) (apart b d)
heard_apart a b c d bytes read same = record { read = read; sent = subst (λ x. Appends c x []) (sym same) (Appends-nil c); recorded = tt }

pub said_apart : (a b c d : Option (List ℕ)) (bytes : List ℕ) → b ≡ a → Appends c d bytes → GoesBy (apart a c) (said bytes ∷ []) (apart b d)
said_apart a b c d bytes same sent = record { read = subst (λ x. Consumes a x []) (sym same) (Consumes-nil a); sent = sent; recorded = tt }
