use Rattle.std.proofs.Common.{◌<◌, ◌+◌, ◌∷◌, ◌++◌, [], ℕ, List, length, take, get_or, Result, refl, sym, subst}
use Rattle.std.proofs.lemmas.List.{take_more}
use Rattle.repo_store.specs.declared.shelves.ShelfError.{ShelfError}
use Rattle.repo_folder.specs.Lives.{Moment, Turns, Lives}
use Rattle.repo_folder.specs.declared.turns.Turn.{Turn}

lives_then : (old mid new : Moment) (turns : List Turn) (told : List (Result (Unit {0}) ShelfError)) (turn : Turn) (tells : Result (Unit {0}) ShelfError)
    → Lives old turns told mid → Turns mid turn tells new → Lives old (turns ++ turn ∷ []) (told ++ tells ∷ []) new
lives_then old mid new [] [] turn tells same step = (new, subst (λ s. Turns s turn tells new) same step, refl)
lives_then old mid new [] (r ∷ rs) turn tells none step = absurd none
lives_then old mid new (t ∷ ts) [] turn tells none step = absurd none
lives_then old mid new (t ∷ ts) (r ∷ rs) turn tells l step = (l.0, l.1, lives_then l.0 mid new ts rs turn tells l.2 step)

-- one turn more
pub lives_more : (old mid new : Moment) (turns : List Turn) (i : ℕ) (d : Turn) (told : List (Result (Unit {0}) ShelfError)) (tells : Result (Unit {0}) ShelfError) → i < length turns
    → Lives old (take i turns) told mid → Turns mid (get_or turns i d) tells new → Lives old (take (i + 1) turns) (told ++ tells ∷ []) new
lives_more old mid new turns i d told tells less l step =
    subst (λ ts. Lives old ts (told ++ tells ∷ []) new) (sym (take_more turns i d less)) (lives_then old mid new (take i turns) told (get_or turns i d) tells l step)
