-- Lines of a script, one after another.
use Rattle.std.proofs.Common.{◌≡◌, ◌+◌, ◌++◌, ◌∷◌, [], ℕ, Bool, List, length, refl, sym, ap, subst, ◌∙◌, append_assoc, append-nil, arith}
use Rattle.repo_world.specs.Rules.{AllAreRuled}
use Rattle.repo_play.specs.Lines.{IsFreshScript, State}
use Rattle.repo_play.specs.Plays.{LineSays, SayAll}
use Rattle.repo_play.specs.declared.grammars.Grammar.{Grammar}

pub say_more : (grammar : Grammar) (n : ℕ) (lines : List (List ℕ)) (bytes : List ℕ) (s u t : State) (text more : List ℕ)
    → SayAll grammar n lines s text u → LineSays grammar (n + length lines) bytes u more t → AllAreRuled t.world → SayAll grammar n (lines ++ bytes ∷ []) s (text ++ more) t
say_more grammar n [] bytes s u t text more h says ruled =
    let here = subst (λ (x : State). LineSays grammar (n + 0) bytes x more t) h.1 says in
    let at = subst (λ m. LineSays grammar m bytes s more t) (omega arith) here in
    (t, more, [], at, (refl, refl), ap (λ x. x ++ more) h.0 ∙ sym (append-nil more), ruled)
say_more grammar n (line ∷ lines) bytes s u t text more h says ruled =
    let at = subst (λ m. LineSays grammar m bytes u more t) (omega arith) says in
    (h.0, h.1, h.2 ++ more, h.3, say_more grammar (n + 1) lines bytes h.0 u t h.2 more h.4 at ruled, ap (λ x. x ++ more) h.5 ∙ append_assoc h.1 h.2 more, h.6)

-- ---- each client goes by its rule

pub fresh_ruled : (appends : Bool) (s : State) → IsFreshScript appends s → AllAreRuled s.world
fresh_ruled appends s f = subst AllAreRuled (sym f.world) tt

pub said_ruled : (grammar : Grammar) (n : ℕ) (lines : List (List ℕ)) (s : State) (text : List ℕ) (t : State) → AllAreRuled s.world → SayAll grammar n lines s text t → AllAreRuled t.world
said_ruled grammar n [] s text t ruled h = subst (λ (x : State). AllAreRuled x.world) (sym h.1) ruled
said_ruled grammar n (line ∷ lines) s text t ruled h = said_ruled grammar (n + 1) lines h.0 h.2 t h.6 h.4
