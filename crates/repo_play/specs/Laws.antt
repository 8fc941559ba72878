-- What holds of all scripts.
use Rattle.std.specs.Prelude.{ℕ, List, Option, Ok}
use Rattle.repo_world.specs.Stages.{IsReachable}
use Rattle.repo_play.specs.Lines.{State}
use Rattle.repo_play.specs.Plays.{Played, Plays}
use Rattle.repo_play.specs.declared.grammars.Grammar.{Grammar}

-- wherever the lines of a script lead to, a run of events leads there too, from a store without objects
abbrev pub ScriptsAreRuns : Type 0
ScriptsAreRuns = (grammar : Grammar) (input : List ℕ) (done left : List (List ℕ)) (text : List ℕ) (s : State) → Played grammar input done left text s → IsReachable s.world

-- what a script prints whose messages are carried, it prints where nothing carries them
abbrev pub CarriedIsPlayed : Type 0
CarriedIsPlayed = (input : List ℕ) (unread start contents : Option (List ℕ)) → Plays Grammar.Carried input unread start (Ok (record {})) contents
    → Plays Grammar.Whole input unread start (Ok (record {})) contents
