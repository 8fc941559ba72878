-- What the words of a command ask for, as `clap` read them.
use Rattle.std.specs.Prelude.{◌≡◌, ◌≢◌, ◌⊎◌, ◌↔◌, ◌<◌, ◌^◌, ◌*◌, ⊤, ℕ, Bool, true, false, [], List, map, Option, Some, None, Result, Ok, Err, IfSome, option_map, unwrap_or, codes, string_bytes}
use Rattle.std.specs.Duration.{as_nanos}
use Rattle.std.specs.Str.Parse.{IsNumeral, digits_value, without_leading_plus}
use Rattle.std.specs.declared.time.Duration.{Duration}
use Rattle.clap.specs.Matches.{found_of, first_value, matched_of, one_text, raw_values}
use Rattle.clap.specs.Faults.{fault_of}
use Rattle.clap.specs.Kinds.{IsAmong}
use Rattle.clap.specs.Simple.{subcommand_of}
use Rattle.clap.specs.Values.{kind_of}
use Rattle.clap.specs.Words.{rows_of}
use Rattle.clap.specs.declared.parser.matches.ArgMatches.{ArgMatches}
use Rattle.repo_name.specs.Naming.{hex_of}
use Rattle.repo_prune.specs.declared.choices.Choice.{Choice}
use Rattle.repo_prune.specs.declared.keeping.Policy.{Policy}
use Rattle.repo_prog.specs.Commands.{errand_word}
use Rattle.repo_prog.specs.Spelled.{vault_app}
use Rattle.repo_prog.specs.declared.errands.Errand.{Errand}
use Rattle.repo_prog.specs.declared.errands.LockErrand.{LockErrand}
use Rattle.repo_prog.specs.declared.serve.Serving.{Serving}
use Rattle.repo_prog.specs.declared.words.Making.{Making}
use Rattle.repo_prog.specs.declared.words.Order.{Order}
use Rattle.repo_prog.specs.declared.words.OrderError.{OrderError}
use Rattle.repo_prog.specs.declared.words.WordsError.{WordsError}

-- a flag is given, or isn't
abbrev pub IsFlag : ArgMatches → List ℕ → Bool → Type 0
IsFlag words name true = (text : List ℕ) × (one_text (found_of words) name ≡ Some text) × (text ≢ codes "false")
IsFlag words name false = one_text (found_of words) name ≢ Some (codes "true")

-- the word of this name is this text
abbrev pub IsWord : ArgMatches → List ℕ → List ℕ → Type 0
IsWord words name text = first_value (found_of words) name ≡ Some text

-- the digits of the word of this name are this number's
abbrev pub IsNumber : ArgMatches → List ℕ → ℕ → Type 0
IsNumber words name number = (digits : List ℕ) × (one_text (found_of words) name ≡ Some digits) × (number ≡ digits_value 10 (without_leading_plus digits))

-- the words of this name
abbrev pub words_of : ArgMatches → List ℕ → List (List ℕ)
words_of words name = unwrap_or (option_map raw_values (matched_of (found_of words) name)) []

-- a policy's counts are those of the words
abbrev pub IsPolicyOf : ArgMatches → Policy → Type 0
IsPolicyOf words policy = IsNumber words (codes "keep-last") policy.last × IsNumber words (codes "keep-daily") policy.daily

-- the words choose these snapshots: those of the names that they spell, where there are any, and no host and no count beside them; or by a policy, of one
-- host or of all
abbrev pub Chooses : ArgMatches → Choice → Type 0
Chooses words (Choice.Names names) = (words_of words (codes "NAME") ≡ map hex_of names) × (names ≢ []) × (first_value (found_of words) (codes "host") ≡ None)
    × IsNumber words (codes "keep-last") 0 × IsNumber words (codes "keep-daily") 0
Chooses words (Choice.Keep policy) = (words_of words (codes "NAME") ≡ []) × IsPolicyOf words policy × (first_value (found_of words) (codes "host") ≡ None)
Chooses words (Choice.KeepOf host policy) = (words_of words (codes "NAME") ≡ []) × IsPolicyOf words policy × IsWord words (codes "host") host

-- a time after which an idle connection ends is so many seconds, and there is none where they are 0
abbrev pub IsIdleOf : ArgMatches → Option Duration → Type 0
IsIdleOf words idle = (seconds : ℕ) × IsNumber words (codes "idle") seconds × ((idle ≡ None) ↔ (seconds ≡ 0)) × IfSome idle (λ time. as_nanos time ≡ seconds * 1_000_000_000)

-- the word of this name spells a number of 64 bits
abbrev pub HasNumber : ArgMatches → List ℕ → Type 0
HasNumber words name = (digits : List ℕ) × (one_text (found_of words) name ≡ Some digits) × IsNumeral 10 (without_leading_plus digits)
    × (digits_value 10 (without_leading_plus digits) < 2 ^ 64)

-- a job connects again so often at most as the words say, where they have a number for that, and else never
abbrev pub IsRetryOf : ArgMatches → ℕ → Type 0
IsRetryOf words retry = IsNumber words (codes "retry") retry ⊎ ((retry ≡ 0) × ¬ HasNumber words (codes "retry"))

-- the words of an errand's command ask for it
abbrev pub AskFor : ArgMatches → Errand → Type 0
AskFor words (Errand.Backup host folder) = IsWord words (codes "HOST") host × IsWord words (codes "PATH") (string_bytes folder)
AskFor words Errand.Snapshots = ⊤
AskFor words (Errand.Restore name folder) = IsWord words (codes "NAME") (hex_of name) × IsWord words (codes "DIR") (string_bytes folder)
AskFor words (Errand.Forget choice) = IsFlag words (codes "dry-run") false × Chooses words choice
AskFor words (Errand.Foresee choice) = IsFlag words (codes "dry-run") true × Chooses words choice
AskFor words Errand.Prune = ⊤
AskFor words Errand.Upgrade = ⊤
AskFor words Errand.Check = ⊤
AskFor words (Errand.Locks LockErrand.List) = ⊤
AskFor words (Errand.Locks (LockErrand.Refresh token)) = IsNumber words (codes "TOKEN") token.0
AskFor words (Errand.Locks (LockErrand.Remove all)) = IsFlag words (codes "remove-all") all

-- a store is served as the words say
pub record IsServingOf (words : ArgMatches) (serving : Serving) : Type 0 where
  pub connections : IsNumber words (codes "connections") serving.connections
  pub at_once : IsNumber words (codes "at-once") serving.at_once
  pub memory : IsNumber words (codes "memory") serving.memory
  pub idle : IsIdleOf words serving.idle
  pub append_only : IsFlag words (codes "append-only") serving.append_only

-- a store is made as the words say
pub record IsMakingOf (words : ArgMatches) (making : Making) : Type 0 where
  pub min : IsNumber words (codes "min") making.params.min
  pub max : IsNumber words (codes "max") making.params.max
  pub bits : IsNumber words (codes "bits") making.params.bits
  pub target : IsNumber words (codes "target") making.target
  pub version : IsNumber words (codes "format") making.version

-- the words of a command give this order: an order that has none is given by any
abbrev pub AreOrdering : ArgMatches → Order → Type 0
AreOrdering words Order.Frames = ⊤
AreOrdering words Order.Play = ⊤
AreOrdering words Order.Loop = ⊤
AreOrdering words (Order.Init folder making) = IsWord words (codes "DIR") (string_bytes folder) × IsMakingOf words making
AreOrdering words (Order.Serve folder address serving) = IsWord words (codes "DIR") (string_bytes folder) × IsWord words (codes "ADDR") (string_bytes address) × IsServingOf words serving
AreOrdering words (Order.Client address errand retry idle) =
    IsWord words (codes "ADDR") (string_bytes address) × AskFor words errand × IsRetryOf words retry × IsIdleOf words idle

-- the word of an order's command
abbrev pub order_word : Order → List ℕ
order_word Order.Frames = codes "frames"
order_word Order.Play = codes "play"
order_word Order.Loop = codes "loop"
order_word (Order.Init folder making) = codes "init"
order_word (Order.Serve folder address serving) = codes "serve"
order_word (Order.Client address errand retry idle) = errand_word errand

-- the words of the command line, the program's name first, spell an order: by the program's commands `clap` reads its word and words of its command in them,
-- and these ask for it
pub record IsSpelledBy (line : List (List ℕ)) (order : Order) : Type 0 where
  pub words : ArgMatches
  pub read : subcommand_of vault_app line ≡ Some (order_word order, rows_of (found_of words))
  pub asked : AreOrdering words order

-- why they make no order: `clap` finds a fault of this kind in them, help and the version among these; or it finds none, and the words of the command ask for
-- nothing; or there is no memory
abbrev pub IsRefusalOf : List (List ℕ) → OrderError → Type 0
IsRefusalOf line (OrderError.Clap error) = IsAmong (kind_of error) (fault_of vault_app line)
IsRefusalOf line (OrderError.Words WordsError.BadArgument) = fault_of vault_app line ≡ []
IsRefusalOf line (OrderError.Words WordsError.NamesAndPolicy) = fault_of vault_app line ≡ []
IsRefusalOf line (OrderError.Words WordsError.Memory) = ⊤

-- what the words of the command line come to
abbrev pub ReadsAs : List (List ℕ) → Result Order OrderError → Type 0
ReadsAs line (Ok order) = IsSpelledBy line order
ReadsAs line (Err error) = IsRefusalOf line error
