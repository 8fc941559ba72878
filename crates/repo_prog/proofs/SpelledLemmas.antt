-- A command that gets more words, and a program that gets more commands.
use Rattle.std.proofs.Common.{◌≡◌, ◌||◌, ◌++◌, ◌∷◌, [], List, Option, Some, None, Result, IfOk, IsSomeAnd, false, true, Bool, refl, ap, ◌∙◌}
use Rattle.std.proofs.lemmas.List.{append_assoc}
use Rattle.std.proofs.lemmas.Result.{IfOk-weaker}
use Rattle.clap.specs.Built.{AddsArg, AddsSubcommand}
use Rattle.clap.specs.Simple.{App, Shape, app_of, on_top, with_rule, with_subcommand}
use Rattle.clap.specs.Walk.{Rule, Text}
use Rattle.clap.specs.declared.builder.arg.Arg.{Arg}
use Rattle.clap.specs.declared.builder.command.Command.{Command}
use Rattle.clap.specs.declared.builder.command.Command.TheViews.{out-Command}
use Rattle.clap.specs.declared.builder.command.Command.TheOpen.{Command-F}
use Rattle.repo_prog.specs.Spelled.{AddsCommands, AddsWords, IsCommand, IsOfKind, command_shape}

or_none : (b : Bool) → (b || false) ≡ b
or_none true = refl
or_none false = refl

-- where there is one and it is this one, it is that one
pub is_some_of : {X : Type 0} (option : Option X) (x : X) → IsSomeAnd option (λ y. y ≡ x) → option ≡ Some x
is_some_of (Some y) x is = ap (λ z. Some z) is
is_some_of None x is = absurd is

-- a command has words that those below it take
abbrev pub is_shared : Command-F Command → Bool
is_shared command = command.has_globals

-- a word that is added is one more of its kind
pub one_word : (old new : Command) (word : Arg) (rule : Rule) → IsOfKind rule word → AddsArg old word new → AddsWords old (rule ∷ []) new
one_word old new word rule is adds =
    (adds.shape is.1 ∙ ap (with_rule (app_of old)) is.0, adds.globals ∙ ap (λ b. (out-Command old).has_globals || b) is.1 ∙ or_none (out-Command old).has_globals)

-- so it is where there was memory for it
pub one_word_of : {E : Type 0} (old : Command) (word : Arg) (rule : Rule) (result : Result Command E) → IsOfKind rule word → IfOk result (AddsArg old word) → IfOk result (AddsWords old (rule ∷ []))
one_word_of old word rule result is = IfOk-weaker result _ _ (λ new adds. one_word old new word rule is adds)

-- a command with more words
pub more_words : (name : Text) (words more : List Rule) (old new : Command) → IsCommand name words old → AddsWords old more new → IsCommand name (words ++ more) new
more_words name words more old new is adds =
    (adds.0 ∙ ap (on_top (λ shape. record shape { rules = shape.rules ++ more })) is.0, adds.1 ∙ is.1)

-- so it is where there was memory for them
pub more_words_of : {E : Type 0} (name : Text) (words more : List Rule) (old : Command) (result : Result Command E) → IsCommand name words old → IfOk result (AddsWords old more) → IfOk result (IsCommand name (words ++ more))
more_words_of name words more old result is = IfOk-weaker result _ _ (λ new adds. more_words name words more old new is adds)

-- words behind words behind a command's own
pub words_on : (old middle new : Command) (words more : List Rule) → AddsWords old words middle → AddsWords middle more new → AddsWords old (words ++ more) new
words_on old middle new words more first then = (
  then.0 ∙ ap (on_top (λ shape. record shape { rules = shape.rules ++ more })) first.0
      ∙ ap (λ (rules : List Rule). on_top (λ shape. record shape { rules = rules }) (app_of old)) (append_assoc (app_of old).top.rules words more),
  then.1 ∙ first.1,
)

-- so it is where there was memory for them
pub words_on_of : {E : Type 0} (old middle : Command) (words more : List Rule) (result : Result Command E) → AddsWords old words middle → IfOk result (AddsWords middle more) → IfOk result (AddsWords old (words ++ more))
words_on_of old middle words more result first = IfOk-weaker result _ _ (λ new then. words_on old middle new words more first then)

-- a command that is added is one more below
pub one_command : (old new sub : Command) (name : Text) (words : List Rule) → IsCommand name words sub → AddsSubcommand old sub new → AddsCommands old (command_shape name words ∷ []) new
one_command old new sub name words is adds = adds.shape is.1 ∙ ap (λ (app : App). with_subcommand (app_of old) app.top) is.0

-- so it is where there was memory for it
pub one_command_of : {E : Type 0} (old sub : Command) (name : Text) (words : List Rule) (result : Result Command E) → IsCommand name words sub → IfOk result (AddsSubcommand old sub)
    → IfOk result (AddsCommands old (command_shape name words ∷ []))
one_command_of old sub name words result is = IfOk-weaker result _ _ (λ new adds. one_command old new sub name words is adds)

-- commands behind commands below a program
pub commands_on : (old middle new : Command) (commands more : List Shape) → AddsCommands old commands middle → AddsCommands middle more new → AddsCommands old (commands ++ more) new
commands_on old middle new commands more first then = then ∙ ap (λ (app : App). record { top = record app.top { is_leaf = false }; subs = app.subs ++ more }) first
    ∙ ap (λ (subs : List Shape). record { top = record (app_of old).top { is_leaf = false }; subs = subs }) (append_assoc (app_of old).subs commands more)

-- so it is where there was memory for them
pub commands_on_of : {E : Type 0} (old middle : Command) (commands more : List Shape) (result : Result Command E) → AddsCommands old commands middle → IfOk result (AddsCommands middle more)
    → IfOk result (AddsCommands old (commands ++ more))
commands_on_of old middle commands more result first = IfOk-weaker result _ _ (λ new then. commands_on old middle new commands more first then)

-- a program with commands, by what it was before
pub program_of : {E : Type 0} (old : Command) (app : App) (commands : List Shape) (result : Result Command E) → app_of old ≡ app → IfOk result (AddsCommands old commands)
    → IfOk result (λ new. app_of new ≡ record { top = record app.top { is_leaf = false }; subs = app.subs ++ commands })
program_of old app commands result is = IfOk-weaker result _ _ (λ new adds. adds ∙ ap (λ (a : App). record { top = record a.top { is_leaf = false }; subs = a.subs ++ commands }) is)
