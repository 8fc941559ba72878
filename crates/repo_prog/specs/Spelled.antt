-- What the words of the command line are, each as `clap` reads a word of its kind.
use Rattle.std.specs.Prelude.{◌≡◌, true, false, pos, List, [], ◌∷◌, ◌++◌, Some, codes}
use Rattle.clap.specs.Lexer.{usize_max}
use Rattle.clap.specs.Simple.{App, Shape, app_of, new_rule, new_shape, on_top}
use Rattle.clap.specs.Walk.{Rule, Text, rule_of}
use Rattle.clap.specs.declared.builder.action.ArgAction.TheVariants.{Set, SetTrue}
use Rattle.clap.specs.declared.builder.arg.Arg.{Arg}
use Rattle.clap.specs.declared.builder.command.Command.{Command}
use Rattle.clap.specs.declared.builder.command.Command.TheViews.{out-Command}
use Rattle.clap.specs.declared.builder.value_parser.ValueParser.TheVariants as parser

-- a word of this kind, which belongs to its command alone
abbrev pub IsOfKind : Rule → Arg → Type 0
IsOfKind rule word = (rule_of word ≡ rule) × (word.global ≡ false)

-- `--NAME N`, a number of 64 bits, and which it is where it is left out
abbrev pub number_rule : Text → Text → Rule
number_rule name default = record (new_rule name) {
  long = Some name;
  value_names = 1;
  parser = Some (parser.Unsigned 0 18446744073709551615);
  defaults = default ∷ [];
}

-- `--NAME N`, a number of 32 bits, 0 where it is left out
abbrev pub count_rule : Text → Rule
count_rule name = record (number_rule name (codes "0")) { parser = Some (parser.Signed (pos 0) (pos 4294967295)) }

-- `--NAME`, which is true where it is given, and not otherwise
abbrev pub flag_rule : Text → Rule
flag_rule name = record (new_rule name) { long = Some name; action = Some SetTrue }

-- one word by its place, which has to be there
abbrev pub needed_rule : Text → Rule
needed_rule name = record (new_rule name) { action = Some Set; required = true }

-- `--NAME WORD`, or nothing
abbrev pub option_rule : Text → Rule
option_rule name = record (new_rule name) { long = Some name; value_names = 1; action = Some Set }

-- words by their place, as many as there are
abbrev pub listed_rule : Text → Rule
listed_rule name = record (new_rule name) { range = Some (record { start_inclusive = 0; end_inclusive = usize_max }) }

-- a command, as `clap` has it
abbrev pub command_shape : Text → List Rule → Shape
command_shape name words = record (new_shape name) { rules = words }

-- a command has this name and these words, and none that one below it takes
abbrev pub IsCommand : Text → List Rule → Command → Type 0
IsCommand name words command = (app_of command ≡ record { top = command_shape name words; subs = [] }) × ((out-Command command).has_globals ≡ false)

-- a command is another one with more words behind its own
abbrev pub AddsWords : Command → List Rule → Command → Type 0
AddsWords old words new = (app_of new ≡ on_top (λ shape. record shape { rules = shape.rules ++ words }) (app_of old)) × ((out-Command new).has_globals ≡ (out-Command old).has_globals)

-- a command is another one with more commands below it, behind its own
abbrev pub AddsCommands : Command → List Shape → Command → Type 0
AddsCommands old commands new = app_of new ≡ record { top = record (app_of old).top { is_leaf = false }; subs = (app_of old).subs ++ commands }

-- the words of `init`
abbrev pub init_rules : List Rule
init_rules = needed_rule (codes "DIR") ∷ number_rule (codes "min") (codes "524288") ∷ number_rule (codes "max") (codes "8388608") ∷ number_rule (codes "bits") (codes "20")
    ∷ number_rule (codes "target") (codes "16777216") ∷ number_rule (codes "format") (codes "1") ∷ []

-- the words of `serve`
abbrev pub serve_rules : List Rule
serve_rules = needed_rule (codes "DIR") ∷ needed_rule (codes "ADDR") ∷ number_rule (codes "connections") (codes "1") ∷ number_rule (codes "at-once") (codes "1")
    ∷ number_rule (codes "memory") (codes "0") ∷ number_rule (codes "idle") (codes "21600") ∷ flag_rule (codes "append-only") ∷ []

-- the words of each command that goes to a server: where it is, and how long a connection may be idle
abbrev pub server_rules : List Rule
server_rules = needed_rule (codes "ADDR") ∷ number_rule (codes "idle") (codes "0") ∷ []

-- the words of one that connects again: how often, too
abbrev pub again_rules : List Rule
again_rules = server_rules ++ number_rule (codes "retry") (codes "0") ∷ []

-- the words of a choice of snapshots: by counts and a host, or by names
abbrev pub choice_rules : List Rule
choice_rules = count_rule (codes "keep-last") ∷ count_rule (codes "keep-daily") ∷ option_rule (codes "host") ∷ flag_rule (codes "dry-run") ∷ listed_rule (codes "NAME") ∷ []

-- the words of `backup`
abbrev pub backup_rules : List Rule
backup_rules = again_rules ++ needed_rule (codes "HOST") ∷ needed_rule (codes "PATH") ∷ []

-- the words of `restore`
abbrev pub restore_rules : List Rule
restore_rules = again_rules ++ needed_rule (codes "NAME") ∷ needed_rule (codes "DIR") ∷ []

-- the words of `forget`
abbrev pub forget_rules : List Rule
forget_rules = again_rules ++ choice_rules

-- a lock's token: a number by its place, which has to be there
abbrev pub token_rule : Rule
token_rule = record (needed_rule (codes "TOKEN")) { parser = Some (parser.Unsigned 0 18446744073709551615) }

-- the words of `refresh`
abbrev pub refresh_rules : List Rule
refresh_rules = server_rules ++ token_rule ∷ []

-- the words of `unlock`
abbrev pub unlock_rules : List Rule
unlock_rules = server_rules ++ flag_rule (codes "remove-all") ∷ []

-- the commands that store and give back
abbrev pub copies : List Shape
copies = command_shape (codes "backup") backup_rules ∷ command_shape (codes "snapshots") again_rules ∷ command_shape (codes "restore") restore_rules ∷ []

-- the commands that want the store for themselves
abbrev pub repairs : List Shape
repairs = command_shape (codes "forget") forget_rules ∷ command_shape (codes "prune") again_rules ∷ command_shape (codes "check") again_rules
    ∷ command_shape (codes "upgrade") again_rules ∷ []

-- the commands of locks
abbrev pub of_locks : List Shape
of_locks = command_shape (codes "locks") server_rules ∷ command_shape (codes "refresh") refresh_rules ∷ command_shape (codes "unlock") unlock_rules ∷ []

-- the commands that have no words
abbrev pub wordless : List Shape
wordless = command_shape (codes "frames") [] ∷ command_shape (codes "play") [] ∷ command_shape (codes "loop") [] ∷ []

-- the program `vault`, and its commands, one of which has to be there
abbrev pub vault_app : App
vault_app = record {
  top = record (new_shape (codes "vault")) { is_leaf = false; has_version = true; subcommand_required = true };
  subs = command_shape (codes "init") init_rules ∷ command_shape (codes "serve") serve_rules ∷ (copies ++ repairs ++ of_locks) ++ wordless;
}
