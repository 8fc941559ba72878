-- What each line of a script is.
use Rattle.std.specs.Prelude.{◌≡◌, ◌≢◌, ⊤, ℕ, true, false, ◌&&◌, nat_le, if◌then◌else◌, [], ◌∷◌, List, length, All, codes, bytes_eq, IsUtf8, Option, Some, None, option_map, Result, Ok, Err}
use Rattle.std.specs.Option.{option_and_then}
use Rattle.std.specs.Result.{result_ok}
use Rattle.hex.specs.Hex.{decode_of}
use Rattle.repo_tree.specs.declared.entries.EntryKind.{EntryKind}
use Rattle.repo_script.specs.Cuts.{words, components}
use Rattle.repo_script.specs.Numbers.{number, numbers}
use Rattle.repo_script.specs.Tables.{word_in, verbs, purposes, items, topics, kinds, sorts, fails}
use Rattle.repo_script.specs.declared.faults.LineError.{LineError}
use Rattle.repo_script.specs.declared.lines.FeedItem.{FeedItem}
use Rattle.repo_script.specs.declared.lines.Line.{Line}
use Rattle.repo_script.specs.declared.lines.Question.{Question}
use Rattle.repo_script.specs.declared.lines.Start.{Start}
use Rattle.repo_script.specs.declared.verbs.ItemSort.{ItemSort}
use Rattle.repo_script.specs.declared.verbs.Purpose.{Purpose}
use Rattle.repo_script.specs.declared.verbs.Topic.{Topic}
use Rattle.repo_script.specs.declared.verbs.Verb.{Verb}

-- the host that a word is: it has 1 to 255 bytes
abbrev pub host : List ℕ → Option (List ℕ)
host word = if nat_le 1 (length word) && nat_le (length word) 255 then Some word else None

-- the bytes that a word is: none for a dash, and else what it spells in hexadecimal, in digits of both cases
abbrev pub bytes : List ℕ → Option (List ℕ)
bytes word = if bytes_eq word (codes "-") then Some [] else result_ok (decode_of word)

-- this, where no word is left
abbrev pub alone : {T : Type 0} → T → List (List ℕ) → Option T
alone x [] = Some x
alone x _ = None

-- what is read of the one word left
abbrev pub one : {T : Type 0} → (List ℕ → Option T) → List (List ℕ) → Option T
one read (word ∷ []) = read word
one read _ = None

-- what is read of the two words left
abbrev pub two : {T U : Type 0} → (List ℕ → Option T) → (List ℕ → Option U) → List (List ℕ) → Option (T × U)
two first second (word ∷ other ∷ []) = option_and_then (λ x. option_map (λ y. (x, y)) (second other)) (first word)
two first second _ = None

-- the clients of the words left, one or more
abbrev pub clients : List (List ℕ) → Option (List ℕ)
clients [] = None
clients (word ∷ words) = numbers (word ∷ words)

-- what a client starts for, by the words left
abbrev pub start_with : Purpose → List (List ℕ) → Option Start
start_with Purpose.Backup left = option_map (λ x. Start.Backup x.0 x.1) (two host (number 64) left)
start_with Purpose.Pieces left = option_map (λ x. Start.Pieces x.0 x.1) (two host (number 64) left)
start_with Purpose.Restore left = option_map Start.Restore (one (number 64) left)
start_with Purpose.List left = alone Start.List left
start_with Purpose.Prune left = alone Start.Prune left
start_with Purpose.Check left = alone Start.Check left
start_with Purpose.Forget left = option_map Start.Forget (clients left)
start_with Purpose.Upgrade left = alone Start.Upgrade left
start_with Purpose.Keep left = option_map (λ x. Start.Keep (record { last = x.0; daily = x.1 })) (two (number 32) (number 32) left)

-- the start that some words are
abbrev pub start_of : List (List ℕ) → Option Start
start_of [] = None
start_of (word ∷ left) = option_and_then (λ purpose. start_with purpose left) (word_in purposes word)

-- the start of an old client that some words are, behind the one that says that it is old: the next one is `start`
abbrev pub old_start_of : List (List ℕ) → Option Start
old_start_of [] = None
old_start_of (word ∷ left) = if bytes_eq word (codes "start") then start_of left else None

-- the item of a sort, by the words left
abbrev pub item_with : ItemSort → List (List ℕ) → Option FeedItem
item_with ItemSort.Dir left = option_map FeedItem.Dir (one Some left)
item_with ItemSort.File left = option_map FeedItem.File (one Some left)
item_with ItemSort.Bytes left = option_map FeedItem.Bytes (one bytes left)
item_with ItemSort.Close left = alone FeedItem.Close left
item_with ItemSort.End left = alone FeedItem.End left
item_with ItemSort.Abandon left = alone FeedItem.Abandon left

-- the item that some words are
abbrev pub item_of : List (List ℕ) → Option FeedItem
item_of [] = None
item_of (word ∷ left) = option_and_then (λ sort. item_with sort left) (word_in items word)

-- the line by which a client is fed, by the words left
abbrev pub feed_of : List (List ℕ) → Option Line
feed_of [] = None
feed_of (word ∷ left) = option_and_then (λ client. option_map (λ item. Line.Feed client item) (item_of left)) (number 64 word)

-- what is asked for of a topic, by the words left
abbrev pub question_with : Topic → List (List ℕ) → Option Question
question_with Topic.Ticket left = alone Question.Ticket left
question_with Topic.Lock left = option_map (λ x. Question.Lock (record { 0 = x.0 }) x.1) (two (number 64) (word_in kinds) left)
question_with Topic.Refresh left = option_map (λ x. Question.Refresh (record { 0 = x.0 }) x.1) (two (number 64) (number 64) left)
question_with Topic.Locks left = alone Question.Locks left

-- what some words ask for
abbrev pub question_of : List (List ℕ) → Option Question
question_of [] = None
question_of (word ∷ left) = option_and_then (λ topic. question_with topic left) (word_in topics word)

-- the entry of a path
abbrev pub entry : List ℕ → EntryKind → Line
entry path what = Line.Entry (record { path = components path; what = what })

-- what happens, by the words left
abbrev pub event_with : Verb → List (List ℕ) → Option Line
event_with Verb.Step left = option_map Line.Step (one (number 64) left)
event_with Verb.Finish left = option_map Line.Finish (one (number 64) left)
event_with Verb.Until left = option_map (λ x. Line.Until x.0 x.1) (two (number 64) (word_in sorts) left)
event_with Verb.Late left = option_map Line.Late (one (number 64) left)
event_with Verb.Fault left = option_map (λ x. Line.Fault x.0 x.1) (two (number 64) (word_in fails) left)
event_with Verb.Deliver left = option_map Line.Deliver (one (number 64) left)
event_with Verb.Unlock left = option_map (λ n. Line.Unlock (record { 0 = n })) (one (number 64) left)
event_with Verb.Ask left = option_map Line.Ask (question_of left)
event_with Verb.Crash left = option_map Line.Crash (one (number 64) left)
event_with Verb.Restart left = alone Line.Restart left
event_with Verb.Report left = alone Line.Report left
event_with Verb.Replay left = alone Line.Replay left
event_with Verb.AppendOnly left = alone Line.AppendOnly left
event_with _ left = None

-- the line that begins so, by the words left
abbrev pub line_with : Verb → List (List ℕ) → Option Line
line_with Verb.Dir left = option_map (λ path. entry path EntryKind.Dir) (one Some left)
line_with Verb.File left = option_map (λ x. entry x.0 (EntryKind.File x.1)) (two Some bytes left)
line_with Verb.Start left = option_map (λ start. Line.Start start false) (start_of left)
line_with Verb.Old left = option_map (λ start. Line.Start start true) (old_start_of left)
line_with Verb.Feed left = feed_of left
line_with verb left = event_with verb left

-- the line that some words are
abbrev pub line_of : List (List ℕ) → Option Line
line_of [] = None
line_of (word ∷ left) = option_and_then (λ verb. line_with verb left) (word_in verbs word)

-- the bytes are this line: they are in UTF-8, no word of them is empty, and the words are the line
abbrev pub IsLine : List ℕ → Line → Type 0
IsLine line what = IsUtf8 line × All (λ word. word ≢ []) (words line) × (line_of (words line) ≡ Some what)

-- what is wanted is given: it, or that it isn't there, unless memory ran out
abbrev pub GivesLine : {T : Type 0} → Option T → Result T LineError → Type 0
GivesLine wanted (Ok x) = wanted ≡ Some x
GivesLine wanted (Err LineError.NotUnderstood) = wanted ≡ None
GivesLine wanted (Err LineError.Memory) = ⊤
