-- What holds of a backup and a restore, one after the other alone with their store.
use Rattle.std.specs.Prelude.{◌≡◌, ℕ, Bool, false, List, Option, Some}
use Rattle.repo_name.specs.declared.names.Name.{Name}
use Rattle.repo_tree.specs.declared.entries.Entry.{Entry}
use Rattle.repo_wire.specs.declared.messages.Request.{Request}
use Rattle.repo_store.specs.Stores.{Store}
use Rattle.repo_session.specs.Askers.{Asker}
use Rattle.repo_session.specs.Rebuilding.{rebuilt, Follow}
use Rattle.repo_session.specs.Soundness.{IsSound}
use Rattle.repo_session.specs.Talks.{Talk, trace_of, given_in, TalkRan}
use Rattle.repo_session.specs.Traces.{emitted_in, fed_in}
use Rattle.repo_session.specs.declared.outcomes.Outcome.{Outcome}
use Rattle.repo_session.specs.Feeds.{Fed}
use Rattle.repo_backup.specs.Items.{spelled_by}
use Rattle.repo_backup.specs.Laws.{AreApart, AreItemsApart, IsBackup}
use Rattle.repo_feeding.specs.FedLaws.{AreOfSource, StandsAsFed}
use Rattle.repo_restore.specs.Laws.{IsRestore, AreFirstOf}

-- a restore of the snapshot that a backup reported as stored, alone with the store that the backup was alone with, gives out the backup's entries
-- where it reports that it gave out all
abbrev pub RestoredIsHanded : Type 0
RestoredIsHanded = (who : Asker) (entries : List Entry) (from mid to : Store) (failed failing late last : ℕ) (talk talk' : Talk) (next next' : Option Request) (name : Name) (blobs bytes count : ℕ) (asker : Asker)
    → IsSound from.objects → TalkRan from failed talk mid failing → IsBackup who entries next (Some (Outcome.Stored name blobs bytes)) (trace_of talk) → AreApart entries from (trace_of talk) next
    → TalkRan mid late talk' to last → IsRestore (record { who = asker; snapshot = name }) next' (Some (Outcome.Complete count)) (trace_of talk')
    → rebuilt (emitted_in (trace_of talk')) ≡ entries

-- However far such a restore came, and however it ended, what it gave out is the first of the backup's entries; where a file is open, the first bytes of it.
abbrev pub RestoredIsFirst : Type 0
RestoredIsFirst = (who : Asker) (entries : List Entry) (from mid to : Store) (failed failing late last : ℕ) (talk talk' : Talk) (next next' : Option Request) (name : Name) (blobs bytes : ℕ) (asker : Asker) (outcome : Option Outcome)
    → IsSound from.objects → TalkRan from failed talk mid failing → IsBackup who entries next (Some (Outcome.Stored name blobs bytes)) (trace_of talk) → AreApart entries from (trace_of talk) next
    → TalkRan mid late talk' to last → IsRestore (record { who = asker; snapshot = name }) next' outcome (trace_of talk')
    → (within : Bool) × Follow false (given_in talk') within × AreFirstOf within (rebuilt (given_in talk')) entries

-- A restore of the snapshot that a backup reported as stored which fed itself gives out what the items spell that were fed, and those are what its source was made
-- to give, where that is known. (Some items are meant that may stand between its exchanges, of whose blobs no two clash.)
abbrev pub RestoredIsFed : Type 0
RestoredIsFed = (who : Asker) (whole : Option (List Fed)) (from mid to : Store) (failed failing late last : ℕ) (talk talk' : Talk) (next next' : Option Request) (name : Name) (blobs bytes count : ℕ) (asker : Asker)
    → IsSound from.objects → TalkRan from failed talk mid failing → (s : StandsAsFed who whole next (Some (Outcome.Stored name blobs bytes)) (trace_of talk)) → AreItemsApart from s.fs next
    → TalkRan mid late talk' to last → IsRestore (record { who = asker; snapshot = name }) next' (Some (Outcome.Complete count)) (trace_of talk')
    → (rebuilt (emitted_in (trace_of talk')) ≡ spelled_by (fed_in s.fs)) × AreOfSource whole (rebuilt (emitted_in (trace_of talk')))

-- However far such a restore came, and however it ended, what it gave out is the first of that; where a file is open, the first bytes of it.
abbrev pub RestoredIsFirstOfFed : Type 0
RestoredIsFirstOfFed = (who : Asker) (whole : Option (List Fed)) (from mid to : Store) (failed failing late last : ℕ) (talk talk' : Talk) (next next' : Option Request) (name : Name) (blobs bytes : ℕ) (asker : Asker) (outcome : Option Outcome)
    → IsSound from.objects → TalkRan from failed talk mid failing → (s : StandsAsFed who whole next (Some (Outcome.Stored name blobs bytes)) (trace_of talk)) → AreItemsApart from s.fs next
    → TalkRan mid late talk' to last → IsRestore (record { who = asker; snapshot = name }) next' outcome (trace_of talk')
    → ((within : Bool) × Follow false (given_in talk') within × AreFirstOf within (rebuilt (given_in talk')) (spelled_by (fed_in s.fs))) × AreOfSource whole (spelled_by (fed_in s.fs))
