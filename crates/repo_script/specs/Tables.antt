-- The words that scripts have.
use Rattle.std.specs.Prelude.{ℕ, Bool, true, false, List, [], ◌∷◌, codes, bytes_eq, Option}
use Rattle.std.specs.Map.{lookup}
use Rattle.repo_name.specs.declared.kinds.Kind.{Kind}
use Rattle.repo_store.specs.declared.faults.Fail.{Fail}
use Rattle.repo_script.specs.declared.sorts.AskSort.{AskSort}
use Rattle.repo_script.specs.declared.verbs.ItemSort.{ItemSort}
use Rattle.repo_script.specs.declared.verbs.Purpose.{Purpose}
use Rattle.repo_script.specs.declared.verbs.Topic.{Topic}
use Rattle.repo_script.specs.declared.verbs.Verb.{Verb}

-- what a table has for a word
abbrev pub word_in : {T : Type 0} → List (List ℕ × T) → List ℕ → Option T
word_in table word = lookup (λ entry. bytes_eq word entry) table

-- what lines begin with
abbrev pub verbs : List (List ℕ × Verb)
verbs =
    (codes "dir", Verb.Dir)
    ∷ (codes "file", Verb.File)
    ∷ (codes "start", Verb.Start)
    ∷ (codes "old", Verb.Old)
    ∷ (codes "step", Verb.Step)
    ∷ (codes "finish", Verb.Finish)
    ∷ (codes "until", Verb.Until)
    ∷ (codes "late", Verb.Late)
    ∷ (codes "fault", Verb.Fault)
    ∷ (codes "deliver", Verb.Deliver)
    ∷ (codes "feed", Verb.Feed)
    ∷ (codes "unlock", Verb.Unlock)
    ∷ (codes "ask", Verb.Ask)
    ∷ (codes "crash", Verb.Crash)
    ∷ (codes "restart", Verb.Restart)
    ∷ (codes "report", Verb.Report)
    ∷ (codes "replay", Verb.Replay)
    ∷ (codes "append-only", Verb.AppendOnly)
    ∷ []

-- what clients start for
abbrev pub purposes : List (List ℕ × Purpose)
purposes =
    (codes "backup", Purpose.Backup)
    ∷ (codes "pieces", Purpose.Pieces)
    ∷ (codes "restore", Purpose.Restore)
    ∷ (codes "list", Purpose.List)
    ∷ (codes "prune", Purpose.Prune)
    ∷ (codes "check", Purpose.Check)
    ∷ (codes "forget", Purpose.Forget)
    ∷ (codes "keep", Purpose.Keep)
    ∷ (codes "upgrade", Purpose.Upgrade)
    ∷ []

-- what clients are fed
abbrev pub items : List (List ℕ × ItemSort)
items =
    (codes "dir", ItemSort.Dir)
    ∷ (codes "file", ItemSort.File)
    ∷ (codes "bytes", ItemSort.Bytes)
    ∷ (codes "close", ItemSort.Close)
    ∷ (codes "end", ItemSort.End)
    ∷ (codes "abandon", ItemSort.Abandon)
    ∷ []

-- what somebody who is no client asks for
abbrev pub topics : List (List ℕ × Topic)
topics = (codes "ticket", Topic.Ticket) ∷ (codes "lock", Topic.Lock) ∷ (codes "refresh", Topic.Refresh) ∷ (codes "locks", Topic.Locks) ∷ []

-- whether a lock of a kind is exclusive
abbrev pub kinds : List (List ℕ × Bool)
kinds = (codes "shared", false) ∷ (codes "exclusive", true) ∷ []

-- the sorts of requests
abbrev pub sorts : List (List ℕ × AskSort)
sorts =
    (codes "ticket", AskSort.Ticket)
    ∷ (codes "lock", AskSort.Lock)
    ∷ (codes "config", AskSort.Config)
    ∷ (codes "list", AskSort.List)
    ∷ (codes "get", AskSort.Get)
    ∷ (codes "range", AskSort.Range)
    ∷ (codes "put-pack", AskSort.Put Kind.Pack)
    ∷ (codes "put-index", AskSort.Put Kind.Index)
    ∷ (codes "put-snapshot", AskSort.Put Kind.Snapshot)
    ∷ (codes "delete-pack", AskSort.Delete Kind.Pack)
    ∷ (codes "delete-index", AskSort.Delete Kind.Index)
    ∷ (codes "delete-snapshot", AskSort.Delete Kind.Snapshot)
    ∷ (codes "unlock", AskSort.Unlock)
    ∷ (codes "upgrade", AskSort.Upgrade)
    ∷ []

-- how a device fails: in writing, with the change made or not, or in reading
abbrev pub fails : List (List ℕ × Fail)
fails = (codes "applied", Fail.Write true) ∷ (codes "unapplied", Fail.Write false) ∷ (codes "read", Fail.Read) ∷ []
