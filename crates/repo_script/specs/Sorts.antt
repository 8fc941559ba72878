-- The sorts of requests that a script waits for.
use Rattle.std.specs.Prelude.{Option, Some, None}
use Rattle.repo_wire.specs.declared.messages.Ask.{Ask}
use Rattle.repo_script.specs.declared.sorts.AskSort.{AskSort}

-- the sort of a request; two requests have none
abbrev pub sort_of : Ask → Option AskSort
sort_of Ask.Ticket = Some AskSort.Ticket
sort_of (Ask.Lock row) = Some AskSort.Lock
sort_of (Ask.Refresh token time) = None
sort_of (Ask.Unlock token) = Some AskSort.Unlock
sort_of Ask.Locks = None
sort_of (Ask.List kind after) = Some AskSort.List
sort_of (Ask.Get kind name) = Some AskSort.Get
sort_of (Ask.Range pack offset len) = Some AskSort.Range
sort_of (Ask.Put token kind name bytes) = Some (AskSort.Put kind)
sort_of (Ask.Delete token kind name) = Some (AskSort.Delete kind)
sort_of Ask.Config = Some AskSort.Config
sort_of (Ask.Upgrade token) = Some AskSort.Upgrade
