-- Why a backup that feeds itself was given up.
use Rattle.std.specs.Prelude.{◌≡◌, ◌≤◌, ◌^◌, ⊤, List, Option, Some, None}
use Rattle.repo_session.specs.Feeds.{Fed}
use Rattle.repo_backup.specs.Items.{Place, ItemFault}
use Rattle.repo_backup.specs.declared.items.FeedError.{FeedError}
use Rattle.repo_feeding.specs.Sources.{ComesFirst, IsSound, IsAt, count_in}
use Rattle.repo_feeding.specs.declared.reasons.GivenUp.{GivenUp}

-- if it is known what the source was made to give, this item comes next, behind those of its items that lead here, each of which may be taken where those before it lead
abbrev pub IsNextItem : Option (List Fed) → Place → Fed → Type 0
IsNextItem None p item = ⊤
IsNextItem (Some whole) p item = (coming : List Fed) × (then : List Fed) × IsAt whole p coming × ComesFirst item coming then

-- if it is known what the source was made to give, that is 2^127 items and bytes at least
abbrev pub IsEndless : Option (List Fed) → Type 0
IsEndless None = ⊤
IsEndless (Some whole) = 2 ^ 127 ≤ count_in whole

-- this is so where the items lead: the source failed, and for just that; or else it hasn't failed, and the item that comes next isn't taken for that, or there was no end of items
abbrev pub Justifies : {E : Type 0} → (E → Type 0) → Option (List Fed) → Place → GivenUp E → Type 0
Justifies failed whole p (GivenUp.Source error) = failed error
Justifies failed whole p (GivenUp.Refused error) = IsSound failed × ((item : Fed) × ItemFault p item error × IsNextItem whole p item)
Justifies failed whole p GivenUp.Endless = IsSound failed × IsEndless whole

-- a backup is given up for this: for want of memory only if its source can't begin again
abbrev pub IsReason : {E : Type 0} → (E → Type 0) → Type 0 → Option (List Fed) → Place → GivenUp E → Type 0
IsReason failed rewinds whole p reason = Justifies failed whole p reason × (reason ≡ GivenUp.Refused FeedError.Memory → ¬ rewinds)

-- if there is a reason it is so, and while there is none the source hasn't failed
abbrev pub HasReason : {E : Type 0} → (E → Type 0) → Type 0 → Option (List Fed) → Place → Option (GivenUp E) → Type 0
HasReason failed rewinds whole p None = IsSound failed
HasReason failed rewinds whole p (Some reason) = IsReason failed rewinds whole p reason
