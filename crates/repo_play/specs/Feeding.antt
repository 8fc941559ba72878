-- What becomes of an item that a script feeds a client.
use Rattle.std.specs.Prelude.{◌≡◌, ◌++◌, [], ℕ, List, codes, decimal}
use Rattle.repo_session.specs.Feeds.{Fed, fed_dir, fed_file, fed_bytes, fed_close, fed_end, fed_abandon}
use Rattle.repo_backup.specs.Items.{fed_of}
use Rattle.repo_backup.specs.declared.items.FeedError.{FeedError}
use Rattle.repo_backup.specs.declared.items.Item.{Item}
use Rattle.repo_world.specs.Events.{Happens}
use Rattle.repo_world.specs.World.{World}
use Rattle.repo_world.specs.declared.events.Applied.{Applied}
use Rattle.repo_world.specs.declared.events.Event.{Event}
use Rattle.repo_script.specs.declared.lines.FeedItem.{FeedItem}
use Rattle.repo_play.specs.Steps.{HasClient}

-- what a client is fed by the item of a line
abbrev pub fed_by : FeedItem → Fed
fed_by (FeedItem.Dir name) = fed_dir name
fed_by (FeedItem.File name) = fed_file name
fed_by (FeedItem.Bytes bytes) = fed_bytes bytes
fed_by FeedItem.Close = fed_close
fed_by FeedItem.End = fed_end
fed_by FeedItem.Abandon = fed_abandon

-- a reason's number
abbrev pub fault_number : FeedError → ℕ
fault_number FeedError.BadPath = 1
fault_number FeedError.Order = 2
fault_number FeedError.TooDeep = 3
fault_number FeedError.TooLarge = 4
fault_number FeedError.Memory = 5
fault_number FeedError.NotWanted = 6

-- the line that tells it: why the item wasn't taken, or how many bytes of a piece were, where not all; and else nothing
abbrev pub feed_line : ℕ → Applied → List ℕ
feed_line k (Applied.Unfed e) = codes "feed " ++ (decimal k ++ (codes " refused " ++ (decimal (fault_number e) ++ codes "\n")))
feed_line k (Applied.Took n) = codes "feed " ++ (decimal k ++ (codes " took " ++ (decimal n ++ codes "\n")))
feed_line k _ = []

-- a client that is there is fed the item, and what became of it is told
pub record IsFedTold (w : World) (k : ℕ) (item : FeedItem) (text : List ℕ) (v : World) : Type 0 where
  pub client : HasClient w k
  pub given : Item
  pub is : fed_of given ≡ fed_by item
  pub applied : Applied
  pub happens : Happens ⊥ w (Event.Feed k given) applied v
  pub told : text ≡ feed_line k applied
