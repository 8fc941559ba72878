-- A client with all that it sent, and all replies to it.
use Rattle.std.specs.Prelude.{◌<◌, ◌++◌, ◌∷◌, [], ℕ, Bool, List, length, map, reverse, take, slice_index_or, Option, Some, None}
use Rattle.repo_wire.specs.declared.messages.Ask.{Ask}
use Rattle.repo_wire.specs.declared.messages.Reply.{Reply}
use Rattle.repo_wire.specs.declared.messages.Request.{Request}
use Rattle.repo_wire.specs.declared.messages.Say.{Say}
use Rattle.repo_session.specs.declared.emissions.Emission.{Emission}
use Rattle.repo_session.specs.Feeds.{Fed, fed_dir, fed_file, fed_bytes, fed_close, fed_end, fed_abandon}
use Rattle.repo_session.specs.Traces.{Each, Exchange, Trace}
use Rattle.repo_world.specs.AnyClients.{FitsAny, any_given, any_next, client_of}
use Rattle.repo_world.specs.Clients.{Client}
use Rattle.repo_world.specs.World.{instance_of, nobody}
use Rattle.repo_world.specs.declared.any_clients.AnyClient.{AnyClient}
use Rattle.repo_world.specs.declared.fed_items.FedItem.{FedItem}
use Rattle.repo_world.specs.declared.pasts.Past.{Past}

-- what a seat shows: the client, its requests in order, and the replies to them in the order in which the store gave them, whether they were taken or not
pub record Seated : Type 0 where
  pub client : Client
  pub requests : List Request
  pub replies : List Reply

-- what stands for a reply that isn't there
abbrev pub silence : Reply
silence = record { instance = instance_of 0; sequence = 0; say = Say.Done }

-- what stands for a request that isn't there
abbrev pub nothing : Request
nothing = record { instance = instance_of 0; sequence = 0; ask = Ask.Ticket }

-- what stands for a client that isn't there
abbrev pub empty_seat : Seated
empty_seat = record { client = nobody; requests = []; replies = [] }

-- what a reply says
abbrev pub say_of : List Reply → ℕ → Say
say_of replies place = (slice_index_or replies place silence).say

-- the item for which one that is kept stands
abbrev pub kept_item : FedItem → Fed
kept_item (FedItem.Dir name) = fed_dir name
kept_item (FedItem.File name) = fed_file name
kept_item (FedItem.Bytes bytes) = fed_bytes bytes.items
kept_item FedItem.Close = fed_close
kept_item FedItem.End = fed_end
kept_item FedItem.Abandon = fed_abandon

-- of a piece its first so many bytes
abbrev pub part_of : ℕ → Fed → Fed
part_of n (fed_bytes bytes) = fed_bytes (take n bytes)
part_of n item = item

-- the items for which some stand that are kept with the oldest first: the newest first
abbrev pub kept_items : List FedItem → List Fed
kept_items kept = reverse (map kept_item kept)

-- an exchange that is over, of what was given out on it, and of the items that were taken then
abbrev pub over : List Reply → List Emission → List Fed → Past → Exchange
over replies given fed past = record { ask = past.letter.ask; say = say_of replies past.reply; emitted = given; fed = fed }

-- the trace of exchanges that are over, the newest first: what was given out on each, and the items that were taken then, stand beside the next one
abbrev pub trace_back : List Reply → List Emission → List Fed → List Past → Trace
trace_back replies given fed [] = []
trace_back replies given fed (past ∷ older) = over replies given fed past ∷ trace_back replies past.before.items (kept_items past.fed.items) older

-- their trace, where they stand with the oldest first
abbrev pub trace_of : List Reply → List Emission → List Fed → List Past → Trace
trace_of replies given fed pasts = trace_back replies given fed (reverse pasts)

-- one, or none
abbrev pub listed : {A : Type 0} → Option A → List A
listed None = []
listed (Some x) = x ∷ []

-- all requests of a client: those whose replies it took, and what is pending
abbrev pub requests_of : AnyClient → List Past → List Request
requests_of c pasts = map (λ past. past.letter) pasts ++ listed (any_next c)

-- the client's trace
abbrev pub exchanges_of : AnyClient → List Past → List FedItem → List Reply → Trace
exchanges_of c pasts fed replies = trace_of replies (any_given c) (kept_items fed) pasts

-- what a seat of these parts shows
abbrev pub seated : AnyClient → List Past → List FedItem → List Reply → Bool → Seated
seated c pasts fed replies crashed = record { client = client_of c (exchanges_of c pasts fed replies) crashed; requests = requests_of c pasts; replies = replies }

-- the client stands where its trace leaves it, and each reply that it took is there
pub record IsSeated (c : AnyClient) (pasts : List Past) (fed : List FedItem) (replies : List Reply) : Type 0 where
  pub fits : FitsAny c (exchanges_of c pasts fed replies)
  pub there : Each (λ past. past.reply < length replies) pasts
