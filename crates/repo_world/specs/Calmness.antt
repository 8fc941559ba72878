-- Which events take no memory.
use Rattle.std.specs.Prelude.{◌≡◌, ⊤, true, Option, Some, None, slice_get}
use Rattle.repo_world.specs.Clients.{MayBeFed}
use Rattle.repo_world.specs.Events.{MayAnybodySend}
use Rattle.repo_world.specs.World.{Message, Asked, Said, World, client}
use Rattle.repo_world.specs.declared.events.Event.{Event}

-- the delivery of such a message is ignored: there is none; or it is a reply to a client that doesn't run
abbrev pub IsIgnored : World → Option Message → Type 0
IsIgnored w None = ⊤
IsIgnored w (Some (Asked k request)) = ⊥
IsIgnored w (Some (Said k reply)) = (client w k).crashed ≡ true

-- the event takes no memory: what is ignored, a crash, a restart
abbrev pub IsCalm : World → Event → Type 0
IsCalm w (Event.Deliver i) = IsIgnored w (slice_get w.messages i)
IsCalm w (Event.Fault i fail) = IsIgnored w (slice_get w.messages i)
IsCalm w (Event.Crash k) = ⊤
IsCalm w Event.Restart = ⊤
IsCalm w (Event.Start job host time old) = ⊥
IsCalm w (Event.Ask request) = ¬ MayAnybodySend request
IsCalm w (Event.Feed k item) = ¬ MayBeFed (client w k)

-- nor does a copy of it: of each event but a start and a request
abbrev pub IsLight : Event → Type 0
IsLight (Event.Start job host time old) = ⊥
IsLight (Event.Ask request) = ⊥
IsLight _ = ⊤
