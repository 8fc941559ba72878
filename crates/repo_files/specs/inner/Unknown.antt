-- A disk of which nothing is known.
use Rattle.std.specs.Prelude.{None, false}
use Rattle.repo_disk.specs.Disks.{State}

-- the state of a disk whose files no contract can see
abbrev pub unknown : State
unknown = record { now = λ room name. None; fate = λ room name. None; lasting = λ room. false }
