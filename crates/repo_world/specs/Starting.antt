-- Why a client isn't begun, in the code's own type.
use Rattle.std.specs.Prelude.{⊤}
use Rattle.repo_world.specs.Clients.{Refuses}
use Rattle.repo_world.specs.declared.any_clients.NotBegun.{NotBegun}
use Rattle.repo_world.specs.declared.jobs.Job.{Job}

-- it is refused for this reason; or there is no memory for a backup, as no other client needs any
abbrev pub IsNotBegun : Job → NotBegun → Type 0
IsNotBegun job (NotBegun.Refused refusal) = Refuses job refusal
IsNotBegun (Job.Backup entries) NotBegun.Memory = ⊤
IsNotBegun job NotBegun.Memory = ⊥
