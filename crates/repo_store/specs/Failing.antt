-- What the store does in a step, with or without a failure of its device that was called for.
use Rattle.std.specs.Prelude.{◌≡◌, ◌≢◌, ◌⊎◌, ◌≤◌, ◌<◌, ◌+◌, ◌-◌, ⊤, ℕ, Bool, true, cond, Some}
use Rattle.repo_wire.specs.declared.messages.Ask.{Ask}
use Rattle.repo_wire.specs.declared.messages.Code.{Code}
use Rattle.repo_wire.specs.declared.messages.Say.{Say}
use Rattle.repo_locks.specs.TokenMachine.{live_as}
use Rattle.repo_store.specs.declared.faults.Armed.{Armed}
use Rattle.repo_store.specs.declared.faults.Fail.{Fail}
use Rattle.repo_store.specs.Faults.{StillWaits}
use Rattle.repo_store.specs.Laws.{greatest_count}
use Rattle.repo_store.specs.StoreMachine.{reads_of, Answers, Step, Looks, IsQuiet, IsRangeLength, IsRuledOut}
use Rattle.repo_store.specs.Stores.{Store}

-- The device may fail by itself, too: Own says whether it did in this step. (In a run it may have, at any step.)

-- the device failed by itself: the count of its failures that weren't called for rose, or stands at its greatest
abbrev pub HasFailed : ℕ → ℕ → Type 0
HasFailed own owned = (own < owned) ⊎ (owned ≡ greatest_count)

-- one step of the store machine, which tells of a failure only where the device failed by itself
abbrev pub Plainly : Type 0 → Store → Ask → Say → Store → Type 0
Plainly Own old ask say new = Step old ask say new × (say ≡ Say.Refused Code.Fault → Own)

-- a refusal
abbrev pub IsRefused : Say → Type 0
IsRefused (Say.Refused code) = ⊤
IsRefused _ = ⊥

-- the answer is made by a writing call of the device: it is no refusal, and the request isn't one for which nothing is written
abbrev pub IsWritten : Store → Ask → Say → Type 0
IsWritten old ask say = (¬ IsQuiet old ask) × (¬ IsRefused say)

-- in place of an answer, the device's own failure is told, or the want of memory, and nothing changed
abbrev pub FailsItself : Type 0 → Store → Ask → Say → Store → Type 0
FailsItself Own old ask say new = Looks old ask × (new ≡ old) × (((say ≡ Say.Refused Code.Fault) × Own) ⊎ (say ≡ Say.Refused Code.NoMemory))

-- a request for which the device is always read, for an answer that is this; for any other what it was read for may be kept from before
abbrev pub IsAlwaysRead : Store → Ask → Say → Type 0
IsAlwaysRead old (Ask.Get kind name) say = ⊤
IsAlwaysRead old (Ask.Range pack offset len) say = IsRangeLength len
IsAlwaysRead old Ask.Config say = ⊤
IsAlwaysRead old (Ask.Upgrade token) say = (live_as old.tokens token ≡ Some true) × (say ≢ Say.Refused Code.NoMemory)
IsAlwaysRead old _ say = ⊥

-- a writing call of the device fails as it was told to: the answer is made by one, that is told, and the store is as after the answer if the change was
-- to be applied, else as before
abbrev pub FailsWriting : Bool → Store → Ask → Say → Store → Type 0
FailsWriting applied old ask say new =
    (other : Say) × (after : Store) × Answers old ask other after × IsWritten old ask other × (say ≡ Say.Refused Code.Fault) × (new ≡ cond applied after old)

-- a reading call of the device fails as it was told to: that is told, and nothing changed
abbrev pub FailsReading : Store → Ask → Say → Store → Type 0
FailsReading old ask say new = Looks old ask × (new ≡ old) × (say ≡ Say.Refused Code.Fault)

-- One step in which the device's next call of a sort fails. A writing call: if the answer is made by none, the step is as without. A reading call: if the
-- device needn't be read, the step may be as without.
abbrev pub Failing : Type 0 → Fail → Store → Ask → Say → Store → Type 0
Failing Own (Fail.Write applied) old ask say new =
    FailsWriting applied old ask say new
    ⊎ ((Answers old ask say new × ¬ IsWritten old ask say)
    ⊎ FailsItself Own old ask say new)
Failing Own Fail.Read old ask say new =
    FailsReading old ask say new
    ⊎ ((¬ IsAlwaysRead old ask say) × Plainly Own old ask say new)

-- a step may make so many reading calls of the device, and so many writing ones
abbrev pub MakesCalls : ℕ → ℕ → Store → Ask → Say → Type 0
MakesCalls reads writes old ask say =
    (reads ≤ reads_of ask) × (IsAlwaysRead old ask say → 1 ≤ reads) × (writes ≤ 1) × (IsWritten old ask say → writes ≡ 1) × (IsQuiet old ask ⊎ IsRuledOut say → writes ≡ 0)

-- One step in which the device's call of a number fails, counted from 1 at the step's first. It is a reading call; or the writing one; or the step makes
-- fewer calls, is as without, and the failure waits for a call of a later step.
abbrev pub FailingAt : Type 0 → ℕ → Bool → Store → Ask → Say → Armed → Store → Type 0
FailingAt Own number applied old ask say left new =
    ((left ≡ Armed.Nothing) × (number ≤ reads_of ask) × FailsReading old ask say new)
    ⊎ (((left ≡ Armed.Nothing) × (number ≤ reads_of ask + 1) × (FailsWriting applied old ask say new ⊎ FailsItself Own old ask say new))
    ⊎ ((reads : ℕ) × (writes : ℕ) × MakesCalls reads writes old ask say × (reads + writes < number) × (left ≡ Armed.Call (number - (reads + writes)) applied) × Plainly Own old ask say new))

-- one step over a device that is told to fail in its next call of a sort, in its call of a number, or not at all
abbrev pub FailsAsArmed : Type 0 → Armed → Store → Ask → Say → Armed → Store → Type 0
FailsAsArmed Own Armed.Nothing old ask say left new = Plainly Own old ask say new
FailsAsArmed Own (Armed.Next fail) old ask say left new = Failing Own fail old ask say new
FailsAsArmed Own (Armed.Call number applied) old ask say left new = 1 ≤ number → FailingAt Own number applied old ask say left new

-- what is armed after a step: nothing, if it met its call, and then a fault is told; else it still waits, and a fault that is told is the device's own
abbrev pub IsLeft : Type 0 → Armed → Say → Armed → Type 0
IsLeft Own armed say left =
    ((armed ≢ Armed.Nothing) × (left ≡ Armed.Nothing) × (say ≡ Say.Refused Code.Fault))
    ⊎ (StillWaits armed left × (say ≡ Say.Refused Code.Fault → Own))

-- such a step, and what is armed after it
abbrev pub IsAsArmed : Armed → ℕ → Store → Ask → Say → Armed → ℕ → Store → Type 0
IsAsArmed armed own old ask say left owned new =
    IsLeft (HasFailed own owned) armed say left × FailsAsArmed (HasFailed own owned) armed old ask say left new

-- a step from one device to another, if the first is honest
abbrev pub AnswersAsArmed : {S : Type 0} → (S → Type 0) → (S → Armed) → (S → ℕ) → (S → Store) → S → Ask → Say → S → Type 0
AnswersAsArmed honest armed own store old ask say new = honest old → IsAsArmed (armed old) (own old) (store old) ask say (armed new) (own new) (store new)
