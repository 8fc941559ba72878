-- What a reply to a put comes to for the job of a backup.
use Rattle.std.proofs.Common.{◌≡◌, ℕ, List, sym, subst}
use Rattle.repo_name.specs.declared.kinds.Kind.{Kind}
use Rattle.repo_name.specs.declared.names.Name.{Name}
use Rattle.repo_name.specs.declared.tokens.Token.{Token}
use Rattle.repo_session.specs.Askers.{Holding}
use Rattle.repo_session.specs.Traces.{Trace}
use Rattle.repo_session.specs.declared.jobs.Step.{Step}
use Rattle.repo_wire.specs.declared.messages.Ask.{Ask}
use Rattle.repo_wire.specs.declared.messages.Say.{Say}
use Rattle.repo_backup.specs.Backups.{Knows, BackupReplies}
use Rattle.repo_backup.specs.declared.backups.Backup.{Backup}

-- the request is this put, and it is done
pub replies_so : (old new : Backup) (holding : Holding) (token : Token) (k kind : Kind) (n : Name) (x : List ℕ) (ask : Ask) (say : Say) (step : Step) → ask ≡ Ask.Put token k n x → say ≡ Say.Done → k ≡ kind
    → BackupReplies Knows old holding (Ask.Put token kind n x) Say.Done step new → BackupReplies Knows old holding ask say step new
replies_so old new holding token k kind n x ask say step p q r h =
    subst (λ a. BackupReplies Knows old holding a say step new) (sym p) (subst (λ s. BackupReplies Knows old holding (Ask.Put token k n x) s step new) (sym q) (subst (λ j. BackupReplies Knows old holding (Ask.Put token j n x) Say.Done step new) (sym r) h))

-- what was known of it is known
pub knows_so : (old new : Backup) (token : Token) (k kind : Kind) (n : Name) (x : List ℕ) (ask : Ask) (es : Trace) → ask ≡ Ask.Put token k n x → k ≡ kind
    → (Knows old (Ask.Put token kind n x) es → Knows new (Ask.Put token kind n x) es) → Knows old ask es → Knows new ask es
knows_so old new token k kind n x ask es p r h = subst (λ a. Knows old a es → Knows new a es) (sym p) (subst (λ j. Knows old (Ask.Put token j n x) es → Knows new (Ask.Put token j n x) es) (sym r) h)
