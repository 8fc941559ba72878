use Rattle.std.specs.Prelude.{option_map}
use Rattle.std.proofs.Common.{◌≡◌, None, sym, ap, subst, ◌∙◌}
use Rattle.repo_feeding.specs.FedStates.{IsPutting, next_of}
use Rattle.repo_feeding.proofs.fed_backups.FedBackup.is_putting.Goals as goal

pub returns-in-None : goal.returns-in-None
returns-in-None g c = (
  λ t. absurd (cc),
  λ putting. (
      let none : next_of c.args.self.now.backup c.args.self.now.awaited ≡ None = sym c.request.ensures.next ∙ ap (option_map (λ r. r.now)) c.in-None.is in
      absurd (subst IsPutting none putting)),
)
