use Rattle.std.proofs.Common.{rules}
use Rattle.std.proofs.lemmas.Bool.{ltb-true, lt-ltb}
use Rattle.repo_prune.proofs.Going.{kept_by_day}
use Rattle.repo_prune.proofs.standings.Standing.is_kept.Goals as goal

pub returns-then-self : goal.returns-then-self
returns-then-self c = λ rows place stands.
    let s = c.args.self.now in
    let policy = c.args.policy.now in
    let by = kept_by_day policy rows s.row.now place s stands (search rules) (search rules) (search rules) (search rules) in
    (λ few. by.0 (ltb-true s.days policy.daily few), λ kept. lt-ltb s.days policy.daily (by.1 kept))
