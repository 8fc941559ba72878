use Rattle.std.proofs.Common.{ap, ◌∙◌, is_some}
use Rattle.repo_locks.proofs.TokenMaps.{row_known, removed_under}
use Rattle.repo_locks.proofs.searches.leave_out_row.Goals as goal

pub returns : goal.returns
returns c =
    let old = c.args.rows.now.entries in
    let both = removed_under old c.remove.new.self.entries c.args.token c.requires.ascend.0 c.requires.under c.requires.ascend.1 c.remove.ensures.entries in
    record {
      was = c.is_some.ensures ∙ ap (λ o. is_some o) c.remove.ensures.value ∙ row_known old c.args.token c.requires.under;
      left = both.0;
      under = both.1;
    }
