use Rattle.std.proofs.Common.{rules, ◌≡◌, length, sym, ap, ◌∙◌}
use Rattle.repo_backup.proofs.Ending.{pieces_count}
use Rattle.repo_backup.proofs.ended.Ended.len.Goals as goal

pub returns : goal.returns
returns c =
    let count : c.len.result ≡ length c.self.inside.lengths.items = search rules in
    count ∙ sym (pieces_count c.self.inside.bytes.items c.self.inside.lengths.items) ∙ ap length c.self.view_is
