use Rattle.std.proofs.Common.{rules, ◌≡◌, ◌++◌, [], map, refl, ap, ◌∙◌}
use Rattle.repo_name.specs.Naming as naming
use Rattle.repo_sha.specs.Pieces.{pieces}
use Rattle.repo_backup.specs.Waiting.{name_in}
use Rattle.repo_backup.proofs.Waits.{names_from}
use Rattle.repo_backup.proofs.ended.Ended.names.Goals as goal

pub returns : goal.returns
returns c =
    let chunks : pieces c.deref.result.now c.deref-2.result.now ≡ c.args.self.now = (λ i. pieces (c.deref.ensures.value i) (c.deref-2.ensures.value i)) ∙ c.self.view_is in
    let none : c.in_ok-names.names.items ≡ [] = search rules in
    c.add_names.ensures ∙ (λ i. none i ++ map name_in (c.deref-3.ensures.value i)) ∙ names_from _ c.in_ok-digests.digests.items (pieces c.deref.result.now c.deref-2.result.now) (λ x. refl) c.in_ok-digests.ensures ∙ ap (map naming.name) chunks
