use Rattle.std.proofs.Common.{rules}
use Rattle.std.specs.Prelude.{codes}
use Rattle.std.proofs.lemmas.Bool.Decides.{Decides-eqb}
use Rattle.std.proofs.lemmas.Slice.Eq.{ends_is}
use Rattle.repo_folder.proofs.places.is_draft.Goals as goal

pub returns : goal.returns
returns c =
    let ends = ends_is Decides-eqb c.args.name.now (codes ".vault-part") c.ends_with.result (search rules) in
    (λ is. (_, ends.0 is), λ draft. ends.1 draft.0 draft.1)
