use Rattle.std.proofs.Common.{◌≡◌, [], refl, sym, ap, subst, ◌∙◌}
use Rattle.std.proofs.lemmas.Option.{same_Some}
use Rattle.repo_backup.specs.PieceStates.{IsBegunAnew}
use Rattle.repo_backup.specs.Pieces.{PieceStands, IsReady, at_beginning}
use Rattle.repo_backup.proofs.piece_jobs.PieceJob.begin_again.Goals as goal

pub returns-clause-begun : goal.returns-clause-begun
returns-clause-begun c = λ b is.
    let a = c.in-Some.backing in
    let same : b ≡ a = same_Some b a (sym is ∙ c.in-Some.is) in
    let d = c.new.result in
    let work = c.new.ensures.work in
    let anew : IsBegunAnew a d = record {
      params = ap (λ w. w.walk.params) work ∙ c.new-work.ensures.params;
      version = ap (λ w. w.walk.version) work ∙ c.new-work.ensures.version;
      aim = ap (λ w. w.packing.packer.target) work ∙ c.new-work.ensures.aims.1;
      aims = ap (λ w. w.packing.packer.writer.target) work ∙ c.new-work.ensures.aims.0;
      stands = λ facts. subst (λ w. PieceStands w facts at_beginning [] []) (sym work) (c.new-work.ensures.stands facts);
      ready = subst (λ w. IsReady w) (sym work) c.new-work.ensures.ready;
      waiting = c.new.ensures.waiting;
      listed = c.new.ensures.listed;
      counted = c.new.ensures.counts;
    } in
    (d, refl, subst (λ x. IsBegunAnew x d) (sym same) anew)
