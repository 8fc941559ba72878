use Rattle.std.proofs.Common.{rules, ◌≡◌, ◌++◌, ◌∷◌, [], sym, subst}
use Rattle.repo_dial.specs.Ends.{Records}
use Rattle.repo_dial.specs.Recording.{passage_of, recorded}
use Rattle.repo_dial.proofs.RecordLemmas.{pushed}
use Rattle.repo_dial.proofs.recording.Tape.push.Goals as goal

pub returns-else-is_err : goal.returns-else-is_err
returns-else-is_err c =
    let tape = c.self.inside in
    let next = passage_of c.args.went ∷ [] in
    let items : c.push.new.self.items ≡ tape.went.items ++ c.args.went ∷ [] = search rules in
    let more = subst (λ x. Records (recorded tape.is_whole tape.went.items) next (recorded tape.is_whole x)) (sym items) (pushed tape.is_whole tape.went.items c.args.went) in
    subst (λ x. Records x next (recorded tape.is_whole c.push.new.self.items)) c.self.view_is more
