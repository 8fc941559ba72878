use Rattle.std.proofs.Common.{rules, ◌≡◌, Ok}
use Rattle.std.proofs.lemmas.Result.{IfOk-at_ok}
use Rattle.repo_prog.specs.Spelled.{IsOfKind}
use Rattle.repo_prog.proofs.SpelledLemmas.{one_word_of}
use Rattle.repo_prog.proofs.words.with_word.Goals as goal

pub returns-in-Ok : goal.returns-in-Ok
returns-in-Ok c rule is =
    let there : c.args.word ≡ Ok c.in-Ok.word = search rules in
    one_word_of c.args.command c.in-Ok.word rule c.arg.result (IfOk-at_ok (IsOfKind rule) there is) c.arg.ensures
