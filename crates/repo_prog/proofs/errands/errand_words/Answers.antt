use Rattle.std.proofs.Common.{rules, []}
use Rattle.repo_prog.specs.Spelled.{IsCommand}
use Rattle.repo_prog.proofs.SpelledLemmas.{more_words, more_words_of}
use Rattle.repo_prog.proofs.errands.errand_words.Goals as goal

pub returns : goal.returns
returns c =
    let begun : IsCommand c.args.name.now [] c.after_help-command.result = search rules in
    more_words_of _ _ _ _ c.with_word-2.result (more_words _ _ _ _ _ begun (c.in_ok-command.ensures _ c.needed.ensures)) (c.with_word-2.ensures _ c.idle.ensures)
