use Rattle.repo_prog.proofs.SpelledLemmas.{more_words, more_words_of}
use Rattle.repo_prog.proofs.errands.backup_words.Goals as goal

pub returns : goal.returns
returns c =
    let again = more_words _ _ _ _ _ c.in_ok-errand_words.ensures c.in_ok-command.ensures in
    more_words_of _ _ _ _ c.with_word-2.result (more_words _ _ _ _ _ again (c.in_ok-command-2.ensures _ c.needed.ensures)) (c.with_word-2.ensures _ c.needed-2.ensures)
