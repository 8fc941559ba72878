use Rattle.repo_prog.proofs.SpelledLemmas.{more_words_of}
use Rattle.repo_prog.proofs.errands.unlock_words.Goals as goal

pub returns : goal.returns
returns c = more_words_of _ _ _ _ c.with_word.result c.in_ok-command.ensures (c.with_word.ensures _ c.flag.ensures)
