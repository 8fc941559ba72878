use Rattle.repo_prog.proofs.SpelledLemmas.{commands_on, commands_on_of}
use Rattle.repo_prog.proofs.errands.with_locks.Goals as goal

pub returns : goal.returns
returns c =
    let to_refresh_words = commands_on _ _ _ _ _ (c.in_ok-program.ensures _ _ c.errand_words.ensures) (c.in_ok-program-2.ensures _ _ c.refresh_words.ensures) in
    commands_on_of _ _ _ _ c.with_command-3.result to_refresh_words (c.with_command-3.ensures _ _ c.unlock_words.ensures)
