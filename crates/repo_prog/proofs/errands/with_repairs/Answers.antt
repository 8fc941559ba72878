use Rattle.repo_prog.proofs.SpelledLemmas.{commands_on, commands_on_of}
use Rattle.repo_prog.proofs.errands.with_repairs.Goals as goal

pub returns : goal.returns
returns c =
    let to_prune_words = commands_on _ _ _ _ _ (c.in_ok-program.ensures _ _ c.forget_words.ensures) (c.in_ok-program-2.ensures _ _ c.prune_words.ensures) in
    let to_check_words = commands_on _ _ _ _ _ to_prune_words (c.in_ok-program-3.ensures _ _ c.check_words.ensures) in
    commands_on_of _ _ _ _ c.with_command-4.result to_check_words (c.with_command-4.ensures _ _ c.upgrade_words.ensures)
