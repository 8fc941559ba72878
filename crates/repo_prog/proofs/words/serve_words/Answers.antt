use Rattle.std.proofs.Common.{[], codes, ap, ◌∙◌}
use Rattle.clap.specs.Simple.{app_of_fields}
use Rattle.repo_prog.specs.Spelled.{IsCommand}
use Rattle.repo_prog.proofs.SpelledLemmas.{is_shared, more_words, more_words_of}
use Rattle.repo_prog.proofs.words.serve_words.Goals as goal

pub returns : goal.returns
returns c =
    let begun : IsCommand (codes "serve") [] c.after_help-command.result = (ap app_of_fields c.after_help-command.ensures ∙ ap app_of_fields c.about.ensures ∙ c.new.ensures.app, ap is_shared c.after_help-command.ensures ∙ ap is_shared c.about.ensures ∙ c.new.ensures.local) in
    let with_1 = more_words _ _ _ _ _ begun (c.in_ok-command.ensures _ c.needed.ensures) in
    let with_2 = more_words _ _ _ _ _ with_1 (c.in_ok-command-2.ensures _ c.needed-2.ensures) in
    let with_3 = more_words _ _ _ _ _ with_2 (c.in_ok-command-3.ensures _ c.number.ensures) in
    let with_4 = more_words _ _ _ _ _ with_3 (c.in_ok-command-4.ensures _ c.number-2.ensures) in
    let with_5 = more_words _ _ _ _ _ with_4 (c.in_ok-command-5.ensures _ c.memory.ensures) in
    let with_6 = more_words _ _ _ _ _ with_5 (c.in_ok-command-6.ensures _ c.idle.ensures) in
    more_words_of _ _ _ _ c.with_word-7.result with_6 (c.with_word-7.ensures _ c.flag.ensures)
