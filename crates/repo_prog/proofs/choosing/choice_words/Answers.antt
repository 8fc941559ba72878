use Rattle.std.proofs.Common.{rules, codes, ◌≡◌, Some}
use Rattle.clap.specs.Lexer.{usize_max}
use Rattle.repo_prog.specs.Spelled.{listed_rule}
use Rattle.repo_prog.proofs.SpelledLemmas.{is_some_of, words_on, words_on_of}
use Rattle.repo_prog.proofs.choosing.choice_words.Goals as goal

pub returns : goal.returns
returns c =
    let counts = words_on _ _ _ _ _ (c.in_ok-command.ensures _ c.count.ensures) (c.in_ok-command-2.ensures _ c.count-2.ensures) in
    let hosted = words_on _ _ _ _ _ counts (c.in_ok-command-3.ensures _ c.of_host.ensures) in
    let flagged = words_on _ _ _ _ _ hosted (c.in_ok-command-4.ensures _ c.flag.ensures) in
    let range : c.num_args.result.num_vals ≡ Some (record { start_inclusive = 0; end_inclusive = usize_max }) = is_some_of _ _ c.num_args.ensures.1 in
    words_on_of _ _ _ _ c.with_word-5.result flagged (c.with_word-5.ensures (listed_rule (codes "NAME")) (search rules))
