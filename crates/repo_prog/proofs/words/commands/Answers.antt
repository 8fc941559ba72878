use Rattle.std.proofs.Common.{rules, ◌≡◌, [], codes, true}
use Rattle.clap.specs.Simple.{app_of, new_shape}
use Rattle.repo_prog.proofs.SpelledLemmas.{commands_on, commands_on_of, program_of}
use Rattle.repo_prog.proofs.words.commands.Goals as goal

pub returns : goal.returns
returns c =
    let begun : app_of c.subcommand_required-program.result ≡ record { top = record (new_shape (codes "vault")) { has_version = true; subcommand_required = true }; subs = [] } = search rules in
    let two = commands_on _ _ _ _ _ (c.in_ok-program.ensures _ _ c.init_words.ensures) (c.in_ok-program-2.ensures _ _ c.serve_words.ensures) in
    let errands = commands_on _ _ _ _ _ two c.in_ok-program-3.ensures in
    let frames = commands_on _ _ _ _ _ errands (c.in_ok-program-4.ensures _ _ c.frames_words.ensures) in
    let play = commands_on _ _ _ _ _ frames (c.in_ok-program-5.ensures _ _ c.play_words.ensures) in
    program_of _ _ _ c.with_command-5.result begun (commands_on_of _ _ _ _ c.with_command-5.result play (c.with_command-5.ensures _ _ c.loop_words.ensures))
