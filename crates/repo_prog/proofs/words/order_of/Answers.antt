use Rattle.std.proofs.Common.{◌≡◌, sym, ◌∙◌, Some, ap, subst, map, option_map, string_bytes, [], true}
use Rattle.clap.specs.Faults.{fault_of, is_simple_and_free}
use Rattle.clap.specs.Kinds.{HasKind}
use Rattle.clap.specs.Matches.{found_of, subcommand_name_of}
use Rattle.clap.specs.Simple.{App, HasMatchesOf, subcommand_of, subcommand_rows_of}
use Rattle.clap.specs.Words.{rows_of}
use Rattle.repo_prog.specs.Spelled.{vault_app}
use Rattle.repo_prog.proofs.Entering.{entered, read_refused, refused_words, vault_is_free, vault_is_simple}
use Rattle.repo_prog.proofs.words.order_of.Goals as goal

pub returns-in_err-matches-clause-reads : goal.returns-in_err-matches-clause-reads
returns-in_err-matches-clause-reads c =
    let line = map string_bytes c.args.words.now in
    let error = c.in_err-matches.field-0.0 in
    let has : HasKind (fault_of vault_app line) error = subst (λ (a : App). is_simple_and_free a ≡ true → HasKind (fault_of a line) error) c.in_ok-commands.ensures c.in_err-matches.ensures.kinds vault_is_free in
    read_refused line error c.from_residual-in_err-matches.result has c.from_residual-in_err-matches.ensures.1

pub returns-in-Ok-clause-reads : goal.returns-in-Ok-clause-reads
returns-in-Ok-clause-reads c =
    let line = map string_bytes c.args.words.now in
    let m = c.in_ok-matches.matches in
    let read : subcommand_rows_of m ≡ subcommand_of vault_app line = (subst (λ (a : App). HasMatchesOf a line m) c.in_ok-commands.ensures c.in_ok-matches.ensures.matches vault_is_simple).1 in
    let named : subcommand_name_of m ≡ Some c.in-Some.command.now = sym c.subcommand.ensures.name ∙ ap (λ o. option_map (λ p. p.0.now) o) c.in-Some.is in
    let rows = sym c.subcommand.ensures.rows ∙ ap (λ o. option_map (λ p. rows_of (found_of p.1.now)) o) c.in-Some.is in
    let there = sym read ∙ entered m _ _ named rows in
    record { words = c.in-Some.words.now; read = there ∙ ap (λ w. Some (w, rows_of (found_of c.in-Some.words.now))) (sym c.in-Ok.ensures.asked.0); asked = c.in-Ok.ensures.asked.1 }

pub returns-clause-reads : goal.returns-clause-reads
returns-clause-reads c =
    let line = map string_bytes c.args.words.now in
    let none : fault_of vault_app line ≡ [] = subst (λ (a : App). is_simple_and_free a ≡ true → fault_of a line ≡ []) c.in_ok-commands.ensures c.in_ok-matches.ensures.kinds vault_is_free in
    refused_words line c.in-Err.error none
