use Rattle.std.proofs.Common.{◌≢◌, [], ℕ, List, Result, Ok, Err, IfOk, IsUtf8, sym, ◌∙◌, true≢false}
use Rattle.std.specs.Borrow.{Bor}
use Rattle.std.specs.List.{All}
use Rattle.std.proofs.lemmas.List.Elements.{All-map}
use Rattle.repo_script.specs.Cuts.{words}
use Rattle.repo_script.specs.Lines.{line_of, IsLine, GivesLine}
use Rattle.repo_script.specs.declared.faults.LineError.{LineError}
use Rattle.repo_script.specs.declared.lines.Line.{Line}
use Rattle.repo_script.proofs.CutLemmas.{all_mapped}
use Rattle.repo_script.proofs.reading.text_line.Goals as goal

abbrev now : Bor (List ℕ) → List ℕ
now word = word.now

pub returns-then-not-are_words-clause-refused : goal.returns-then-not-are_words-clause-refused
returns-then-not-are_words-clause-refused c = λ e line h.
    let items = c.in_ok-words.words.items in
    let each = all_mapped (λ word. word ≢ []) now items (rw (sym c.in_ok-words.ensures) at h.1) in
    true≢false (sym (c.are_words.ensures.1 (rw c.as_slice.ensures.value each)) ∙ c.if-not-are_words.true)

read_so : (text : List ℕ) (r : Result Line LineError) → IsUtf8 text → All (λ word. word ≢ []) (words text) → GivesLine (line_of (words text)) r → IfOk r (λ line. IsLine text line)
read_so text (Ok line) utf8 each given = (utf8, each, given)
read_so text (Err e) utf8 each given = tt

pub returns-clause-line : goal.returns-clause-line
returns-clause-line c =
    let items = c.in_ok-words.words.items in
    let each = All-map (λ word. word ≢ []) now items (rw c.as_slice.ensures.value at (c.are_words.ensures.0 c.if-not-are_words.false)) in
    let given = rw c.as_slice-2.ensures.value at c.line_of.ensures in
    read_so c.args.text.now c.line_of.result c.utf8.text (rw c.in_ok-words.ensures at each) (rw c.in_ok-words.ensures at given)
