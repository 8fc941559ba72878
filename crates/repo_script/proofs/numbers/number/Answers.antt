use Rattle.std.proofs.Common.{◌∙◌, sym, lit<}
use Rattle.repo_script.proofs.NumberLemmas.{number_read}
use Rattle.repo_script.proofs.numbers.number.Goals as goal

pub returns : goal.returns
returns c =
    let plain = sym (c.starts_with.ensures.byte (lit< tt) (lit< tt) (λ w o h. h)) ∙ c.if-starts_with.false in
    c.ok.ensures.value ∙ number_read 64 c.args.word.now c.parse.result plain c.parse.ensures.value.0
