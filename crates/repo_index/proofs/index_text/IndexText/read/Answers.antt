use Rattle.std.proofs.Common.{ap}
use Rattle.std.proofs.lemmas.Result.{MatchResult-weaker, err_from_is_err_and}
use Rattle.serde_json.specs.View.{view}
use Rattle.repo_index.specs.IndexFaults.{index_error}
use Rattle.repo_index.proofs.FaultLemmas.{told_fault, faulty_text, unread_fault}
use Rattle.repo_index.proofs.index_text.IndexText.read.Goals as goal

pub returns-clause-fault : goal.returns-clause-fault
returns-clause-fault c =
    MatchResult-weaker c.index_of.result c.index_of.ensures.fault (λ _ t. t) (λ e h. told_fault c.args.bytes.now (view c.in_ok-value.value) e c.in_ok-value.ensures.ok h)

pub returns-clause-none : goal.returns-clause-none
returns-clause-none c =
    MatchResult-weaker c.index_of.result c.index_of.ensures.fault (λ _ t. t)
    (λ e h other. faulty_text c.args.bytes.now e (told_fault c.args.bytes.now (view c.in_ok-value.value) e c.in_ok-value.ensures.ok h) other)

pub returns-in_err-value-clause-fault : goal.returns-in_err-value-clause-fault
returns-in_err-value-clause-fault c =
    let p = err_from_is_err_and c.from_residual.result c.from_residual.ensures.1 in
    rw (p.1, p.2) (unread_fault c.args.bytes.now c.in_err-value.field-0.0 c.in_err-value.ensures.none)

pub returns-in_err-value-clause-none : goal.returns-in_err-value-clause-none
returns-in_err-value-clause-none c =
    let p = err_from_is_err_and c.from_residual.result c.from_residual.ensures.1 in
    rw (p.1, p.2) (λ other packs text. c.in_err-value.ensures.none (λ e. other (ap index_error e)) text.root text.json)
