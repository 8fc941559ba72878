use Rattle.std.proofs.Common.{rules, ◌≡◌, ◌<◌, ◌≤◌, ◌∙◌, ℕ, List, length, Some, ap, subst, arith}
use Rattle.std.proofs.lemmas.Result.{err_from_is_err_and}
use Rattle.serde_json.specs.Data.{depth}
use Rattle.serde_json.specs.View.{view}
use Rattle.serde_json.specs.Written.{has_float, compact_text}
use Rattle.repo_tree.specs.PartWriting.{part_data, part_text}
use Rattle.repo_tree.proofs.WritingLemmas.{part_float, part_depth, part_reads, faulty_node, part_some}
use Rattle.repo_tree.proofs.part_writing.written_part.Goals as goal
use Rattle.repo_name.specs.Limits.{blob_limit}

pub returns-in_err-check_nodes-clause-writable : goal.returns-in_err-check_nodes-clause-writable
returns-in_err-check_nodes-clause-writable c =
    let p = err_from_is_err_and c.from_residual.result c.from_residual.ensures.1 in
    rw (p.1, p.2) (λ writable. absurd (faulty_node c.args.nodes.now c.in_err-check_nodes.field-0.0 c.in_err-check_nodes.ensures.fault writable))

pub returns-then-len-gt-BLOB_LIMIT-clause-fault : goal.returns-then-len-gt-BLOB_LIMIT-clause-fault
returns-then-len-gt-BLOB_LIMIT-clause-fault c =
    let value : view c.in_ok-value.value ≡ part_data c.args.nodes.now c.args.next = c.in_ok-value.ensures.value in
    let text : c.in_ok-text.text.items ≡ part_text c.args.nodes.now c.args.next =
    c.in_ok-text.ensures.text (ap has_float value ∙ part_float c.args.nodes.now c.args.next) ∙ ap compact_text value in
    let long : blob_limit < length c.in_ok-text.text.items = search rules in
    (c.in_ok-check_nodes.ensures.ok, subst (λ (t : List ℕ). blob_limit < length t) text long)

pub returns-clause-text : goal.returns-clause-text
returns-clause-text c =
    let value : view c.in_ok-value.value ≡ part_data c.args.nodes.now c.args.next = c.in_ok-value.ensures.value in
    c.in_ok-text.ensures.text (ap has_float value ∙ part_float c.args.nodes.now c.args.next) ∙ ap compact_text value

pub returns-clause-reads : goal.returns-clause-reads
returns-clause-reads c =
    let value : view c.in_ok-value.value ≡ part_data c.args.nodes.now c.args.next = c.in_ok-value.ensures.value in
    let short : length c.in_ok-text.text.items ≤ blob_limit = search rules in
    let shallow : depth (view c.in_ok-value.value) ≤ 127 = rw value (part_depth c.args.nodes.now c.args.next) in
    let reads = c.in_ok-text.ensures.reads_back shallow ∙ ap Some value in
    part_reads c.args.nodes.now c.args.next c.in_ok-text.text.items c.in_ok-check_nodes.ensures.ok c.in_ok-value.ensures.named c.in_ok-value.ensures.goes_on short c.in_ok-text.ensures.utf8 reads

pub returns-clause-some : goal.returns-clause-some
returns-clause-some c =
    let value : view c.in_ok-value.value ≡ part_data c.args.nodes.now c.args.next = c.in_ok-value.ensures.value in
    let text : c.in_ok-text.text.items ≡ part_text c.args.nodes.now c.args.next =
    c.in_ok-text.ensures.text (ap has_float value ∙ part_float c.args.nodes.now c.args.next) ∙ ap compact_text value in
    omega (arith, ap length text, part_some c.args.nodes.now c.args.next)
