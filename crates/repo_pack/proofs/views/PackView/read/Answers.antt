use Rattle.std.proofs.Common.{arith}
use Rattle.std.proofs.lemmas.Result.{err_from_is_err_and}
use Rattle.repo_pack.proofs.Packs.{blobs_short}
use Rattle.repo_pack.proofs.Passes.{no_pack}
use Rattle.repo_pack.proofs.Stands.{read_out}
use Rattle.repo_pack.proofs.views.PackView.read.Goals as goal

pub returns-in_err-blobs-clause-none : goal.returns-in_err-blobs-clause-none
returns-in_err-blobs-clause-none c =
    let p = err_from_is_err_and c.from_residual.result c.from_residual.ensures.1 in
    rw p.1 (λ items. no_pack c.args.bytes.now c.in_err-blobs.field-0.0 items c.in_err-blobs.ensures.fault)

pub invariant_of-result : goal.invariant_of-result
invariant_of-result c =
    let ok = c.in_ok-blobs.ensures.ok in
    (read_out c.args.bytes.now c.in_ok-blobs.header.now c.in_ok-blobs.blobs.now (λ i. omega (arith, c.type_inv.bytes i)) ok.0 ok.1 ok.2 ok.3 ok.4).0

pub returns-clause-ok : goal.returns-clause-ok
returns-clause-ok c =
    let ok = c.in_ok-blobs.ensures.ok in
    (read_out c.args.bytes.now c.in_ok-blobs.header.now c.in_ok-blobs.blobs.now (λ i. omega (arith, c.type_inv.bytes i)) ok.0 ok.1 ok.2 ok.3 ok.4).1

pub returns-clause-size : goal.returns-clause-size
returns-clause-size c =
    let ok = c.in_ok-blobs.ensures.ok in
    let is = (read_out c.args.bytes.now c.in_ok-blobs.header.now c.in_ok-blobs.blobs.now (λ i. omega (arith, c.type_inv.bytes i)) ok.0 ok.1 ok.2 ok.3 ok.4).1 in
    blobs_short c.args.bytes.now _ is
