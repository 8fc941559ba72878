use Rattle.std.proofs.Common.{ℕ, List, Some, None, subst, ◌∙◌}
use Rattle.repo_prog.specs.Addresses.{LeavesPort}
use Rattle.repo_prog.proofs.AddressLemmas.{LacksColon, split_parts, left_port, reads_zero, some_not_none, one_number, of_none, has_colon}
use Rattle.repo_prog.proofs.addresses.host_alone.Goals as goal

pub returns-in_err-host-clause-none : goal.returns-in_err-host-clause-none
returns-in_err-host-clause-none c =
    let X : Type 0 = (host : List ℕ) → LeavesPort c.args.text.now host → ⊥ in
    let x : X = λ host is. has_colon host is.0 (subst LacksColon is.1 (split_parts c.args.text.now None c.in_err-host.ensures.cases)) in
    of_none X c.from_residual.result x

pub returns-in_err-port-clause-none : goal.returns-in_err-port-clause-none
returns-in_err-port-clause-none c =
    let X : Type 0 = (host : List ℕ) → LeavesPort c.args.text.now host → ⊥ in
    let parts = split_parts c.args.text.now (Some (c.in_ok-host.host, c.in_ok-host.port)) c.in_ok-host.ensures.cases in
    let x : X = λ host is.
    let left = left_port c.args.text.now c.in_ok-host.host.now c.in_ok-host.port.now host parts.0 parts.1 is in
    some_not_none c.ok.result 0 c.in_err-port.was (c.ok.ensures.value ∙ reads_zero c.in_ok-host.port.now c.parse.result c.parse.ensures.value.0 left.0 left.1) in
    of_none X c.from_residual-in_err-port.result x

pub returns-else-port-eq0-clause-none : goal.returns-else-port-eq0-clause-none
returns-else-port-eq0-clause-none c host is =
    let parts = split_parts c.args.text.now (Some (c.in_ok-host.host, c.in_ok-host.port)) c.in_ok-host.ensures.cases in
    let left = left_port c.args.text.now c.in_ok-host.host.now c.in_ok-host.port.now host parts.0 parts.1 is in
    c.if-port-eq0.false (one_number c.ok.result c.in_ok-port.port 0 c.in_ok-port.was (c.ok.ensures.value ∙ reads_zero c.in_ok-host.port.now c.parse.result c.parse.ensures.value.0 left.0 left.1))
