use Rattle.std.proofs.Common.{ap, map, ◌∙◌, subst}
use Rattle.repo_sha.specs.Pieces.{pieces}
use Rattle.repo_pack.specs.PackReading.{items_in, IsLaidOut}
use Rattle.repo_pack.proofs.NameLemmas.{digest, count_told, names_told}
use Rattle.repo_pack.proofs.views.PackView.all_named.Goals as goal

pub have_names-requires : goal.have_names-requires
have_names-requires c =
    let header = c.self.inside.header.now in
    let blobs = c.self.inside.blobs.now in
    let digests = c.deref-2.ensures.value ∙ c.in_ok-digests.ensures ∙ ap (λ lengths. map digest (pieces blobs lengths)) c.deref.ensures.value in
    count_told header blobs (items_in header blobs) c.self.invariant c.in_ok-lengths.lengths.items c.deref-2.result.now c.in_ok-lengths.ensures digests

pub returns : goal.returns
returns c =
    let header = c.self.inside.header.now in
    let blobs = c.self.inside.blobs.now in
    let laid = subst (IsLaidOut header blobs) c.self.view_is c.self.invariant in
    let digests = c.deref-2.ensures.value ∙ c.in_ok-digests.ensures ∙ ap (λ lengths. map digest (pieces blobs lengths)) c.deref.ensures.value in
    let told = names_told header blobs c.args.self.now laid c.in_ok-lengths.lengths.items c.deref-2.result.now c.in_ok-lengths.ensures digests in
    (λ yes. told.0 (c.have_names.ensures.0 yes), λ each. c.have_names.ensures.1 (told.1 each))
