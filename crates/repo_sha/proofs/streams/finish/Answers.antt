use Rattle.std.proofs.Common.{ap, ◌∙◌}
use Rattle.sha2.specs.Sha256.{digest_bytes, sha256}
use Rattle.repo_sha.specs.inner.Messages.{hash_to}
use Rattle.repo_sha.proofs.streams.finish.Goals as goal

pub returns : goal.returns
unfolding sha256
returns c =
    let message = c.args.message.now in
    c.bytes_of.ensures ∙ ap (λ h. digest_bytes h 8) (c.take_rest.ensures ∙ ap (hash_to message.bytes.now) message.counted)
