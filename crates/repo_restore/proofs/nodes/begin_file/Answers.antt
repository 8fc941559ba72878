use Rattle.std.proofs.Common.{List, IfOk, subst}
use Rattle.repo_session.specs.declared.emissions.Emission.{Emission}
use Rattle.repo_restore.specs.Nodes.{BlobFollows}
use Rattle.repo_restore.proofs.nodes.begin_file.Goals as goal

pub returns : goal.returns
returns c =
    subst (λ (mid : List Emission). IfOk c.next_blob.result (BlobFollows c.args.lookup.now c.args.content.now 0 mid c.next_blob.new.out.items)) c.in_ok-push.ensures.items c.next_blob.ensures
