use Rattle.std.proofs.Common.{refl}
use Rattle.std.proofs.lemmas.Result.{IfOk-weaker, on_err_weaker}
use Rattle.repo_prune.proofs.TreeReading.{promised}
use Rattle.repo_prune.proofs.reading.take_tree.Goals as goal

pub returns-in-Blob-clause-takes : goal.returns-in-Blob-clause-takes
returns-in-Blob-clause-takes c = IfOk-weaker c.take_bytes.result _ _
    (λ walked on texts a.
    let fetched = c.in-Blob.ensures in
    promised c.args.lookup.now texts c.args.fact c.args.say.now c.take_bytes.new.trees c.in-Blob.bytes.now (record { bytes = fetched.0; named = fetched.1; long = fetched.2 }) walked (on texts c.args.fact a refl fetched.1))
    c.take_bytes.ensures.on

pub returns-in-Blob-clause-still : goal.returns-in-Blob-clause-still
returns-in-Blob-clause-still c = on_err_weaker c.take_bytes.result (λ still texts a. still texts c.args.fact refl a) c.take_bytes.ensures.still
