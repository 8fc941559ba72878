use Rattle.std.proofs.Common.{◌++◌, ◌∷◌, [], refl, sym, ap, ◌∙◌}
use Rattle.repo_tree.specs.declared.nodes.Node.{Node}
use Rattle.repo_tree.specs.declared.nodes.NodeKind.TheVariants.{File}
use Rattle.repo_backup.specs.Pieces.{with_file}
use Rattle.repo_backup.specs.declared.piece_works.PieceWork.{PieceWork}
use Rattle.repo_backup.proofs.Closing.{file_closed}
use Rattle.repo_backup.proofs.Piecing.{nothing_taken}
use Rattle.repo_backup.proofs.piece_works.PieceWork.close_file.Goals as goal

pub returns-in-Ok-clause-ok : goal.returns-in-Ok-clause-ok
returns-in-Ok-clause-ok c =
    let w = c.args.self.now in
    let f = c.in-Some.file in
    let g = c.pack_rest.new.file in
    let names = g.content.items in
    let node : Node = record { name = g.name; what = File g.size names } in
    let v : PieceWork = record w { walk = c.end_file.new.self; packing = c.pack_rest.new.packing } in (
      refl,
      file_closed w v f node names c.args.lookup.now (sym c.in-Some.ensures.value) c.end_file.ensures.params c.end_file.ensures.version c.requires.ready.unlaid (ap (λ x. x.items) c.end_file.ensures.above) (c.end_file.ensures.file ∙ c.take.ensures.after) c.end_file.ensures.root
          (c.end_file.ensures.nodes ∙ ap (λ l. l ++ node ∷ []) c.reserve.ensures.items) (λ i. record { name = c.pack_rest.ensures.name i; what = File (c.pack_rest.ensures.size i) names })
          c.in-Ok.ensures.ok.content c.min.ensures.lawful c.requires.ready.unended c.in-Ok.ensures.ok.packs,
    )

pub returns-in-Err-clause-stays : goal.returns-in-Err-clause-stays
returns-in-Err-clause-stays c =
    let w = c.args.self.now in
    let f = c.in-Some.file in
    let g = c.pack_rest.new.file in
    let v : PieceWork = with_file (record w { walk = record w.walk { nodes = c.reserve.new.self } }) g c.pack_rest.new.packing in
    let err = c.in-Err.ensures.err in
    nothing_taken w v f g c.args.lookup.now (sym c.in-Some.ensures.value) (record { params = refl; version = refl; above = refl; nodes = c.reserve.ensures.items; root = refl }) refl c.requires.ready.unlaid err.0.0 err.0.1 err.0.2 err.0.3 err.0.4 err.0.5 err.1.2 (ap (λ x. x.items) err.1.0)
