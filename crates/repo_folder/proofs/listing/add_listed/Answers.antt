use Rattle.std.proofs.Common.{◌∙◌, subst, [], ◌∷◌, option_map}
use Rattle.repo_folder.specs.Listings.{JoinsListed}
use Rattle.repo_folder.proofs.ListingLemmas.{joins_more}
use Rattle.repo_folder.proofs.listing.add_listed.Goals as goal

pub loop-text-preserved : goal.loop-text-preserved
loop-text-preserved c =
    let after = option_map (λ name. name.now) c.args.after in
    let joins = subst (λ text. JoinsListed c.args.kind c.args.room after (text ∷ []) c.loop-text.names c.add_name.new.names) (c.as_str.ensures.text ∙ c.text-item.is) c.in_ok-add_name.ensures in
    joins_more c.args.kind c.args.room after c.args.listing.now c.loop-text.text-index _ c.args.names.now c.loop-text.names c.add_name.new.names c.loop-text-test.true c.loop-text.invariant joins
