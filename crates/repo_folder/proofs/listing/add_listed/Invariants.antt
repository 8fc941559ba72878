use Rattle.std.proofs.Common.{take, option_map}
use Rattle.repo_folder.specs.Listings.{JoinsListed}
use Rattle.repo_folder.proofs.listing.add_listed.Given as goal

abbrev pub invariant-loop-text : goal.invariant-loop-text
invariant-loop-text l = JoinsListed l.kind l.room (option_map (λ name. name.now) l.after) (take l.text-index l.listing) l.fn.names l.names
