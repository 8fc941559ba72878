use Rattle.std.proofs.Common.{rules, ◌≡◌, ◌≢◌, ◌∙◌, sym, option_map}
use Rattle.std.proofs.lemmas.Bool.{true≢false}
use Rattle.std.proofs.lemmas.Result.{on_ok_weaker}
use Rattle.repo_folder.proofs.ListingLemmas.{no_text, joins_no_text, joins_elsewhere, joins_below, joins_name}
use Rattle.repo_folder.proofs.listing.add_name.Goals as goal

pub returns-in_default : goal.returns-in_default
returns-in_default c =
    let none = no_text c.from_hex.result c.args.text.now c.in_default.field-0 c.in_default.is c.from_hex.ensures.length.0 c.from_hex.ensures.digit in
    joins_no_text c.args.kind c.args.room (option_map (λ name. name.now) c.args.after) c.args.text.now c.args.names.now none

pub returns-then-ne : goal.returns-then-ne
returns-then-ne c =
    let other : c.room_of.result ≢ c.args.room = search rules in
    joins_elsewhere c.args.kind c.args.room (option_map (λ name. name.now) c.args.after) c.args.text.now c.args.names.now c.in-Ok.name c.in-Ok.ensures.name c.in-Ok.ensures.ok (λ at. other (c.room_of.ensures.room ∙ at))

pub returns-then-not-is_above : goal.returns-then-not-is_above
returns-then-not-is_above c =
    let after = option_map (λ name. name.now) c.args.after in
    joins_below c.args.kind c.args.room after c.args.text.now c.args.names.now c.in-Ok.name c.in-Ok.ensures.name c.in-Ok.ensures.ok
    (λ up. true≢false (sym (c.is_above.ensures.1 up) ∙ c.if-not-is_above.true))

pub returns : goal.returns
returns c =
    let same : c.room_of.result ≡ c.args.room = search rules in
    on_ok_weaker c.insert_named.result
    (joins_name c.args.kind c.args.room (option_map (λ name. name.now) c.args.after) c.args.text.now c.args.names.now c.insert_named.new.map c.in-Ok.name c.in-Ok.ensures.name c.in-Ok.ensures.ok (sym c.room_of.ensures.room ∙ same))
    c.insert_named.ensures.ok
