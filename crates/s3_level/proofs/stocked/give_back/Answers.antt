use Rattle.std.proofs.Common.{◌≡◌, sym, ap, ◌∙◌, Some}
use Rattle.std.specs.Option.{option_copied_mut}
use Rattle.indexmap.specs.IndexMap.{get}
use Rattle.s3_cards.specs.Names.{same_name}
use Rattle.s3_level.proofs.Library.{lent_back}
use Rattle.s3_level.proofs.stocked.give_back.Goals as goal

pub give_back-requires : goal.give_back-requires
give_back-requires c = c.requires c.in-Some.stocked.now (sym c.get_mut.ensures.value ∙ ap option_copied_mut c.in-Some.is)

pub returns-in-Some : goal.returns-in-Some
returns-in-Some c =
    let there : get same_name c.args.library.now c.args.name ≡ Some c.in-Some.stocked.now = sym c.get_mut.ensures.value ∙ ap option_copied_mut c.in-Some.is in
    lent_back c.args.library.now (c.get_mut.follows.lender c.give_back.new.self) c.args.name c.in-Some.stocked.now c.give_back.new.self there c.give_back.ensures (c.get_mut.follows.holds c.give_back.new.self).3
