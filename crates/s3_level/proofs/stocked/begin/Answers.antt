use Rattle.std.proofs.Common.{◌≡◌, sym, ap, ◌∙◌, Some}
use Rattle.std.specs.Option.{option_copied_mut}
use Rattle.indexmap.specs.IndexMap.{get}
use Rattle.s3_cards.specs.Names.{same_name}
use Rattle.s3_level.proofs.Library.{begun_there, lent_back}
use Rattle.s3_level.proofs.stocked.begin.Goals as goal

pub returns-clause-cycle : goal.returns-clause-cycle
returns-clause-cycle c =
    let there : get same_name c.args.library.now c.args.name ≡ Some c.in-Some.stocked.now = sym c.get_mut.ensures.value ∙ ap option_copied_mut c.in-Some.is in
    begun_there c.begin.result (get same_name c.args.library.now c.args.name) c.in-Some.stocked.now c.args.switches c.args.date there c.begin.ensures.cycle

pub returns-clause-same : goal.returns-clause-same
returns-clause-same c =
    let there : get same_name c.args.library.now c.args.name ≡ Some c.in-Some.stocked.now = sym c.get_mut.ensures.value ∙ ap option_copied_mut c.in-Some.is in
    lent_back c.args.library.now (c.get_mut.follows.lender c.begin.new.self) c.args.name c.in-Some.stocked.now c.begin.new.self there c.begin.ensures.same (c.get_mut.follows.holds c.begin.new.self).3
