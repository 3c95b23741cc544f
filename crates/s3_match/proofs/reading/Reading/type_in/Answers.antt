use Rattle.std.proofs.Common.{◌∙◌, ◌<◌, length, sym, ap, subst, arith, option_map}
use Rattle.s3_match.specs.Inner.Types.{IsOnlyType, kind_at}
use Rattle.s3_match.proofs.TypeLemmas.{type_found, type_starts_there}
use Rattle.s3_match.proofs.ToldLemmas.{only_found}
use Rattle.s3_match.proofs.reading.Reading.type_in.Goals as goal

pub returns-then-is_some-clause-found : goal.returns-then-is_some-clause-found
returns-then-is_some-clause-found c =
    let told = c.requires.sound.only_types in
    let within : c.args.file < length c.args.self.now.only_types.items = omega (arith, told.many, c.requires.within) in
    let is = subst (IsOnlyType c.args.program.now c.args.file) (sym c.index.ensures) (told.each c.args.file _ within) in
    ap (option_map (kind_at c.args.program.now)) (only_found c.args.program.now c.args.file c.args.bytes.now c.index.result.now is (sym c.is_some.ensures ∙ c.if-is_some.true))
    ∙ type_found c.args.program.now c.args.file c.args.bytes.now c.requires.within

pub returns-then-is_some-clause-starts : goal.returns-then-is_some-clause-starts
returns-then-is_some-clause-starts c =
    let told = c.requires.sound.only_types in
    let within : c.args.file < length c.args.self.now.only_types.items = omega (arith, told.many, c.requires.within) in
    let is = subst (IsOnlyType c.args.program.now c.args.file) (sym c.index.ensures) (told.each c.args.file _ within) in
    type_starts_there c.args.program.now c.args.file c.args.bytes.now _ (only_found c.args.program.now c.args.file c.args.bytes.now c.index.result.now is (sym c.is_some.ensures ∙ c.if-is_some.true))
