use Rattle.std.proofs.Common.{◌+◌, ◌-◌, ◌∙◌, length, drop, ap, arith, length-drop}
use Rattle.std.specs.List.{list_any}
use Rattle.std.proofs.lemmas.List.{take_all}
use Rattle.s3_match.specs.Inner.Fields.{names_level}
use Rattle.s3_match.proofs.NamedLemmas.{types_begin}
use Rattle.s3_match.proofs.fields.some_type_names_level.Goals as goal

pub returns-then-starts_type : goal.returns-then-starts_type
returns-then-starts_type c =
    types_begin c.args.key c.args.lines.now c.loop-place.place _ c.some_names_level.result c.starts_type.result c.loop-place-test.true c.loop-place.invariant c.starts_type.ensures c.if-starts_type.true
    (c.some_names_level.ensures
    ∙ ap (list_any (names_level c.args.key))
    (take_all (length c.args.lines.now - (c.loop-place.place + 1)) (drop (c.loop-place.place + 1) c.args.lines.now) (omega (arith, length-drop (c.loop-place.place + 1) c.args.lines.now))))
