use Rattle.std.proofs.Common.{◌∙◌, ◌<◌, length, drop, ap, arith}
use Rattle.s3_match.specs.Inner.Types.{type_holds, first_that_holds}
use Rattle.s3_program.proofs.TypeLemmas.{as_many, own_starts}
use Rattle.s3_match.proofs.CodeLemmas.{first_passes}
use Rattle.s3_match.proofs.types.only_type.Goals as goal

pub index-requires : goal.index-requires
index-requires c = as_many c.args.program.now c.args.file c.requires

pub returns-then-has_no_codes : goal.returns-then-has_no_codes
returns-then-has_no_codes c =
    let starts = c.deref-starts.ensures.value ∙ ap (λ v. v.items) c.index.ensures ∙ own_starts c.args.program.now c.args.file _ c.requires in
    let within : 0 < length c.deref-starts.result.now = grind (arith, c.is_empty.ensures, c.if-not-is_empty.true) in
    λ bytes.
    first_passes (λ start. type_holds bytes (drop start.place c.deref.result.now)) c.deref-starts.result.now _ within (c.has_no_codes.ensures bytes c.if-has_no_codes.true)
    ∙ (λ i. first_that_holds bytes (c.deref.ensures.value i) (starts i))
