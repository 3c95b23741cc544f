use Rattle.std.proofs.Common.{◌∙◌, ap}
use Rattle.s3_match.specs.Inner.Types.{first_that_holds}
use Rattle.s3_program.proofs.TypeLemmas.{as_many, own_starts}
use Rattle.s3_match.proofs.types.type_by_codes.Goals as goal

pub index-requires : goal.index-requires
index-requires c = as_many c.args.program.now c.args.file c.requires

pub returns : goal.returns
returns c =
    let starts = c.deref.ensures.value ∙ ap (λ v. v.items) c.index.ensures ∙ own_starts c.args.program.now c.args.file _ c.requires in
    c.first_that_holds.ensures ∙ (λ i. first_that_holds c.args.bytes.now (c.deref-2.ensures.value i) (starts i))
