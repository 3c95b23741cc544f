use Rattle.std.proofs.Common.{◌∙◌, ap, option_map}
use Rattle.s3_match.specs.Inner.Types.{kind_at}
use Rattle.s3_match.proofs.TypeLemmas.{type_found, type_starts_there}
use Rattle.s3_match.proofs.types.type_of.Goals as goal

pub returns-clause-found : goal.returns-clause-found
returns-clause-found c =
    ap (option_map (kind_at c.args.program.now)) c.type_by_codes.ensures ∙ type_found c.args.program.now c.args.file c.args.bytes.now c.requires

pub returns-clause-starts : goal.returns-clause-starts
returns-clause-starts c = type_starts_there c.args.program.now c.args.file c.args.bytes.now _ c.type_by_codes.ensures
