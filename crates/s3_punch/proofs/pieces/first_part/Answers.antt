use Rattle.std.proofs.Common.{refl, sym}
use Rattle.s3_punch.proofs.PieceLemmas.{first_split_at}
use Rattle.s3_punch.proofs.pieces.first_part.Goals as goal

pub returns-in-Some-clause-parts : goal.returns-in-Some-clause-parts
returns-in-Some-clause-parts c = first_split_at c.args.text.now _ _ c.in-Some.end (sym c.in-Some.ensures.value) refl c.behind.ensures.value
