use Rattle.s3_cells.proofs.NumberLemmas.{passed_small}
use Rattle.s3_cells.proofs.forms.show_packed.Goals as goal

pub push_number-requires-clause-short : goal.push_number-requires-clause-short
push_number-requires-clause-short c = passed_small c.in-Ok.number.value c.in-Ok.number.digits c.in-Ok.number.within_digits c.in-Ok.number.within_longest
