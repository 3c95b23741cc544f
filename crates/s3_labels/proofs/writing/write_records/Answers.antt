use Rattle.s3_labels.proofs.Blanks.{ok_map, direct_filled, direct_within}
use Rattle.s3_labels.proofs.writing.write_records.Goals as goal

pub returns-in-Direct-clause-blank : goal.returns-in-Direct-clause-blank
returns-in-Direct-clause-blank g c = ok_map _ _ c.blank_runs.result (λ filled. direct_filled _ _ _ _ c.as_slice.ensures.value filled) c.blank_runs.ensures.blank

pub returns-in-Direct-clause-within : goal.returns-in-Direct-clause-within
returns-in-Direct-clause-within g c =
    direct_within _ _ _ _ c.in-Direct.is c.as_slice.ensures.value c.blank_runs.ensures.within
