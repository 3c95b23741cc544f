-- The entries of the table, by kind of card and number.
use Rattle.std.proofs.Common.{◌≡◌, [], ◌∷◌, refl}
use Rattle.s3_sheets.specs.declared.kind.CardKind.TheVariants as kind
use Rattle.s3_blame.specs.Inner.Entries.{file_rows, record_rows, and_rows, or_rows, field_rows, calculation_rows, line_rows, line_and_rows, line_or_rows, put_rows, entries_tested}

pub file_6 : entries_tested kind.File 6 ≡ (7, 14) ∷ []
unfolding file_rows
file_6 = refl

pub file_12 : entries_tested kind.File 12 ≡ (15, 16) ∷ (28, 28) ∷ (31, 31) ∷ (32, 32) ∷ (40, 46) ∷ (66, 66) ∷ []
unfolding file_rows
file_12 = refl

pub record_5 : entries_tested kind.Record 5 ≡ (7, 14) ∷ []
unfolding record_rows
record_5 = refl

pub record_11 : entries_tested kind.Record 11 ≡ (19, 20) ∷ []
unfolding record_rows
record_11 = refl

pub record_12 : entries_tested kind.Record 12 ≡ (7, 14) ∷ []
unfolding record_rows
record_12 = refl

pub and_9 : entries_tested kind.RecordAnd 9 ≡ (14, 16) ∷ []
unfolding and_rows
and_9 = refl

pub or_9 : entries_tested kind.RecordOr 9 ≡ (14, 16) ∷ []
unfolding or_rows
or_9 = refl

pub or_11 : entries_tested kind.RecordOr 11 ≡ (19, 20) ∷ []
unfolding or_rows
or_11 = refl

pub field_6 : entries_tested kind.Field 6 ≡ (44, 51) ∷ (52, 52) ∷ (53, 58) ∷ []
unfolding field_rows
field_6 = refl

pub field_7 : entries_tested kind.Field 7 ≡ (63, 64) ∷ (65, 66) ∷ (67, 68) ∷ []
unfolding field_rows
field_7 = refl

pub field_8 : entries_tested kind.Field 8 ≡ (43, 43) ∷ []
unfolding field_rows
field_8 = refl

pub field_9 : entries_tested kind.Field 9 ≡ (7, 14) ∷ []
unfolding field_rows
field_9 = refl

pub field_11 : entries_tested kind.Field 11 ≡ (59, 60) ∷ (61, 62) ∷ []
unfolding field_rows
field_11 = refl

pub field_12 : entries_tested kind.Field 12 ≡ (43, 43) ∷ []
unfolding field_rows
field_12 = refl

pub calculation_5 : entries_tested kind.Calculation 5 ≡ (18, 27) ∷ (33, 42) ∷ (43, 48) ∷ []
unfolding calculation_rows
calculation_5 = refl

pub calculation_6 : entries_tested kind.Calculation 6 ≡ (18, 27) ∷ (43, 48) ∷ (49, 51) ∷ (52, 52) ∷ []
unfolding calculation_rows
calculation_6 = refl

pub calculation_7 : entries_tested kind.Calculation 7 ≡ (54, 55) ∷ (56, 57) ∷ (58, 59) ∷ []
unfolding calculation_rows
calculation_7 = refl

pub calculation_8 : entries_tested kind.Calculation 8 ≡ (18, 27) ∷ (28, 32) ∷ (33, 42) ∷ (43, 48) ∷ (49, 51) ∷ (52, 52) ∷ (53, 53) ∷ (54, 55) ∷ (56, 57) ∷ (58, 59) ∷ (54, 59) ∷ []
unfolding calculation_rows
calculation_8 = refl

pub calculation_9 : entries_tested kind.Calculation 9 ≡ (7, 8) ∷ (28, 32) ∷ []
unfolding calculation_rows
calculation_9 = refl

pub calculation_10 : entries_tested kind.Calculation 10 ≡ (33, 42) ∷ []
unfolding calculation_rows
calculation_10 = refl

pub line_5 : entries_tested kind.OutputLine 5 ≡ (7, 14) ∷ []
unfolding line_rows
line_5 = refl

pub line_12 : entries_tested kind.OutputLine 12 ≡ (7, 14) ∷ (16, 18) ∷ (17, 17) ∷ (18, 18) ∷ (19, 20) ∷ (21, 22) ∷ []
unfolding line_rows
line_12 = refl

pub line_and_9 : entries_tested kind.OutputAnd 9 ≡ (14, 16) ∷ []
unfolding line_and_rows
line_and_9 = refl

pub line_or_9 : entries_tested kind.OutputOr 9 ≡ (14, 16) ∷ []
unfolding line_or_rows
line_or_9 = refl

pub put_5 : entries_tested kind.OutputField 5 ≡ (32, 37) ∷ []
unfolding put_rows
put_5 = refl

pub put_8 : entries_tested kind.OutputField 8 ≡ (38, 38) ∷ (40, 43) ∷ (44, 44) ∷ []
unfolding put_rows
put_8 = refl

pub put_9 : entries_tested kind.OutputField 9 ≡ (7, 14) ∷ []
unfolding put_rows
put_9 = refl

pub put_12 : entries_tested kind.OutputField 12 ≡ (44, 44) ∷ []
unfolding put_rows
put_12 = refl
