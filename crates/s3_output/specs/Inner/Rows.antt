-- Worked examples: the carriage, and written numbers.
use Rattle.std.specs.Prelude.{ℕ, zero, suc, false, true, [], Some, None}
use Rattle.s3_edit.specs.declared.code.EditCode.{EditCode}
use Rattle.s3_edit.specs.declared.code.EditCode.TheVariants.{Edited}
use Rattle.s3_edit.specs.declared.code.Sign.TheVariants.{Credit}
use Rattle.s3_lines.specs.declared.sheet.Spacing.{Spacing}
use Rattle.s3_lines.specs.Inner.Blanks.{no_spacing}
use Rattle.s3_meaning.specs.Source.{Source, source_from}
use Rattle.s3_meaning.specs.Carriage.{Carriage, to_print, after_print}

abbrev pub at : (page line : ℕ) → Carriage
at page line = record { page = page; line = line; overflow = false }

abbrev pub past : (page line : ℕ) → Carriage
past page line = record { page = page; line = line; overflow = true }

-- skips to a line before printing
abbrev pub skip_to : ℕ → Spacing
skip_to line = record { space_before = None; space_after = None; skip_before = Some line; skip_after = None }

-- this many lines are printed one after another
abbrev pub printed : ℕ → Carriage → Carriage
printed zero c = c
printed (suc n) c = printed n (after_print no_spacing (to_print no_spacing c))

-- edit code A
abbrev pub credit : EditCode
credit = Edited (record { commas = true; zero_printed = true; sign = Credit })

-- a source without lines has only the reserved fields: PAGE has four digits, UMONTH two
abbrev pub no_lines : Source
no_lines = source_from [] [] [] []
