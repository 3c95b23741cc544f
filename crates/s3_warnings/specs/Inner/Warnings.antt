-- The warnings of a source: card by card, and on a card by kind; then those of fields that cover others.
use Rattle.std.specs.Prelude.{List, ◌++◌, flat_map}
use Rattle.s3_lines.specs.declared.sheet.Line.{Line}
use Rattle.s3_warnings.specs.declared.kinds.Warning.{Warning}
use Rattle.s3_warnings.specs.Inner.Contradictions.{contradictions_on}
use Rattle.s3_warnings.specs.Inner.Facts.{Facts, facts_of}
use Rattle.s3_warnings.specs.Inner.Files.{files_on}
use Rattle.s3_warnings.specs.Inner.Indicators.{never_set_on, never_tested_on}
use Rattle.s3_warnings.specs.Inner.Overlaps.{overlaps}
use Rattle.s3_warnings.specs.Inner.Results.{results_on}

-- by what all lines say
abbrev pub warnings_on : Facts → List Line → Line → List Warning
warnings_on facts lines line =
    never_set_on facts line ++ never_tested_on facts line ++ contradictions_on line ++ files_on lines line ++ results_on facts line

abbrev pub warnings_by : Facts → List Line → List Warning
warnings_by facts lines = flat_map (warnings_on facts lines) lines ++ overlaps facts lines

unfoldable pub warnings : List Line → List Warning
warnings lines = warnings_by (facts_of lines) lines
