-- The columns in which entries begin by the rules of the sheets, beside the stops of tabs.
use Rattle.std.specs.Prelude.{ℕ, ◌==◌, ◌&&◌, ◌||◌, List, Bool, true, false}
use Rattle.std.specs.List.{list_all, list_any}
use Rattle.s3_sheets.specs.Rules.{Blank, Entry, Rule}
use Rattle.s3_sheets.specs.Tables.{rules_of}
use Rattle.s3_sheets.specs.declared.kind.CardKind.{CardKind}
use Rattle.s3_sheets.specs.declared.kind.CardKind.TheVariants.{Header, File, Record, RecordAnd, RecordOr, Field, Calculation, OutputLine, OutputAnd, OutputOr, OutputField}
use Rattle.s3_punch.specs.declared.stops.TheConstants.{HEADER_STARTS, FILE_STARTS, INPUT_STARTS, CALCULATION_STARTS, OUTPUT_STARTS}

-- whether nothing may be in the columns of a rule
abbrev pub is_left_blank : Entry → Bool
is_left_blank Blank = true
is_left_blank _ = false

-- whether a tab goes to the first column of each entry that a kind of card may have
abbrev pub goes_to_all : List ℕ → CardKind → Bool
goes_to_all stops kind = list_all (λ rule. is_left_blank rule.entry || list_any (λ stop. stop == rule.from) stops) (rules_of kind)

-- the same for each kind of card, by its sheet
abbrev pub stops_are_starts : Bool
stops_are_starts =
    goes_to_all HEADER_STARTS Header && goes_to_all FILE_STARTS File && goes_to_all INPUT_STARTS Record && goes_to_all INPUT_STARTS RecordAnd
    && goes_to_all INPUT_STARTS RecordOr && goes_to_all INPUT_STARTS Field && goes_to_all CALCULATION_STARTS Calculation
    && goes_to_all OUTPUT_STARTS OutputLine && goes_to_all OUTPUT_STARTS OutputAnd && goes_to_all OUTPUT_STARTS OutputOr
    && goes_to_all OUTPUT_STARTS OutputField
