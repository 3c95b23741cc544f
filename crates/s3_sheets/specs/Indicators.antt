-- Indicators, levels and conditions in columns.
use Rattle.std.specs.Prelude.{ℕ, ◌+◌, ◌-◌, ◌*◌, List, [], ◌∷◌, Bool, not, ◌==◌, ◌&&◌, ◌||◌, Option, Some, None, option_map, if◌then◌else◌}
use Rattle.std.specs.Option.{option_or}
use Rattle.s3_cards.specs.declared.ebcdic.TheConstants.{BLANK, DIGIT_0, DIGIT_1, DIGIT_8, DIGIT_9, LETTER_A, LETTER_G, LETTER_H, LETTER_L, LETTER_M, LETTER_N, LETTER_O, LETTER_P, LETTER_R, LETTER_U, LETTER_V}
use Rattle.s3_cards.specs.Names.{is_digit, is_within}
use Rattle.s3_lines.specs.declared.indicator.Indicator.{Indicator}
use Rattle.s3_lines.specs.declared.indicator.Indicator.TheVariants.{General, Level, LastRecord, Matching, Halt, FirstPage, Overflow as OverflowIndicator, Switch as SwitchIndicator}
use Rattle.s3_lines.specs.declared.indicator.Condition.{Condition}
use Rattle.s3_lines.specs.Ranges.{is_record_indicator, is_overflow_indicator, is_switch_indicator, is_resulting_indicator, is_total_indicator}
use Rattle.s3_sheets.specs.Columns.{only}
use Rattle.s3_sheets.specs.declared.indicators.IndicatorList.{IndicatorList}
use Rattle.s3_sheets.specs.declared.indicators.IndicatorList.TheVariants.{Record, Overflow, Switch, Total, Resulting}

-- indicators 01 to 99
abbrev pub general_of : ℕ → ℕ → Option Indicator
general_of tens units =
    if is_digit tens && is_digit units && not ((tens == DIGIT_0) && (units == DIGIT_0))
    then Some (General ((tens - DIGIT_0) * 10 + (units - DIGIT_0)))
    else None

-- after L: 0 to 9, or R
abbrev pub level_of : ℕ → Option Indicator
level_of code = if is_digit code then Some (Level (code - DIGIT_0)) else if code == LETTER_R then Some LastRecord else None

-- after H: 1 to 9
abbrev pub halt_of : ℕ → Option Indicator
halt_of code = if is_within DIGIT_1 DIGIT_9 code then Some (Halt (code - DIGIT_0)) else None

-- after O: A to G, or V
abbrev pub overflow_of : ℕ → Option Indicator
overflow_of code =
    if is_within LETTER_A LETTER_G code then Some (OverflowIndicator (code - LETTER_A + 1))
    else if code == LETTER_V then Some (OverflowIndicator 8)
    else None

-- after U: 1 to 8
abbrev pub switch_of : ℕ → Option Indicator
switch_of code = if is_within DIGIT_1 DIGIT_8 code then Some (SwitchIndicator (code - DIGIT_0)) else None

-- an indicator that isn't two digits
abbrev pub lettered_of : ℕ → ℕ → Option Indicator
lettered_of first second =
    if first == LETTER_L then level_of second
    else if first == LETTER_H then halt_of second
    else if first == LETTER_O then overflow_of second
    else if first == LETTER_U then switch_of second
    else if (first == LETTER_M) && (second == LETTER_R) then Some Matching
    else if (first == DIGIT_1) && (second == LETTER_P) then Some FirstPage
    else None

-- any indicator: 01 to 99, L0 to L9, LR, MR, H1 to H9, 1P, OA to OG, OV, U1 to U8
unfoldable pub indicator_of : List ℕ → Option Indicator
indicator_of (first ∷ second ∷ []) = option_or (general_of first second) (lettered_of first second)
indicator_of _ = None

-- whether the list of a column has this indicator
abbrev pub belongs : IndicatorList → Indicator → Bool
belongs Record indicator = is_record_indicator indicator
belongs Overflow indicator = is_overflow_indicator indicator
belongs Switch indicator = is_switch_indicator indicator
belongs Total indicator = is_total_indicator indicator
belongs Resulting indicator = is_resulting_indicator indicator

-- the indicator in two columns, if the list has it
unfoldable pub listed : IndicatorList → List ℕ → Option Indicator
listed list columns = only (belongs list) (indicator_of columns)

-- a digit 1 to 9 after this letter: L1 to L9, or M1 to M9
unfoldable pub level_behind : ℕ → List ℕ → Option ℕ
level_behind letter (first ∷ second ∷ []) = if (first == letter) && is_within DIGIT_1 DIGIT_9 second then Some (second - DIGIT_0) else None
level_behind letter _ = None

-- the condition in three columns: blank or N, then an indicator; none if they are blank
unfoldable pub condition_of : List ℕ → Option Condition
condition_of [] = None
condition_of (sign ∷ columns) =
    if (sign == BLANK) || (sign == LETTER_N)
    then option_map (λ indicator. record { negated = sign == LETTER_N; indicator = indicator }) (indicator_of columns)
    else None
