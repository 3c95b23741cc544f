-- The value in the text of a parameter.
use Rattle.std.specs.Prelude.{ℕ, ◌+◌, ◌-◌, ◌*◌, ◌==◌, ◌&&◌, ◌||◌, List, [], ◌∷◌, ◌++◌, Bool, Option, Some, None, length, take, drop, map, nat_le, slice_index, if◌then◌else◌}
use Rattle.std.specs.List.{list_all}
use Rattle.s3_cards.specs.declared.ebcdic.TheConstants.{SLASH, LETTER_P, LETTER_S, LETTER_T, LETTER_X, DIGIT_0, DIGIT_1}
use Rattle.s3_ocl.specs.declared.values.Value.{Value}
use Rattle.s3_ocl.specs.declared.values.Value.TheVariants.{Named, Count, Kept, Dated, Set, Checked}
use Rattle.s3_ocl.specs.declared.values.Switch.{Switch}
use Rattle.s3_ocl.specs.declared.values.Switch.TheVariants.{On, Off, Leave}
use Rattle.s3_cards.specs.declared.retention.Retention.TheVariants.{Temporary, Scratch, Permanent}
use Rattle.s3_cards.specs.Numbers.{number_of}
use Rattle.s3_cards.specs.Names.{is_digit, goes_on_in_name, is_word, name_of}
use Rattle.s3_ocl.specs.Words.{reads}
use Rattle.s3_ocl.specs.declared.words.TheConstants.{R1, R2, F1, F2}

-- a name of at most `limit` codes
abbrev pub name_value : ℕ → List ℕ → Option Value
name_value limit text = if nat_le (length text) limit && is_word text then Some (Named (name_of text)) else None

-- R1, R2, F1 or F2
abbrev pub unit_value : List ℕ → Option Value
unit_value text =
    if reads text R1 || reads text R2 || reads text F1 || reads text F2 then Some Checked else None

-- a pack name: at most 6 letters, digits, $, # and @
abbrev pub pack_value : List ℕ → Option Value
pack_value text = if nat_le (length text) 6 && list_all goes_on_in_name text then Some Checked else None

-- a number of at most `limit` digits that isn't 0
unfoldable pub count_value : ℕ → List ℕ → Option Value
count_value limit text =
    if nat_le (length text) limit && list_all is_digit text && nat_le 1 (number_of DIGIT_0 text) then Some (Count (number_of DIGIT_0 text)) else None

-- T, S or P
abbrev pub retention_value : List ℕ → Option Value
retention_value text =
    if reads text (LETTER_T ∷ []) then Some (Kept Temporary)
    else if reads text (LETTER_S ∷ []) then Some (Kept Scratch)
    else if reads text (LETTER_P ∷ []) then Some (Kept Permanent)
    else None

-- the number in the two digits at a place
abbrev pub two_digits : List ℕ → ℕ → ℕ
two_digits digits place = 10 * (slice_index digits place - DIGIT_0) + (slice_index digits (place + 1) - DIGIT_0)

-- six digits, the first two a month and the next two a day
abbrev pub is_date : List ℕ → Bool
is_date digits =
    list_all is_digit digits && nat_le 1 (two_digits digits 0) && nat_le (two_digits digits 0) 12 && nat_le 1 (two_digits digits 2)
    && nat_le (two_digits digits 2) 31

abbrev pub dated : List ℕ → Option Value
dated digits = if is_date digits then Some (Dated digits) else None

-- a text without its third and sixth codes
abbrev pub without_slashes : List ℕ → List ℕ
without_slashes text = take 2 text ++ (take 2 (drop 3 text) ++ drop 6 text)

-- mmddyy or mm/dd/yy
unfoldable pub date_value : List ℕ → Option Value
date_value text =
    if length text == 6 then dated text
    else if (length text == 8) && (slice_index text 2 == SLASH) && (slice_index text 5 == SLASH) then dated (without_slashes text)
    else None

-- 0, 1 or X
abbrev pub is_switch : ℕ → Bool
is_switch code = (code == DIGIT_0) || (code == DIGIT_1) || (code == LETTER_X)

-- X leaves a switch unchanged
abbrev pub switch_of : ℕ → Switch
switch_of code = if code == DIGIT_1 then On else if code == DIGIT_0 then Off else Leave

-- eight codes, each 0, 1 or X
unfoldable pub switches_value : List ℕ → Option Value
switches_value text = if (length text == 8) && list_all is_switch text then Some (Set (map switch_of text)) else None
