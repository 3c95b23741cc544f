-- The bytes that a number is written as.
use Rattle.std.specs.Prelude.{ℕ, ◌+◌, ◌/◌, ℤ, Bool, true, unsigned_abs, List, nat_le, Option, Some, None, is_some, unwrap_or, if◌then◌else◌}
use Rattle.s3_decimal.specs.Exact.{is_negative}
use Rattle.s3_decimal.specs.Records.{zoned_bytes, packed_bytes}
use Rattle.s3_edit.specs.declared.code.EditCode.{EditCode}
use Rattle.s3_edit.specs.declared.code.EditCode.TheVariants.{Suppressed, Edited as EditedCode}
use Rattle.s3_edit.specs.declared.code.Amount.{Amount}
use Rattle.s3_edit.specs.Picture.{width_of}
use Rattle.s3_lines.specs.declared.sheet.OutputForm.{OutputForm}
use Rattle.s3_lines.specs.declared.sheet.OutputForm.TheVariants.{Plain, Packed, Edited}
use Rattle.s3_meaning.specs.Output.{edited}

-- a number of this many digits and decimals; PAGE without an edit code is written with Z
abbrev pub number_put : OutputForm → (is_page : Bool) → (digits decimals : ℕ) → ℤ → List ℕ
number_put Packed is_page digits decimals value = packed_bytes (is_negative value) (digits / 2 + 1) (unsigned_abs value)
number_put (Edited code) is_page digits decimals value = edited code digits decimals value
number_put Plain is_page digits decimals value =
    if is_page then edited Suppressed 4 0 value else zoned_bytes (is_negative value) digits (unsigned_abs value)

-- PAGE without an edit code is written with Z
abbrev pub shown_form : OutputForm → (is_page : Bool) → OutputForm
shown_form Plain is_page = if is_page then Edited Suppressed else Plain
shown_form form is_page = form

-- the width of an edited number; 0 if its form has none
abbrev pub edited_width : EditCode → (digits decimals : ℕ) → ℕ
edited_width code digits decimals = unwrap_or (width_of code digits decimals) 0

abbrev pub number_width : OutputForm → (digits decimals : ℕ) → ℕ
number_width Plain digits decimals = digits
number_width Packed digits decimals = digits / 2 + 1
number_width (Edited code) digits decimals = edited_width code digits decimals

abbrev pub has_width : OutputForm → (digits decimals : ℕ) → Bool
has_width (Edited code) digits decimals = is_some (width_of code digits decimals)
has_width _ digits decimals = true

-- the style of an edited amount of at most six decimals
abbrev pub amount_of : OutputForm → (decimals : ℕ) → Option Amount
amount_of (Edited (EditedCode style)) decimals = if nat_le decimals 6 then Some style else None
amount_of _ decimals = None
