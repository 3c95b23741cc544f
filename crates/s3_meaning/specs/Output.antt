-- Output lines: when a line is written, what it contains, and its request.
use Rattle.std.specs.Prelude.{ℕ, ◌+◌, ◌-◌, ◌/◌, ◌==◌, Bool, true, false, not, ◌&&◌, ℤ, pos, ◌+ℤ◌, unsigned_abs, List, [], ◌∷◌, ◌++◌, map, length, take, drop, replicate, Option, Some, None, is_some, unwrap_or, if◌then◌else◌}
use Rattle.std.specs.List.{list_any}
use Rattle.s3_lines.specs.Files.{is_printer}
use Rattle.s3_decimal.specs.Exact.{is_negative}
use Rattle.s3_decimal.specs.Records.{zoned_bytes, packed_bytes}
use Rattle.s3_edit.specs.declared.code.EditCode.{EditCode}
use Rattle.s3_edit.specs.declared.code.EditCode.TheVariants.{Suppressed}
use Rattle.s3_edit.specs.Picture.{width_of, pictured}
use Rattle.s3_cards.specs.declared.name.Name.{Name}
use Rattle.s3_lines.specs.declared.indicator.Indicator.{Indicator}
use Rattle.s3_lines.specs.declared.indicator.Condition.{Condition}
use Rattle.s3_lines.specs.declared.sheet.OutputKind.{OutputKind}
use Rattle.s3_lines.specs.declared.sheet.OutputKind.TheVariants.{Heading, Detail, Total, Exception}
use Rattle.s3_lines.specs.declared.sheet.OutputForm.{OutputForm}
use Rattle.s3_lines.specs.declared.sheet.OutputForm.TheVariants.{Plain, Packed, Edited}
use Rattle.s3_lines.specs.declared.sheet.OutputContent.{OutputContent}
use Rattle.s3_lines.specs.declared.sheet.OutputContent.TheVariants.{Constant, Field}
use Rattle.s3_lines.specs.declared.sheet.FieldOutput.{FieldOutput}
use Rattle.s3_lines.specs.declared.sheet.OutputField.{OutputField}
use Rattle.s3_lines.specs.declared.sheet.FileLine.{FileLine}
use Rattle.s3_meaning.specs.Names.{same_indicator, page, entries}
use Rattle.s3_cards.specs.Names.{same_name}
use Rattle.s3_meaning.specs.Requests.{Request, Append, Add, Update, Print, Answer, Refused}
use Rattle.s3_meaning.specs.OutputLines.{Output}
use Rattle.s3_meaning.specs.Source.{Source, digits_of, decimals_of, length_of, is_numeric, is_updated, file_named, overflow_of}
use Rattle.s3_meaning.specs.Environment.{Environment, put_number, put_text, turn, all_hold}
use Rattle.s3_meaning.specs.Carriage.{Carriage, to_print, after_print}
use Rattle.s3_meaning.specs.Runs.{Rest, Anew, ask, halted}

-- ---- when a line is written
abbrev pub is_plainly : Indicator → Condition → Bool
is_plainly indicator condition = same_indicator condition.indicator indicator && not condition.negated

-- the group has the overflow indicator without N
abbrev pub names_overflow : Source → List Condition → Bool
names_overflow source group = on (overflow_of source.files)
  where
    on : Option Indicator → Bool
    on (Some indicator) = list_any (is_plainly indicator) group
    on None = false

-- At overflow time a group that names the overflow indicator must hold, at other times a group that doesn't name it.
abbrev pub line_holds : Source → (at_overflow : Bool) → Environment → Output → Bool
line_holds source true e line = list_any (λ group. names_overflow source group && all_hold e group) line.groups
line_holds source false e line = list_any (λ group. not (names_overflow source group) && all_hold e group) line.groups

-- a file whose condition is off is skipped
abbrev pub is_served : Environment → FileLine → Bool
is_served e file = on file.condition
  where
    on : Option Indicator → Bool
    on (Some indicator) = e.on indicator
    on None = true

abbrev pub is_heading_or_detail : OutputKind → Bool
is_heading_or_detail Heading = true
is_heading_or_detail Detail = true
is_heading_or_detail _ = false

abbrev pub is_total_line : OutputKind → Bool
is_total_line Total = true
is_total_line _ = false

abbrev pub is_exception : OutputKind → Bool
is_exception Exception = true
is_exception _ = false

-- ---- the content of a field
abbrev pub edited : EditCode → ℕ → ℕ → ℤ → List ℕ
edited code digits decimals value = pictured code decimals (is_negative value) (unsigned_abs value) (unwrap_or (width_of code digits decimals) 0)

-- without an edit code a number is zoned; PAGE is edited with Z
abbrev pub number_bytes : Source → Name → OutputForm → ℤ → List ℕ
number_bytes source name Packed value = packed_bytes (is_negative value) (digits_of source name / 2 + 1) (unsigned_abs value)
number_bytes source name (Edited code) value = edited code (digits_of source name) (decimals_of source name) value
number_bytes source name Plain value =
    if same_name name page then edited Suppressed 4 0 value
    else zoned_bytes (is_negative value) (digits_of source name) (unsigned_abs value)

abbrev pub field_content : Source → FieldOutput Name → Environment → List ℕ
field_content source field e =
    if is_numeric source field.name then number_bytes source field.name field.form (e.numbers field.name) else e.texts field.name

-- PAGE adds 1 before each time it is written; 0 follows 9999
abbrev pub counted : Name → Environment → Environment
counted name e =
    let number : ℤ = e.numbers page in
    if same_name name page then put_number page (if unsigned_abs number == 9999 && not (is_negative number) then pos 0 else number +ℤ pos 1) e else e

-- blank after: the field becomes 0 or blanks
abbrev pub blanked : Source → FieldOutput Name → Environment → Environment
blanked source field e =
    if not field.blank_after then e
    else (if is_numeric source field.name then put_number field.name (pos 0) e else put_text field.name (replicate (length_of source field.name) 0x40) e)

-- ---- the record that a line writes
-- the byte written at each position, if any, and the environment afterwards
pub record Composed : Type 0 where
  pub positions : List (Option ℕ)
  pub after : Environment

-- writes a content into a record so that it ends at the To position
abbrev pub laid : (end : ℕ) → List ℕ → List (Option ℕ) → List (Option ℕ)
laid end content positions =
    take (end - length content) positions ++ map (λ code. Some code) content ++ drop end positions

abbrev pub put_out : Source → OutputContent Name → ℕ → Composed → Composed
put_out source (Constant constant) end c = record c { positions = laid end (take constant.length constant.codes) c.positions }
put_out source (Field field) end c =
    let before : Environment = counted field.name c.after in
    record { positions = laid end (field_content source field before) c.positions; after = blanked source field before }

-- a later field replaces an earlier one
abbrev pub composed : Source → List (OutputField Name) → Composed → Composed
composed source [] c = c
composed source (field ∷ fields) c =
    composed source fields (if all_hold c.after (entries field.conditions) then put_out source field.content field.end c else c)

-- in a new record, positions that no field writes are blank
abbrev pub filled : List (Option ℕ) → List ℕ
filled positions = map (λ position. unwrap_or position 0x40) positions

-- ---- the request that a line makes
abbrev pub carriage : Environment → Carriage
carriage e = record { page = e.page; line = e.line; overflow = false }

abbrev pub overflowed : Source → Carriage → Environment → Environment
overflowed source c e = on (overflow_of source.files)
  where
    on : Option Indicator → Environment
    on (Some indicator) = if c.overflow then turn indicator true e else e
    on None = e

abbrev pub put_carriage : Source → Carriage → Environment → Environment
put_carriage source c e = overflowed source c (record e { page = c.page; line = c.line })

unfoldable pub printed : Source → Output → List ℕ → Rest → Rest
printed source line text go e =
    let place : Carriage = to_print line.spacing (carriage e) in
    ask (Print place.page place.line text) (λ answer. go (put_carriage source (after_print line.spacing place) e))

-- if the record is refused, the job halts; reply 0 skips the record
unfoldable pub stored_or_halted : Anew → Rest → Answer → Rest
stored_or_halted anew go (Refused code) e = halted anew code go e
stored_or_halted anew go _ e = go e

-- an update for an update file or direct load; otherwise an append, or with ADD in a keyed file an add by key
abbrev pub disk_request : FileLine → Output → List (Option ℕ) → Environment → Request
disk_request file line positions e =
    if is_updated file && not line.is_addition then Update file.name (e.current file.name) positions
    else (if line.is_addition && is_some file.key then Add file.name (filled positions) else Append file.name (filled positions))

unfoldable pub file_line_put : Source → Anew → Output → FileLine → Rest → Rest
file_line_put source anew line file go e =
    let c : Composed = composed source line.fields (record { positions = replicate file.record_length None; after = e }) in
    (if is_printer file.device
    then printed source line (filled c.positions) go
    else (λ e'. ask (disk_request file line c.positions e') (λ answer. stored_or_halted anew go answer e'))) c.after

unfoldable pub line_put : Source → Anew → Output → Option FileLine → Rest → Rest
line_put source anew line None go e = go e
line_put source anew line (Some file) go e = (if is_served e file then file_line_put source anew line file go else go) e

-- writes those lines of these kinds that hold, in card order
unfoldable pub lines_put : Source → Anew → (OutputKind → Bool) → (at_overflow : Bool) → List Output → Rest → Rest
lines_put source anew wanted at_overflow [] go e = go e
lines_put source anew wanted at_overflow (line ∷ lines) go e =
    (if wanted line.kind && line_holds source at_overflow e line
    then line_put source anew line (file_named source line.file) (lines_put source anew wanted at_overflow lines go)
    else lines_put source anew wanted at_overflow lines go) e
