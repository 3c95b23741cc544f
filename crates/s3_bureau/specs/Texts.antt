-- The report of printed lines and the text of halts, as bytes.
use Rattle.std.specs.Prelude.{ℕ, List, [], ◌∷◌, ◌++◌, Option, Some, None, codes, map}
use Rattle.std.specs.List.{flat_map}
use Rattle.s3_cards.specs.Codes.{shown_byte}
use Rattle.s3_cards.specs.Numbers.{in_digits}
use Rattle.s3_cards.specs.Printed.{Printed, trimmed}
use Rattle.s3_operator.specs.Halts.{ShownHalt}
use Rattle.s3_operator.specs.Table.{letters_of}

-- page and line of a printed line, and its text
unfoldable pub report_line : Printed → List ℕ
report_line p = in_digits 4 p.page ++ 32 ∷ [] ++ in_digits 2 p.line ++ 32 ∷ [] ++ map shown_byte (trimmed p.text) ++ 10 ∷ []

-- the report of printed lines
abbrev pub report_of : List Printed → List ℕ
report_of = flat_map report_line

-- a reply, or `-` for none
abbrev pub reply_text : Option ℕ → List ℕ
reply_text (Some digit) = in_digits 1 digit
reply_text None = codes "-"

-- the job, code and reply of a halt
unfoldable pub halt_line : ShownHalt → List ℕ
halt_line h = in_digits 3 h.job ++ 32 ∷ [] ++ letters_of h.code ++ 32 ∷ [] ++ reply_text h.reply ++ 10 ∷ []

-- a job, a card and the number of the error there
unfoldable pub detail_line : ℕ → ℕ × ℕ → List ℕ
detail_line job detail = in_digits 3 job ++ 32 ∷ [] ++ in_digits 4 detail.0 ++ 32 ∷ [] ++ in_digits 2 detail.1 ++ 10 ∷ []

-- a halt's line, and a line for each of its details
unfoldable pub halt_lines : ShownHalt → List ℕ
halt_lines h = halt_line h ++ flat_map (detail_line h.job) h.details

-- the line for a refused deck
abbrev pub refusal_line : Option (ℕ × ℕ) → List ℕ
refusal_line (Some detail) = detail_line 0 detail
refusal_line None = []

-- the halt text, after the line for a refused deck
abbrev pub halt_text_of : Option (ℕ × ℕ) → List ShownHalt → List ℕ
halt_text_of refusal halts = refusal_line refusal ++ flat_map halt_lines halts
