-- The positions on cards without a diagnostic lie within their records.
use Rattle.std.proofs.Common.{◌≡◌, ℕ, ◌≤◌, List, [], ◌∷◌, ◌++◌, Bool, true, false, refl, sym, ◌∙◌, ap, arith, inl, inr, take, drop}
use Rattle.std.specs.Prelude.{Option, Some, None, unwrap_or, is_some, nat_le, nat_lt, ◌==◌, ◌&&◌, ◌||◌, slice_index}
use Rattle.std.specs.Option.{option_or}
use Rattle.std.proofs.lemmas.Bool.{cases_Bool}
use Rattle.std.proofs.lemmas.Bool.Decides.{nat_tests}
use Rattle.std.proofs.lemmas.List.{take-take}
use Rattle.s3_cards.specs.declared.name.Name.{Name}
use Rattle.s3_lines.specs.Ranges.{is_between, if_given}
use Rattle.s3_lines.specs.Inner.Ranges.{in_order_behind, sheet_number, stands_behind, record_length_on, record_length_in, is_within, codes_within, input_length_behind, output_length_behind, positions_within, all_within}
use Rattle.s3_lines.specs.declared.sheet.CodePart.{CodePart}
use Rattle.s3_lines.specs.declared.sheet.SheetLine.{SheetLine}
use Rattle.s3_lines.specs.declared.sheet.SheetLine.TheVariants as sheet
use Rattle.s3_lines.specs.declared.sheet.Line.{Line}
use Rattle.s3_sheets.specs.Columns.{only, number_of, number_between}
use Rattle.s3_sheets.specs.Entries.{code_with, part_of, code_of}
use Rattle.s3_sheets.specs.Lines.{three_codes}
use Rattle.s3_sheets.specs.Sheets.{exceeds, has_code_past}
use Rattle.s3_sheets.proofs.LineLemmas.{neither, each}
use Rattle.s3_sheets.proofs.RangeLemmas.{both}
use Rattle.s3_sheets.proofs.HeldLemmas.{last_sheet}

-- ---- positions
not_more : (most n : ℕ) → nat_lt most n ≡ false → nat_le n most ≡ true
not_more most n e = grind (arith, nat_tests)

code_inside_from : (o size : Option ℕ) (part : Option CodePart) (negated : Bool) (character : ℕ) → exceeds o size ≡ false
    → if_given (λ code. is_within size code.position) (code_with (only (is_between 1 9999) o) part negated character) ≡ true
code_inside_from None size part negated character inside = nothing part
  where
    nothing : (part : Option CodePart) → if_given (λ code. is_within size code.position) (code_with None part negated character) ≡ true
    nothing None = refl
    nothing (Some p) = refl
code_inside_from (Some n) size part negated character inside = elim (cases_Bool (is_between 1 9999 n)) [
  | inl good ↦ rw good (some size part inside)
  | inr bad ↦ rw bad (nothing part)
]
  where
    nothing : (part : Option CodePart) → if_given (λ code. is_within size code.position) (code_with None part negated character) ≡ true
    nothing None = refl
    nothing (Some p) = refl

    some : (size : Option ℕ) (part : Option CodePart) → exceeds (Some n) size ≡ false
        → if_given (λ code. is_within size code.position) (code_with (Some n) part negated character) ≡ true
    some size None inside = refl
    some None (Some p) inside = refl
    some (Some most) (Some p) inside = not_more most n inside

-- the first four columns of a code
code_inside : (card : List ℕ) (from : ℕ) (size : Option ℕ) → exceeds (number_of (take 4 (take 7 (drop from card)))) size ≡ false
    → if_given (λ code. is_within size code.position) (code_of (take 7 (drop from card))) ≡ true
unfolding code_of number_between
code_inside card from size inside =
    let entry : List ℕ = take 7 (drop from card) in
    code_inside_from (number_of (take 4 entry)) size (part_of (slice_index entry 5)) (slice_index entry 4 == 0xd5) (slice_index entry 6) inside

four_of_seven : (xs : List ℕ) → take 4 (take 7 xs) ≡ take 4 xs
four_of_seven xs = take-take 4 7 xs (omega arith)

pub codes_inside : (card : List ℕ) (size : Option ℕ) → has_code_past card size ≡ false → codes_within size (three_codes card) ≡ true
codes_inside card size inside =
    let one : ℕ → Bool = λ from. exceeds (number_of (take 4 (drop from card))) size in
    let a = neither (one 20 || one 27) (one 34) inside in
    let b = neither (one 20) (one 27) a.0 in
    let at : (from : ℕ) → exceeds (number_of (take 4 (drop from card))) size ≡ false → exceeds (number_of (take 4 (take 7 (drop from card)))) size ≡ false =
    λ from e. ap (λ xs. exceeds (number_of xs) size) (four_of_seven (drop from card)) ∙ e in
    both (code_inside card 20 size (at 20 b.0)) (both (code_inside card 27 size (at 27 b.1)) (both (code_inside card 34 size (at 34 a.1)) refl))

pub position_inside : (o size : Option ℕ) → is_some (only (is_between 1 9999) o) ≡ true → exceeds o size ≡ false
    → is_within size (unwrap_or (only (is_between 1 9999) o) 1) ≡ true
position_inside None size known inside = absurd cc
position_inside (Some n) size known inside = elim (cases_Bool (is_between 1 9999 n)) [
  | inl good ↦ rw good (within size inside)
  | inr bad ↦ absurd (let f = rw bad at known in cc)
]
  where
    within : (size : Option ℕ) → exceeds (Some n) size ≡ false → is_within size n ≡ true
    within None inside = refl
    within (Some most) inside = not_more most n inside

-- ---- lengths
abbrev pub Lengths : Type 0
Lengths = Name → Option ℕ

abbrev pub inputs_behind : Lengths → Option ℕ → List Line → Option ℕ
inputs_behind lengths last [] = last
inputs_behind lengths last (line ∷ lines) = inputs_behind lengths (input_length_behind lengths last line.sheet) lines

abbrev pub outputs_behind : Lengths → Option ℕ → List Line → Option ℕ
outputs_behind lengths last [] = last
outputs_behind lengths last (line ∷ lines) = outputs_behind lengths (output_length_behind lengths last line.sheet) lines

and_assoc : (a b c : Bool) → (a && (b && c)) ≡ ((a && b) && c)
and_assoc true b c = refl
and_assoc false b c = refl

pub within_append : (lengths : Lengths) (i o : Option ℕ) (xs ys : List Line)
    → all_within lengths i o (xs ++ ys) ≡ (all_within lengths i o xs && all_within lengths (inputs_behind lengths i xs) (outputs_behind lengths o xs) ys)
unfolding all_within
within_append lengths i o [] ys = refl
within_append lengths i o (x ∷ xs) ys =
    ap (λ b. positions_within lengths i o x.sheet && b)
    (within_append lengths (input_length_behind lengths i x.sheet) (output_length_behind lengths o x.sheet) xs ys)
    ∙ and_assoc (positions_within lengths i o x.sheet)
    (all_within lengths (input_length_behind lengths i x.sheet) (output_length_behind lengths o x.sheet) xs)
    (all_within lengths (inputs_behind lengths (input_length_behind lengths i x.sheet) xs) (outputs_behind lengths (output_length_behind lengths o x.sheet) xs) ys)

pub inputs_append : (lengths : Lengths) (i : Option ℕ) (xs ys : List Line) → inputs_behind lengths i (xs ++ ys) ≡ inputs_behind lengths (inputs_behind lengths i xs) ys
inputs_append lengths i [] ys = refl
inputs_append lengths i (x ∷ xs) ys = inputs_append lengths (input_length_behind lengths i x.sheet) xs ys

pub outputs_append : (lengths : Lengths) (o : Option ℕ) (xs ys : List Line) → outputs_behind lengths o (xs ++ ys) ≡ outputs_behind lengths (outputs_behind lengths o xs) ys
outputs_append lengths o [] ys = refl
outputs_append lengths o (x ∷ xs) ys = outputs_append lengths (output_length_behind lengths o x.sheet) xs ys

-- the same lengths in another form
option_or_assoc : (a b c : Option ℕ) → option_or (option_or a b) c ≡ option_or a (option_or b c)
option_or_assoc None b c = refl
option_or_assoc (Some x) b c = refl

pub lengths_append : (xs ys : List Line) (name : Name) → record_length_in (xs ++ ys) name ≡ option_or (record_length_in xs name) (record_length_in ys name)
unfolding record_length_in
lengths_append [] ys name = refl
lengths_append (x ∷ xs) ys name =
    ap (option_or (record_length_on x.sheet name)) (lengths_append xs ys name)
    ∙ sym (option_or_assoc (record_length_on x.sheet name) (record_length_in xs name) (record_length_in ys name))

-- ---- header and file lines only
rises : (last : ℕ) (xs : List Line) → in_order_behind last xs ≡ true → last ≤ last_sheet last xs
unfolding in_order_behind
rises last [] ordered = omega arith
rises last (x ∷ xs) ordered =
    let p = each (stands_behind last x.sheet) (in_order_behind (sheet_number x.sheet) xs) ordered in
    let more = rises (sheet_number x.sheet) xs p.1 in
    let here = stands last x.sheet p.0 in omega (arith, more, here)
  where
    stands : (last : ℕ) (line : SheetLine) → stands_behind last line ≡ true → last ≤ sheet_number line
    stands last (sheet.Header name) e = grind (arith, nat_tests)
    stands last (sheet.File file) e = grind (arith, nat_tests)
    stands last (sheet.Input line) e = grind (arith, nat_tests)
    stands last (sheet.Calculation line) e = grind (arith, nat_tests)
    stands last (sheet.Output line) e = grind (arith, nat_tests)

-- header and file lines have no positions, and leave the current record lengths unchanged
pub record AreBefore (lengths : Lengths) (i o : Option ℕ) (xs : List Line) : Type 0 where
  pub within : all_within lengths i o xs ≡ true
  pub inputs : inputs_behind lengths i xs ≡ i
  pub outputs : outputs_behind lengths o xs ≡ o

pub early : (lengths : Lengths) (i o : Option ℕ) (last : ℕ) (xs : List Line) → in_order_behind last xs ≡ true → last_sheet last xs ≤ 2 → AreBefore lengths i o xs
unfolding in_order_behind all_within
early lengths i o last [] ordered few = record { within = refl; inputs = refl; outputs = refl }
early lengths i o last (x ∷ xs) ordered few =
    let p = each (stands_behind last x.sheet) (in_order_behind (sheet_number x.sheet) xs) ordered in
    let small : sheet_number x.sheet ≤ 2 = (let k = rises (sheet_number x.sheet) xs p.1 in omega (arith, k, few)) in
    let w = within x.sheet small in
    let a = inputs x.sheet small in
    let b = outputs x.sheet small in
    let rest : AreBefore lengths i o xs = early lengths i o (sheet_number x.sheet) xs p.1 few in
    record {
      within = both w (ap (λ j. all_within lengths j (output_length_behind lengths o x.sheet) xs) a ∙ (ap (λ j. all_within lengths i j xs) b ∙ rest.within));
      inputs = ap (λ j. inputs_behind lengths j xs) a ∙ rest.inputs;
      outputs = ap (λ j. outputs_behind lengths j xs) b ∙ rest.outputs;
    }
  where
    within : (line : SheetLine) → sheet_number line ≤ 2 → positions_within lengths i o line ≡ true
    within (sheet.Header name) small = refl
    within (sheet.File file) small = refl
    within (sheet.Input line) small = absurd (omega (arith, small))
    within (sheet.Calculation line) small = refl
    within (sheet.Output line) small = absurd (omega (arith, small))

    inputs : (line : SheetLine) → sheet_number line ≤ 2 → input_length_behind lengths i line ≡ i
    inputs (sheet.Header name) small = refl
    inputs (sheet.File file) small = refl
    inputs (sheet.Input line) small = absurd (omega (arith, small))
    inputs (sheet.Calculation line) small = refl
    inputs (sheet.Output line) small = refl

    outputs : (line : SheetLine) → sheet_number line ≤ 2 → output_length_behind lengths o line ≡ o
    outputs (sheet.Header name) small = refl
    outputs (sheet.File file) small = refl
    outputs (sheet.Input line) small = refl
    outputs (sheet.Calculation line) small = refl
    outputs (sheet.Output line) small = absurd (omega (arith, small))
