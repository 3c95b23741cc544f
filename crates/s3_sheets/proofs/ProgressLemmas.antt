-- The state kept of the cards so far agrees with the definitions.
use Rattle.std.proofs.Common.{◌≡◌, ℕ, ◌+◌, ◌<◌, List, [], ◌∷◌, ◌++◌, Bool, true, false, refl, sym, ◌∙◌, ap, arith, length, take, add-one, suc, max}
use Rattle.std.specs.Prelude.{◌||◌, ◌&&◌, not, map}
use Rattle.std.specs.List.{list_any}
use Rattle.std.specs.Option.{option_to_list}
use Rattle.std.proofs.lemmas.Bool.Decides.{nat_tests}
use Rattle.std.proofs.lemmas.List.{map-append, take_more}
use Rattle.std.proofs.lemmas.List.Folds.{list_any-append}
use Rattle.s3_entries.specs.declared.shared.TheConstants as shared
use Rattle.s3_sheets.specs.Columns.{columns, are_blank}
use Rattle.s3_cards.specs.Names.{name_of}
use Rattle.s3_sheets.specs.Kinds.{kind_of, sheet_of, is_record, is_output_line}
use Rattle.s3_sheets.specs.Lines.{card_at}
use Rattle.s3_sheets.specs.Sheets.{before, kind_at, is_behind, is_misplaced, lacks_file, faults_of, is_at_fault, is_outside, is_too_many, new_file, new_field, file_of, field_of, record_length_of, named_length, has_code_past, length_behind, line_length, files, fields, input_length, output_length, standing_at}
use Rattle.s3_sheets.specs.Inner.Progress.{Kept, passes_limit, nothing_kept, is_misplaced_behind, lacks_its_file, length_named, is_outside_behind, is_at_fault_behind, files_with, fields_with, kept_behind, standing_behind}
use Rattle.s3_sheets.specs.declared.kind.CardKind.{CardKind}
use Rattle.s3_sheets.specs.declared.kind.CardKind.TheVariants.{Comment, Unknown, Header, File, Record, RecordAnd, RecordOr, Field, Calculation, OutputLine, OutputAnd, OutputOr, OutputField}

-- the state agrees with the first n cards
pub record IsKept (cards : List (List ℕ)) (n : ℕ) (kept : Kept) : Type 0 where
  pub latest : (sheet : ℕ) → list_any (λ other. is_behind sheet (sheet_of other)) (before cards n) ≡ is_behind sheet kept.latest_sheet
  pub of_lines : list_any is_output_line (before cards n) ≡ kept.has_output_line
  pub of_files : kept.files ≡ files cards n
  pub of_input : kept.input_length ≡ input_length cards n
  pub of_output : kept.output_length ≡ output_length cards n
  pub of_fields : kept.fields ≡ fields cards n

pub none_kept : (cards : List (List ℕ)) → IsKept cards 0 nothing_kept
none_kept cards = record {
  latest = λ sheet. grind (arith, nat_tests);
  of_lines = refl;
  of_files = refl;
  of_input = refl;
  of_output = refl;
  of_fields = refl;
}

or_false : (a b : Bool) → (a || (b || false)) ≡ (a || b)
or_false a true = refl
or_false a false = refl

-- the kinds of one more card
before_more : (p : CardKind → Bool) (cards : List (List ℕ)) (n : ℕ) → n < length cards
    → list_any p (before cards (n + 1)) ≡ (list_any p (before cards n) || p (kind_at cards n))
before_more p cards n in' =
    let more : take (n + 1) cards ≡ take n cards ++ card_at cards n ∷ [] = take_more cards n [] in' in
    ap (λ (xs : List (List ℕ)). list_any p (map kind_of xs)) more
    ∙ (ap (list_any p) (map-append kind_of (take n cards) (card_at cards n ∷ []))
    ∙ (list_any-append p (before cards n) (kind_at cards n ∷ []) ∙ or_false (list_any p (before cards n)) (p (kind_at cards n))))

pub misplaced_same : (kind : CardKind) (earlier : List CardKind) (latest : ℕ)
    → ((sheet : ℕ) → list_any (λ other. is_behind sheet (sheet_of other)) earlier ≡ is_behind sheet latest)
    → is_misplaced_behind kind latest ≡ is_misplaced kind earlier
misplaced_same Comment earlier latest h = refl
misplaced_same Unknown earlier latest h = refl
misplaced_same Header earlier latest h = sym (h 1)
misplaced_same File earlier latest h = sym (h 2)
misplaced_same Record earlier latest h = sym (h 3)
misplaced_same RecordAnd earlier latest h = sym (h 3)
misplaced_same RecordOr earlier latest h = sym (h 3)
misplaced_same Field earlier latest h = sym (h 3)
misplaced_same Calculation earlier latest h = sym (h 4)
misplaced_same OutputLine earlier latest h = sym (h 5)
misplaced_same OutputAnd earlier latest h = sym (h 5)
misplaced_same OutputOr earlier latest h = sym (h 5)
misplaced_same OutputField earlier latest h = sym (h 5)

lacks_same : (cards : List (List ℕ)) (n : ℕ) (kept : Kept) → IsKept cards n kept
    → lacks_its_file kept (kind_at cards n) (card_at cards n) ≡ lacks_file (kind_at cards n) (before cards n) (card_at cards n)
lacks_same cards n kept so_far =
    ap (λ b. is_output_line (kind_at cards n) && are_blank (columns (card_at cards n) shared.FILENAME) && not b) (sym so_far.of_lines)

pub fault_same : (cards : List (List ℕ)) (n : ℕ) (kept : Kept) → IsKept cards n kept → is_at_fault_behind kept (card_at cards n) ≡ is_at_fault cards n
unfolding is_at_fault_behind is_at_fault
fault_same cards n kept so_far =
    rw (misplaced_same (kind_at cards n) (before cards n) kept.latest_sheet so_far.latest, lacks_same cards n kept so_far) refl

pub outside_same : (cards : List (List ℕ)) (n : ℕ) (kept : Kept) → IsKept cards n kept
    → is_outside_behind kept (kind_at cards n) (card_at cards n) ≡ is_outside cards n
unfolding is_outside_behind is_outside
outside_same cards n kept so_far = rw (so_far.of_files, so_far.of_input, so_far.of_output) refl

files_same : (cards : List (List ℕ)) (n : ℕ) (kept : Kept) → IsKept cards n kept → files_with kept (card_at cards n) ≡ files cards (suc n)
unfolding files_with
files_same cards n kept so_far =
    ap (λ known. known ++ option_to_list (new_file known (file_of (kind_at cards n) (is_at_fault_behind kept (card_at cards n)) (card_at cards n)))) so_far.of_files
    ∙ ap (λ b. files cards n ++ option_to_list (new_file (files cards n) (file_of (kind_at cards n) b (card_at cards n)))) (fault_same cards n kept so_far)

fields_same : (cards : List (List ℕ)) (n : ℕ) (kept : Kept) → IsKept cards n kept → fields_with kept (card_at cards n) ≡ fields cards (suc n)
unfolding fields_with
fields_same cards n kept so_far =
    ap (λ known. known ++ option_to_list (new_field known (field_of (kind_at cards n) (is_at_fault_behind kept (card_at cards n) || is_outside_behind kept (kind_at cards n) (card_at cards n)) (card_at cards n))))
    so_far.of_fields
    ∙ (ap (λ b. fields cards n ++ option_to_list (new_field (fields cards n) (field_of (kind_at cards n) (b || is_outside_behind kept (kind_at cards n) (card_at cards n)) (card_at cards n))))
    (fault_same cards n kept so_far)
    ∙ ap (λ b. fields cards n ++ option_to_list (new_field (fields cards n) (field_of (kind_at cards n) (is_at_fault cards n || b) (card_at cards n))))
    (outside_same cards n kept so_far))

named_same : (cards : List (List ℕ)) (n : ℕ) (kept : Kept) → IsKept cards n kept → length_named kept (card_at cards n) ≡ named_length cards n
named_same cards n kept so_far = ap (λ known. record_length_of known (name_of (columns (card_at cards n) shared.FILENAME))) so_far.of_files

input_same : (cards : List (List ℕ)) (n : ℕ) (kept : Kept) → IsKept cards n kept
    → length_behind (is_record (kind_at cards n)) (is_at_fault_behind kept (card_at cards n) || has_code_past (card_at cards n) (length_named kept (card_at cards n)))
    (length_named kept (card_at cards n)) kept.input_length
    ≡ input_length cards (suc n)
input_same cards n kept so_far = λ i.
    length_behind (is_record (kind_at cards n)) (fault_same cards n kept so_far i || has_code_past (card_at cards n) (named_same cards n kept so_far i))
    (named_same cards n kept so_far i) (so_far.of_input i)

output_same : (cards : List (List ℕ)) (n : ℕ) (kept : Kept) → IsKept cards n kept
    → length_behind (is_output_line (kind_at cards n)) (is_at_fault_behind kept (card_at cards n))
    (line_length (are_blank (columns (card_at cards n) shared.FILENAME)) (length_named kept (card_at cards n)) kept.output_length) kept.output_length
    ≡ output_length cards (suc n)
output_same cards n kept so_far = λ i.
    length_behind (is_output_line (kind_at cards n)) (fault_same cards n kept so_far i)
    (line_length (are_blank (columns (card_at cards n) shared.FILENAME)) (named_same cards n kept so_far i) (so_far.of_output i)) (so_far.of_output i)

behind_later : (sheet a b : ℕ) → (is_behind sheet a || is_behind sheet b) ≡ is_behind sheet (max a b)
behind_later sheet a b = grind (arith, nat_tests)

-- the state after one more card agrees
pub kept_next : (cards : List (List ℕ)) (n : ℕ) (kept : Kept) → IsKept cards n kept → n < length cards
    → IsKept cards (n + 1) (kept_behind kept (card_at cards n))
unfolding kept_behind
kept_next cards n kept so_far in' = record {
  latest = λ sheet.
      before_more (λ other. is_behind sheet (sheet_of other)) cards n in'
      ∙ (ap (λ b. b || is_behind sheet (sheet_of (kind_at cards n))) (so_far.latest sheet)
      ∙ behind_later sheet kept.latest_sheet (sheet_of (kind_at cards n)));
  of_lines = before_more is_output_line cards n in' ∙ ap (λ b. b || is_output_line (kind_at cards n)) so_far.of_lines;
  of_files = rw add-one (files_same cards n kept so_far);
  of_input = rw add-one (input_same cards n kept so_far);
  of_output = rw add-one (output_same cards n kept so_far);
  of_fields = rw add-one (fields_same cards n kept so_far);
}

-- the facts about the next card agree
pub standing_same : (cards : List (List ℕ)) (n : ℕ) (kept : Kept) → IsKept cards n kept
    → standing_behind kept (card_at cards n) ≡ standing_at cards n
unfolding standing_behind is_too_many
standing_same cards n kept so_far = λ i. record {
  faults = faults_of (card_at cards n);
  is_misplaced = misplaced_same (kind_at cards n) (before cards n) kept.latest_sheet so_far.latest i;
  lacks_file = lacks_same cards n kept so_far i;
  is_outside = outside_same cards n kept so_far i;
  is_too_many = passes_limit 20 (length (so_far.of_files i)) (length (files_same cards n kept so_far i))
      || passes_limit 999 (length (so_far.of_fields i)) (length (fields_same cards n kept so_far i));
}
