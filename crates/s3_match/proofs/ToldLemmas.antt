-- What is kept once for a program's records: the only types of files, and the places of record identifying indicators.
use Rattle.std.proofs.Common.{◌≡◌, ℕ, ◌<◌, ◌++◌, length, get_or, map, List, [], ◌∷◌, true, refl, sym, ◌∙◌, ap, arith}
use Rattle.std.specs.Prelude.{Option, Some, None, is_some, option_map, unwrap_or}
use Rattle.std.specs.List.{cons_option}
use Rattle.std.proofs.lemmas.Bool.{true≢false}
use Rattle.std.proofs.lemmas.List.{map-append, length-map, get_or-map}
use Rattle.std.proofs.lemmas.List.Elements.{All-push, filter_map-append}
use Rattle.s3_operations.specs.Inner.Places.{indicator_place}
use Rattle.s3_lines.specs.declared.indicator.Indicator.{Indicator}
use Rattle.s3_lines.specs.declared.sheet.InputLine.{InputLine}
use Rattle.s3_lines.specs.declared.sheet.InputLine.TheVariants.{And as AndCodes}
use Rattle.s3_program.specs.declared.program.Program.{Program}
use Rattle.s3_program.specs.declared.program.Reference.{Reference}
use Rattle.s3_program.specs.declared.starts.TypeStart.{TypeStart}
use Rattle.s3_program.specs.Inner.Starts.{types_of_file, type_starts}
use Rattle.s3_match.specs.Inner.Types.{IsOnlyType, first_that_holds, is_type_start, kind_at}
use Rattle.s3_match.proofs.FieldLemmas.{start_indicator, start_within}
use Rattle.s3_match.specs.Inner.Fields.{indicator_on}
use Rattle.s3_match.specs.Inner.Reading.{AreLinePlaces, ArePlacesOf, indicators_on, place_on}

-- ---- only types
pub only_found : (program : Program) (file : ℕ) (bytes : List ℕ) (only : Option TypeStart) → IsOnlyType program file only → is_some only ≡ true
    → only ≡ first_that_holds bytes program.inputs.items (types_of_file (type_starts program.files.items program.inputs.items) file)
only_found program file bytes None is some = absurd (true≢false (sym some))
only_found program file bytes (Some start) is some = is bytes

abbrev pub Each : Program → List (Option TypeStart) → Type 0
Each program types = (file : ℕ) (d : Option TypeStart) → file < length types → IsOnlyType program file (get_or types file d)

-- ---- places
indicators_more : (lines : List (InputLine Reference)) (line : InputLine Reference) → indicators_on (lines ++ line ∷ []) ≡ indicators_on lines ++ cons_option (indicator_on line) []
indicators_more lines line = filter_map-append indicator_on lines (line ∷ [])

pub one_more_place : (lines : List (InputLine Reference)) (places : List ℕ) (line : InputLine Reference) (indicator : Indicator) (place : ℕ) → Some indicator ≡ indicator_on line → place ≡ indicator_place indicator → place < 1600
    → ArePlacesOf lines places → ArePlacesOf (lines ++ line ∷ []) (places ++ place ∷ [])
one_more_place lines places line indicator place is placed few before = record {
  placed =
      (λ i. before.placed i ++ placed i ∷ [])
      ∙ sym (ap (map indicator_place) (indicators_more lines line ∙ ap (λ (o : Option Indicator). indicators_on lines ++ cons_option o []) (sym is))
      ∙ map-append indicator_place (indicators_on lines) (indicator ∷ []));
  within = All-push (λ place. place < 1600) places place before.within few;
}

pub no_more_places : (lines : List (InputLine Reference)) (places : List ℕ) (line : InputLine Reference) → None ≡ indicator_on line → ArePlacesOf lines places → ArePlacesOf (lines ++ line ∷ []) places
no_more_places lines places line is before = record {
  placed =
      before.placed
      ∙ sym (ap (map indicator_place) (indicators_more lines line ∙ ap (λ (o : Option Indicator). indicators_on lines ++ cons_option o []) (sym is))
      ∙ map-append indicator_place (indicators_on lines) [] ∙ ends (map indicator_place (indicators_on lines)));
  within = before.within;
}
  where
    ends : (xs : List ℕ) → xs ++ [] ≡ xs
    ends [] = refl
    ends (x ∷ xs) = ap (λ ys. x ∷ ys) (ends xs)

-- ---- by lines
pub one_more_line : (lines : List (InputLine Reference)) (places : List ℕ) (line : InputLine Reference) (place : ℕ) → place ≡ place_on line → place < 1600
    → AreLinePlaces lines places → AreLinePlaces (lines ++ line ∷ []) (places ++ place ∷ [])
one_more_line lines places line place is few before = record {
  placed = (λ i. before.placed i ++ is i ∷ []) ∙ sym (map-append place_on lines (line ∷ []));
  within = All-push (λ place. place < 1600) places place before.within few;
}

pub start_placed : (program : Program) (places : List ℕ) (start : TypeStart) → AreLinePlaces program.inputs.items places → is_type_start program start ≡ true → start.place < length places
start_placed program places start told is = omega (arith, ap length told.placed, length-map program.inputs.items place_on, start_within program start is)

pub place_there : (program : Program) (places : List ℕ) (start : TypeStart) (d : ℕ) → AreLinePlaces program.inputs.items places → is_type_start program start ≡ true
    → get_or places start.place d ≡ indicator_place (kind_at program start).indicator
place_there program places start d told is =
    ap (λ (xs : List ℕ). get_or xs start.place d) told.placed
    ∙ get_or-map place_on program.inputs.items start.place (AndCodes []) d (start_within program start is)
    ∙ ap (λ (o : Option Indicator). unwrap_or (option_map indicator_place o) 0) (start_indicator program start (AndCodes []) is)
