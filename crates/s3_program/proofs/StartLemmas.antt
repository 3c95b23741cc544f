-- Searching for starts line by line.
use Rattle.std.proofs.Common.{◌≡◌, ℕ, ◌+◌, ◌<◌, ◌≤◌, ◌++◌, length, drop, get_or, List, [], ◌∷◌, Bool, true, false, refl, sym, ◌∙◌, ap, add-one, append_assoc, arith, Vec, Global}
use Rattle.std.specs.Prelude.{Option, Some, None, if◌then◌else◌, not, map}
use Rattle.std.specs.Option.{option_to_list}
use Rattle.std.specs.List.{cons_option, range_with_len}
use Rattle.std.proofs.Math.Seq.{drop-cons}
use Rattle.std.proofs.lemmas.List.{drop_all, append-nil, map-append}
use Rattle.std.proofs.lemmas.List.FromFn.{map-range_with_len_more}
use Rattle.s3_lines.specs.declared.sheet.FileLine.{FileLine}
use Rattle.s3_lines.specs.declared.sheet.InputLine.{InputLine}
use Rattle.s3_lines.specs.declared.sheet.CalculationLine.{CalculationLine}
use Rattle.s3_lines.specs.declared.sheet.OutputLine.{OutputLine}
use Rattle.s3_program.specs.declared.program.Reference.{Reference}
use Rattle.s3_program.specs.declared.starts.TypeStart.{TypeStart}
use Rattle.s3_program.specs.declared.starts.OutputStart.{OutputStart}
use Rattle.s3_program.specs.declared.starts.Starts.{Starts}
use Rattle.s3_program.specs.declared.starts.Walk.TheVariants as walk
use Rattle.s3_program.specs.Inner.Starts.{first_from, fields_begin, goes_on, type_file, type_start, type_starts_from, types_of_file, output_file, output_start, output_starts_from, types_by_file, walked, sections_of, AreStarts}

-- the lines from a place on: the line there, then the lines after it
lines_from : {X : Type 0} (xs : List X) (k : ℕ) (d : X) → k < length xs → drop k xs ≡ get_or xs k d ∷ drop (k + 1) xs
lines_from xs k d within = drop-cons xs k d within ∙ ap (λ n. get_or xs k d ∷ drop n xs) (sym (add-one k))

step : {X : Type 0} (passes : X → Bool) (xs : List X) (k : ℕ) (d : X) → k < length xs
    → first_from passes k (drop k xs) ≡ (if passes (get_or xs k d) then k else first_from passes (k + 1) (drop (k + 1) xs))
unfolding first_from
step passes xs k d within = ap (first_from passes k) (lines_from xs k d within)

-- the line at this place is the first that passes
pub found : {X : Type 0} (passes : X → Bool) (xs : List X) (from k : ℕ) (d : X) → k < length xs → first_from passes from (drop from xs) ≡ first_from passes k (drop k xs)
    → passes (get_or xs k d) ≡ true → k ≡ first_from passes from (drop from xs)
found passes xs from k d within before here =
    sym (before ∙ step passes xs k d within ∙ ap (λ b. if b then k else first_from passes (k + 1) (drop (k + 1) xs)) here)

pub passed : {X : Type 0} (passes : X → Bool) (xs : List X) (from k : ℕ) (d : X) → k < length xs → first_from passes from (drop from xs) ≡ first_from passes k (drop k xs)
    → passes (get_or xs k d) ≡ false → first_from passes from (drop from xs) ≡ first_from passes (k + 1) (drop (k + 1) xs)
passed passes xs from k d within before here =
    before ∙ step passes xs k d within ∙ ap (λ b. if b then k else first_from passes (k + 1) (drop (k + 1) xs)) here

pub none_from : {X : Type 0} (passes : X → Bool) (xs : List X) (from k : ℕ) → length xs ≤ k → k ≤ length xs → first_from passes from (drop from xs) ≡ first_from passes k (drop k xs)
    → length xs ≡ first_from passes from (drop from xs)
unfolding first_from
none_from passes xs from k all within before =
    let same : k ≡ length xs = omega arith in
    sym (before ∙ ap (first_from passes k) (drop_all k xs all) ∙ same)

-- the start of fields is known from the previous line
later : (b : Bool) (k rest : ℕ) → k < (if not b then k else rest) → (if not b then k else rest) ≡ rest
later true k rest behind = refl
later false k rest behind = absurd (omega (arith, behind))

pub begin_behind : (inputs : List (InputLine Reference)) (k known : ℕ) (d : InputLine Reference) → k < length inputs → k < known → known ≡ fields_begin k (drop k inputs)
    → known ≡ fields_begin (k + 1) (drop (k + 1) inputs)
begin_behind inputs k known d within behind here =
    let e : known ≡ (if not (goes_on (get_or inputs k d)) then k else fields_begin (k + 1) (drop (k + 1) inputs)) = here ∙ step (λ line. not (goes_on line)) inputs k d within in
    e ∙ later (goes_on (get_or inputs k d)) k (fields_begin (k + 1) (drop (k + 1) inputs)) (rw (sym e) behind)

-- ---- one line more
joined : {X : Type 0} (o : Option X) (xs : List X) → cons_option o xs ≡ option_to_list o ++ xs
joined None xs = refl
joined (Some x) xs = refl

added : {X : Type 0} (old new rest all : List X) (o : Option X) → new ≡ old ++ option_to_list o → old ++ cons_option o rest ≡ all → new ++ rest ≡ all
added old new rest all o more before = ap (λ (xs : List _). xs ++ rest) more ∙ append_assoc old (option_to_list o) rest ∙ ap (λ (xs : List _). old ++ xs) (sym (joined o rest)) ∙ before

types_step : (inputs : List (InputLine Reference)) (last k : ℕ) (line : InputLine Reference) → k < length inputs
    → type_starts_from last k (drop k inputs)
    ≡ cons_option (type_start (type_file last (get_or inputs k line)) k (fields_begin (k + 1) (drop (k + 1) inputs)) (get_or inputs k line))
    (type_starts_from (type_file last (get_or inputs k line)) (k + 1) (drop (k + 1) inputs))
unfolding type_starts_from
types_step inputs last k line within = ap (type_starts_from last k) (lines_from inputs k line within)

pub type_more : (old new all : List TypeStart) (inputs : List (InputLine Reference)) (last k file fields : ℕ) (line : InputLine Reference) → k < length inputs
    → file ≡ type_file last (get_or inputs k line) → fields ≡ fields_begin (k + 1) (drop (k + 1) inputs)
    → new ≡ old ++ option_to_list (type_start file k fields (get_or inputs k line))
    → old ++ type_starts_from last k (drop k inputs) ≡ all
    → new ++ type_starts_from file (k + 1) (drop (k + 1) inputs) ≡ all
type_more old new all inputs last k file fields line within named begin more before =
    added old new (type_starts_from file (k + 1) (drop (k + 1) inputs)) all (type_start file k fields (get_or inputs k line)) more
    ((λ i. old ++ cons_option (type_start (named i) k (begin i) (get_or inputs k line)) (type_starts_from (named i) (k + 1) (drop (k + 1) inputs)))
    ∙ (ap (λ (xs : List TypeStart). old ++ xs) (sym (types_step inputs last k line within)) ∙ before))

outputs_step : (outputs : List (OutputLine Reference)) (last k : ℕ) (line : OutputLine Reference) → k < length outputs
    → output_starts_from last k (drop k outputs)
    ≡ cons_option (output_start (output_file last (get_or outputs k line)) k (get_or outputs k line)) (output_starts_from (output_file last (get_or outputs k line)) (k + 1) (drop (k + 1) outputs))
unfolding output_starts_from
outputs_step outputs last k line within = ap (output_starts_from last k) (lines_from outputs k line within)

pub output_more : (old new all : List OutputStart) (outputs : List (OutputLine Reference)) (last k file : ℕ) (line : OutputLine Reference) → k < length outputs
    → file ≡ output_file last (get_or outputs k line)
    → new ≡ old ++ option_to_list (output_start file k (get_or outputs k line))
    → old ++ output_starts_from last k (drop k outputs) ≡ all
    → new ++ output_starts_from file (k + 1) (drop (k + 1) outputs) ≡ all
output_more old new all outputs last k file line within named more before =
    added old new (output_starts_from file (k + 1) (drop (k + 1) outputs)) all (output_start file k (get_or outputs k line)) more
    ((λ i. old ++ cons_option (output_start (named i) k (get_or outputs k line)) (output_starts_from (named i) (k + 1) (drop (k + 1) outputs)))
    ∙ (ap (λ (xs : List OutputStart). old ++ xs) (sym (outputs_step outputs last k line within)) ∙ before))

-- the types of one more file
pub types_more : (starts : List TypeStart) (old new : List (Vec TypeStart Global)) (one : Vec TypeStart Global) (k : ℕ) → new ≡ old ++ one ∷ [] → one.items ≡ types_of_file starts k
    → map (λ (types : Vec TypeStart Global). types.items) old ≡ map (types_of_file starts) (range_with_len 0 k)
    → map (λ (types : Vec TypeStart Global). types.items) new ≡ map (types_of_file starts) (range_with_len 0 (k + 1))
types_more starts old new one k more own before =
    ap (map (λ (types : Vec TypeStart Global). types.items)) more ∙ (map-append (λ (types : Vec TypeStart Global). types.items) old (one ∷ [])
    ∙ ((λ i. before i ++ own i ∷ []) ∙ sym (map-range_with_len_more (types_of_file starts) 0 k k (omega arith))))

-- after the last line no type starts
pub types_all : (starts all : List TypeStart) (inputs : List (InputLine Reference)) (last k : ℕ) → length inputs ≤ k → starts ++ type_starts_from last k (drop k inputs) ≡ all → starts ≡ all
unfolding type_starts_from
types_all starts all inputs last k past before = sym (append-nil starts) ∙ ap (λ (xs : List (InputLine Reference)). starts ++ type_starts_from last k xs) (sym (drop_all k inputs past)) ∙ before

pub outputs_all : (starts all : List OutputStart) (outputs : List (OutputLine Reference)) (last k : ℕ) → length outputs ≤ k → starts ++ output_starts_from last k (drop k outputs) ≡ all → starts ≡ all
unfolding output_starts_from
outputs_all starts all outputs last k past before = sym (append-nil starts) ∙ ap (λ (xs : List (OutputLine Reference)). starts ++ output_starts_from last k xs) (sym (drop_all k outputs past)) ∙ before

-- ---- the starts of lists
-- equal lists have the same starts
pub starts_over : (starts : Starts) (files files' : List FileLine) (inputs inputs' : List (InputLine Reference)) (calculations calculations' : List (CalculationLine Reference)) (outputs outputs' : List (OutputLine Reference))
    → AreStarts starts files inputs calculations outputs → files ≡ files' → inputs ≡ inputs' → calculations ≡ calculations' → outputs ≡ outputs' → AreStarts starts files' inputs' calculations' outputs'
starts_over starts files files' inputs inputs' calculations calculations' outputs outputs' are f i c o = record {
  types = are.types ∙ (λ n. types_by_file (f n) (i n));
  beginning = are.beginning ∙ (λ n. walked walk.Beginning (f n) (o n));
  totals = are.totals ∙ (λ n. walked walk.Totals (f n) (o n));
  exceptions = are.exceptions ∙ (λ n. walked walk.Exceptions (f n) (o n));
  overflow = are.overflow ∙ (λ n. walked walk.Overflow (f n) (o n));
  sections = are.sections ∙ (λ n. sections_of (c n));
}
