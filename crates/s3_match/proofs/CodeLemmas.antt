-- Codes line by line.
use Rattle.std.proofs.Common.{◌≡◌, ℕ, ◌+◌, ◌<◌, ◌≤◌, ◌&&◌, length, drop, get_or, List, Bool, true, false, refl, sym, ◌∙◌, ap}
use Rattle.std.specs.Prelude.{Option, Some, None, find, if◌then◌else◌}
use Rattle.std.specs.List.{list_all}
use Rattle.std.proofs.lemmas.List.{at_drop_more, at_drop_all}
use Rattle.s3_lines.specs.declared.indicator.Indicator.{Indicator}
use Rattle.s3_lines.specs.declared.sheet.RecordCode.{RecordCode}
use Rattle.s3_lines.specs.declared.sheet.InputLine.{InputLine}
use Rattle.s3_lines.specs.declared.sheet.InputLine.TheVariants.{Record}
use Rattle.s3_program.specs.declared.program.Reference.{Reference}
use Rattle.s3_match.specs.Inner.Types.{entry_holds, further_codes_hold, goes_on_by, further_hold, first_codes_hold, type_holds}

-- at a line, by what its codes say
pub further_at : (bytes : List ℕ) (inputs : List (InputLine Reference)) (from k : ℕ) (d : InputLine Reference) (here found : Option Bool) → k < length inputs
    → further_hold bytes (drop from inputs) ≡ further_hold bytes (drop k inputs)
    → here ≡ further_codes_hold bytes (get_or inputs k d) → here ≡ found
    → further_hold bytes (drop from inputs) ≡ goes_on_by found (further_hold bytes (drop (k + 1) inputs))
unfolding further_hold
further_at bytes inputs from k d here found within before codes is =
    before ∙ at_drop_more (further_hold bytes) inputs k d within ∙ ap (λ (o : Option Bool). goes_on_by o (further_hold bytes (drop (k + 1) inputs))) (sym codes ∙ is)

pub no_more_codes : (bytes : List ℕ) (inputs : List (InputLine Reference)) (from k : ℕ) → length inputs ≤ k → further_hold bytes (drop from inputs) ≡ further_hold bytes (drop k inputs) → further_hold bytes (drop from inputs) ≡ true
unfolding further_hold
no_more_codes bytes inputs from k past before = before ∙ at_drop_all (further_hold bytes) inputs k past

pub type_past : (bytes : List ℕ) (inputs : List (InputLine Reference)) (k : ℕ) → length inputs ≤ k → false ≡ type_holds bytes (drop k inputs)
unfolding type_holds
type_past bytes inputs k past = sym (at_drop_all (type_holds bytes) inputs k past)

pub type_here : (bytes : List ℕ) (inputs : List (InputLine Reference)) (k : ℕ) (d : InputLine Reference) (first : Bool) → k < length inputs → first ≡ first_codes_hold bytes (get_or inputs k d)
    → (first && further_hold bytes (drop (k + 1) inputs)) ≡ type_holds bytes (drop k inputs)
unfolding type_holds
type_here bytes inputs k d first within codes =
    ap (λ (b : Bool). b && further_hold bytes (drop (k + 1) inputs)) codes ∙ sym (at_drop_more (type_holds bytes) inputs k d within)

-- ---- a type without codes
pub record_holds : (bytes : List ℕ) (line : InputLine Reference) (file : Reference) (indicator : Indicator) (codes : List (Option RecordCode)) → line ≡ Record file indicator codes
    → list_all (entry_holds bytes) codes ≡ true → first_codes_hold bytes line ≡ true
record_holds bytes line file indicator codes is blank = ap (first_codes_hold bytes) is ∙ blank

pub further_past : (bytes : List ℕ) (inputs : List (InputLine Reference)) (k : ℕ) → length inputs ≤ k → further_hold bytes (drop k inputs) ≡ true
unfolding further_hold
further_past bytes inputs k past = at_drop_all (further_hold bytes) inputs k past

pub further_end : (bytes : List ℕ) (inputs : List (InputLine Reference)) (k : ℕ) (d : InputLine Reference) → k < length inputs → further_codes_hold bytes (get_or inputs k d) ≡ None
    → further_hold bytes (drop k inputs) ≡ true
unfolding further_hold
further_end bytes inputs k d within ends =
    at_drop_more (further_hold bytes) inputs k d within ∙ ap (λ (o : Option Bool). goes_on_by o (further_hold bytes (drop (k + 1) inputs))) ends

pub any_holds : (bytes : List ℕ) (inputs : List (InputLine Reference)) (k : ℕ) (d : InputLine Reference) → k < length inputs → first_codes_hold bytes (get_or inputs k d) ≡ true
    → further_hold bytes (drop (k + 1) inputs) ≡ true → type_holds bytes (drop k inputs) ≡ true
any_holds bytes inputs k d within first further = sym (type_here bytes inputs k d true within (sym first)) ∙ further

-- the first item that passes, by what is left
pub first_here : {X : Type 0} (p : X → Bool) (xs : List X) (k : ℕ) (d : X) → k < length xs → find p xs ≡ find p (drop k xs) → p (get_or xs k d) ≡ true → find p xs ≡ Some (get_or xs k d)
first_here p xs k d within before passes = before ∙ at_drop_more (find p) xs k d within ∙ ap (λ (b : Bool). if b then Some (get_or xs k d) else find p (drop (k + 1) xs)) passes

pub first_later : {X : Type 0} (p : X → Bool) (xs : List X) (k : ℕ) (d : X) → k < length xs → find p xs ≡ find p (drop k xs) → p (get_or xs k d) ≡ false → find p xs ≡ find p (drop (k + 1) xs)
first_later p xs k d within before fails = before ∙ at_drop_more (find p) xs k d within ∙ ap (λ (b : Bool). if b then Some (get_or xs k d) else find p (drop (k + 1) xs)) fails

pub first_passes : {X : Type 0} (p : X → Bool) (xs : List X) (d : X) → 0 < length xs → p (get_or xs 0 d) ≡ true → Some (get_or xs 0 d) ≡ find p xs
first_passes p xs d within passes = sym (first_here p xs 0 d within refl passes)
