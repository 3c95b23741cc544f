-- Lemmas about the search in the table of operations.
use Rattle.std.proofs.Common.{◌≡◌, ℕ, ◌+◌, ◌<◌, ◌≤◌, List, ◌∷◌, true, false, refl, sym, ◌∙◌, ap, length, drop, get_or, add-one}
use Rattle.std.specs.Prelude.{map}
use Rattle.std.proofs.Math.Seq.{drop-cons}
use Rattle.std.proofs.lemmas.List.{drop_all}
use Rattle.s3_lines.specs.declared.sheet.Operation.{Operation}
use Rattle.s3_lines.specs.declared.sheet.Operation.TheVariants.{Unknown}
use Rattle.s3_sheets.specs.Columns.{same_codes}
use Rattle.s3_sheets.specs.Entries.{operation_in}
use Rattle.s3_sheets.specs.Inner.RuleViews.{row_view}
use Rattle.s3_sheets.specs.declared.operations.Row.{Row}

abbrev pub searched : List Row → List ℕ → ℕ → Operation
searched rows word i = operation_in (map row_view (drop i rows)) word

at_place : (rows : List Row) (word : List ℕ) (i : ℕ) (d : Row) → i < length rows
    → searched rows word i ≡ operation_in (row_view (get_or rows i d) ∷ map row_view (drop (i + 1) rows)) word
at_place rows word i d in' =
    let cut : drop i rows ≡ get_or rows i d ∷ drop (i + 1) rows = rw (add-one, drop-cons rows i d) refl in
    ap (λ (rs : List Row). operation_in (map row_view rs) word) cut

pub found_there : (rows : List Row) (word : List ℕ) (i : ℕ) (d : Row) → operation_in (map row_view rows) word ≡ searched rows word i → i < length rows
    → same_codes word (get_or rows i d).word ≡ true → (get_or rows i d).operation ≡ operation_in (map row_view rows) word
found_there rows word i d so_far in' same = sym (so_far ∙ (at_place rows word i d in' ∙ rw same refl))

pub not_there : (rows : List Row) (word : List ℕ) (i : ℕ) (d : Row) → operation_in (map row_view rows) word ≡ searched rows word i → i < length rows
    → same_codes word (get_or rows i d).word ≡ false → operation_in (map row_view rows) word ≡ searched rows word (i + 1)
not_there rows word i d so_far in' other = so_far ∙ (at_place rows word i d in' ∙ rw other refl)

pub found_nowhere : (rows : List Row) (word : List ℕ) (i : ℕ) → operation_in (map row_view rows) word ≡ searched rows word i → length rows ≤ i
    → Unknown ≡ operation_in (map row_view rows) word
found_nowhere rows word i so_far all = sym (so_far ∙ ap (λ (rs : List Row). operation_in (map row_view rs) word) (drop_all i rows all))
