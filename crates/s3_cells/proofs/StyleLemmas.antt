-- Fields with their cells written in another way, one after another.
use Rattle.std.proofs.Common.{◌≡◌, ℕ, ◌+◌, ◌<◌, sym, ◌∙◌, ap, subst, List, [], ◌∷◌, ◌++◌, length, map, take, get_or}
use Rattle.std.specs.List.{All}
use Rattle.std.proofs.lemmas.List.{map-append, take_more}
use Rattle.std.proofs.lemmas.List.Elements.{All-get_or}
use Rattle.s3_cells.specs.Inner.Fields.{LiesIn}
use Rattle.s3_cells.specs.Inner.Styles.{form_styled}
use Rattle.s3_cells.specs.declared.field.Field.{Field}
use Rattle.s3_cells.specs.declared.styles.CellStyle.{CellStyle}

pub field_lies : (fields : List Field) (n i : ℕ) (f : Field) → All (LiesIn n) fields → i < length fields → f ≡ get_or fields i f → LiesIn n f
field_lies fields n i f all h is = subst (LiesIn n) (sym is) (All-get_or (LiesIn n) fields i f h all)

pub one_more_styled : (cells : CellStyle) (fields : List Field) (i : ℕ) (f : Field) → i < length fields → f ≡ get_or fields i f
    → map (form_styled cells) (take i fields) ++ form_styled cells f ∷ [] ≡ map (form_styled cells) (take (i + 1) fields)
one_more_styled cells fields i f h is =
    ap (λ g. map (form_styled cells) (take i fields) ++ form_styled cells g ∷ []) is
    ∙ sym (ap (map (form_styled cells)) (take_more fields i f h) ∙ map-append (form_styled cells) (take i fields) (get_or fields i f ∷ []))
