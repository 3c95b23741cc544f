-- Parts of a list.
use Rattle.std.proofs.Common.{◌≡◌, ℕ, List, [], ◌∷◌, ◌++◌, sym, ap, ◌∙◌, append-nil, map, take, drop, take-append-drop}
use Rattle.std.proofs.lemmas.List.Folds.{flat_map-map}
use Rattle.std.specs.List.{flat_map}
use Rattle.s3_cards.specs.Printed.{Printed}
use Rattle.s3_pages.specs.Inner.Parts.{parts_of}

-- all parts together are the list
parts_whole : (counts : List ℕ) (lines : List Printed) → flat_map (λ part. part) (parts_of counts lines) ≡ lines
parts_whole [] lines = append-nil lines
parts_whole (count ∷ counts) lines = ap (λ rest. take count lines ++ rest) (parts_whole counts (drop count lines)) ∙ take-append-drop count lines

-- parts that are seen as other values
pub whole_of : {X : Type 0} (view : X → List Printed) (all : List X) (counts : List ℕ) (lines : List Printed) → map view all ≡ parts_of counts lines
    → flat_map view all ≡ lines
whole_of view all counts lines same = sym (flat_map-map (λ part. part) view all) ∙ ap (flat_map (λ part. part)) same ∙ parts_whole counts lines
