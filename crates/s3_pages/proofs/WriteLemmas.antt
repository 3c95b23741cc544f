-- Pages written one after another.
use Rattle.std.proofs.Common.{◌≡◌, ℕ, List, ◌∷◌, ◌++◌, Option, sym, ap, ◌∙◌, append_assoc}
use Rattle.std.proofs.KnownBytes.{Appends-trans}
use Rattle.std.specs.Io.KnownBytes.{Appends}
use Rattle.std.specs.List.{flat_map}

-- of a list whose pieces are written one after another, so much is written that it and the pieces that are left make all
abbrev pub Wrote : {X : Type 0} → (X → List ℕ) → List X → List ℕ → Option (List ℕ) → Option (List ℕ) → Type 0
Wrote piece left all old new = (written : List ℕ) × Appends old new written × (written ++ flat_map piece left ≡ all)

-- one piece more
pub wrote_more : {X : Type 0} (piece : X → List ℕ) (before : List X) (x : X) (left : List X) (all bytes : List ℕ) (old mid new : Option (List ℕ))
    → Wrote piece before all old mid → before ≡ x ∷ left → bytes ≡ piece x → Appends mid new bytes → Wrote piece left all old new
wrote_more piece before x left all bytes old mid new so_far first is_piece appends = (
  so_far.0 ++ bytes,
  Appends-trans old mid new so_far.0 bytes so_far.1 appends,
  append_assoc so_far.0 bytes (flat_map piece left)
      ∙ ap (λ t. so_far.0 ++ (t ++ flat_map piece left)) is_piece
      ∙ ap (λ xs. so_far.0 ++ flat_map piece xs) (sym first)
      ∙ so_far.2,
)
