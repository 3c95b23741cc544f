-- The tokens that are written of a day.
use Rattle.std.specs.Prelude.{◌≡◌, List, [], ◌∷◌, ◌++◌, Result, OnOk, ℕ, map}
use Rattle.std.specs.Borrow.{Bor}
use Rattle.json.specs.Token.{Token, key}
use Rattle.json.specs.Json.{Json, null, string}
use Rattle.json.specs.Tree.{json_tokens}
use Rattle.json.specs.Written.{Written}
use Rattle.s3_journal.specs.declared.writing.Part.{Part}
use Rattle.s3_journal.specs.declared.writing.Part.TheVariants as part
use Rattle.s3_journal.specs.Inner.Lines.{Pairs, whole, level_tree}

-- each name with its value
abbrev pub pairs_tokens : Pairs → List Token
pairs_tokens [] = []
pairs_tokens ((name, json) ∷ rest) = key name ∷ (json_tokens json ++ pairs_tokens rest)

-- tokens are appended
pub record Appended (old new : Written) (tokens : List Token) : Type 0 where
  pub before : new.before ≡ old.before
  pub after : new.tokens ≡ old.tokens ++ tokens

-- .. unless memory runs out
abbrev pub Appends : {E : Type 0} → Result (Unit {0}) E → (old new : Written) → List Token → Type 0
Appends result old new tokens = OnOk result (Appended old new tokens)

-- the value that a part of a day is
abbrev pub json_of : Part → Json
json_of (part.Text text) = string text.now
json_of (part.Number number) = whole number
json_of (part.Level count) = level_tree count
json_of part.Nothing = null

abbrev pub pair_of : Bor (List ℕ) × Part → List ℕ × Json
pair_of (name, value) = (name.now, json_of value)

abbrev pub pairs_in : List (Bor (List ℕ) × Part) → Pairs
pairs_in parts = map pair_of parts
