-- What one line adds to a deck.
use Rattle.std.specs.Prelude.{◌≡◌, ℕ, ◌+◌, List, [], ◌∷◌, ◌++◌, length, map}
use Rattle.std.specs.Str.Lines.{lines}
use Rattle.bstr.specs.Utf8.{lossy_chars}
use Rattle.s3_punch.specs.Inner.Decks.{card_of_bytes, cards_of, faults_of, joined, numbered, part_after, part_from, surplus_fault}
use Rattle.s3_punch.specs.Inner.Faults.{faults_of_line}
use Rattle.s3_punch.specs.Inner.Parts.{part_behind}
use Rattle.s3_punch.specs.declared.deck.Begun.{Begun}
use Rattle.s3_punch.specs.declared.deck.Punched.{Punched}

-- its cards, faults and part stay
pub record KeepsCards (old new : Punched) : Type 0 where
  pub text : new.text.items ≡ old.text.items
  pub origins : new.origins.items ≡ old.origins.items
  pub faults : new.faults.items ≡ old.faults.items
  pub part : new.part ≡ old.part

-- a card of this line is put after the others
pub record AddsCard (line : ℕ) (card : List ℕ) (old new : Punched) : Type 0 where
  pub text : new.text.items ≡ old.text.items ++ card ++ 10 ∷ []
  pub origins : new.origins.items ≡ old.origins.items ++ line ∷ []
  pub faults : new.faults.items ≡ old.faults.items
  pub part : new.part ≡ part_behind old.part card

-- the card of a line is put after the others, if it has one, and what is wrong with it
pub record AddsLine (begun : Begun) (line : ℕ) (bytes : List ℕ) (old new : Punched) : Type 0 where
  pub text : new.text.items ≡ old.text.items ++ joined (numbered line (card_of_bytes begun.blanks_remarks old.part bytes))
  pub origins : new.origins.items ≡ old.origins.items ++ map (λ card. card.0) (numbered line (card_of_bytes begun.blanks_remarks old.part bytes))
  pub faults : new.faults.items ≡ old.faults.items ++ (faults_of_line begun.blanks_remarks old.part line (lossy_chars bytes)
      ++ surplus_fault (begun.cards + length old.origins.items) line (card_of_bytes begun.blanks_remarks old.part bytes))
  pub part : new.part ≡ part_after old.part (card_of_bytes begun.blanks_remarks old.part bytes)

-- all lines of a text are punched, so many of them, each with its end
pub record HasCards (begun : Begun) (given : List ℕ) (punched : Punched) (lines_read : ℕ) : Type 0 where
  pub text : punched.text.items ≡ joined (cards_of begun given)
  pub origins : punched.origins.items ≡ map (λ card. card.0) (cards_of begun given)
  pub faults : punched.faults.items ≡ faults_of begun given
  pub part : punched.part ≡ part_from begun.blanks_remarks begun.part (lines given)
  pub count : lines_read ≡ length (lines given)
