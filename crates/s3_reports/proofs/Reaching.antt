-- How far reports have come, where the day's own lines are given.
use Rattle.std.proofs.Common.{◌≡◌, ℕ, Bool, List, [], ◌++◌, Option, sym, ◌∙◌, subst}
use Rattle.std.proofs.lemmas.List.{append-nil}
use Rattle.s3_cards.specs.Printed.{Printed}
use Rattle.s3_reports.specs.declared.place.Place.{Place}
use Rattle.s3_reports.specs.Inner.Reports.{IsOneWritten, IsTwoWritten, whole_output, written_at}
use Rattle.s3_reports.specs.Inner.Written.{Moves}

-- with no line after them, these are all of level 1
pub all_of_one : (place : Place) (one later : List Printed) → later ≡ [] → IsOneWritten place one → IsOneWritten place (one ++ later)
all_of_one place one later none all = subst (λ l. IsOneWritten place (one ++ l)) (sym none) (subst (IsOneWritten place) (sym (append-nil one)) all)

module _ (was now : Option (List ℕ)) (had_failed has_failed : Bool) (old new : Place) where
  pub whole_one : (given one two : List Printed) (halts : List ℕ) → given ≡ one
      → ((later two : List Printed) (halts : List ℕ) → Moves was now had_failed has_failed (written_at old (given ++ later) two halts) (written_at new (given ++ later) two halts))
      → Moves was now had_failed has_failed (written_at old one two halts) (written_at new one two halts)
  whole_one given one two halts is moves =
      subst (λ l. Moves was now had_failed has_failed (written_at old l two halts) (written_at new l two halts)) (append-nil given ∙ is) (moves [] two halts)

  pub whole_end : (given one two : List Printed) (text halts : List ℕ) → given ≡ one → text ≡ halts → IsOneWritten old given
      → ((one two : List Printed) → IsOneWritten old one → Moves was now had_failed has_failed (written_at old one two text) (written_at new one two text))
      → Moves was now had_failed has_failed (written_at old one two halts) (written_at new one two halts)
  whole_end given one two text halts is are all moves =
      subst (λ t. Moves was now had_failed has_failed (written_at old one two t) (written_at new one two t)) are (moves one two (subst (IsOneWritten old) is all))

  pub whole_two : (given one two : List Printed) (halts : List ℕ) → given ≡ two
      → ((one later : List Printed) (halts : List ℕ) → Moves was now had_failed has_failed (written_at old one (given ++ later) halts) (written_at new one (given ++ later) halts))
      → Moves was now had_failed has_failed (written_at old one two halts) (written_at new one two halts)
  whole_two given one two halts is moves =
      subst (λ l. Moves was now had_failed has_failed (written_at old one l halts) (written_at new one l halts)) (append-nil given ∙ is) (moves one [] halts)

pub whole_last : (was now : Option (List ℕ)) (had_failed has_failed : Bool) (old : Place) (given one two : List Printed) (halts1 text halts2 : List ℕ) → given ≡ two → text ≡ halts2 → IsTwoWritten old given
    → ((one two : List Printed) (halts1 : List ℕ) → IsTwoWritten old two → Moves was now had_failed has_failed (written_at old one two halts1) (whole_output one two halts1 text))
    → Moves was now had_failed has_failed (written_at old one two halts1) (whole_output one two halts1 halts2)
whole_last was now had_failed has_failed old given one two halts1 text halts2 is are all moves =
    subst (λ t. Moves was now had_failed has_failed (written_at old one two halts1) (whole_output one two halts1 t)) are (moves one two halts1 (subst (IsTwoWritten old) is all))
