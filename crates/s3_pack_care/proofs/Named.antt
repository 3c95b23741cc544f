-- What is found first in a list of slots, and the name of a file that is found under it.
use Rattle.std.proofs.Common.{◌≡◌, ℕ, suc, ◌+◌, ◌-◌, ◌<◌, ◌≤◌, Bool, true, false, cond, List, [], ◌∷◌, length, slice_get, Option, Some, None, refl, sym, ap, ◌∙◌, arith}
use Rattle.std.specs.List.{position_from}
use Rattle.s3_cards.specs.declared.name.Name.{Name}
use Rattle.s3_cards.proofs.NameLemmas.{same_name-equal}
use Rattle.s3_slots.specs.Slots.{bears, standing}
use Rattle.s3_slots.specs.declared.label.FileLabel.{FileLabel}
use Rattle.s3_slots.specs.declared.slot.Slot.{Slot}
use Rattle.s3_slots.specs.declared.slot.Slot.TheVariants.{Sound}
use Rattle.s3_slots.specs.declared.slot.Standing.TheVariants.{Present}
use Rattle.s3_slots.proofs.Makes.{present_is, present_somewhere}

-- the first slot that passes a test passes it, and is one of them
pub record IsFirst (p : Slot → Bool) (k i : ℕ) (slots : List Slot) : Type 0 where
  pub above : k ≤ i
  pub within : i < k + length slots
  pub passes : (slot : Slot) → slice_get slots (i - k) ≡ Some slot → p slot ≡ true

pub first_is : (p : Slot → Bool) (k i : ℕ) (slots : List Slot) → position_from p k slots ≡ Some i → IsFirst p k i slots
first_is p k i [] h = absurd cc
first_is p k i (slot ∷ slots) h = by (λ later. first_is p (k + 1) i slots later) (p slot) refl h
  where
    by : (position_from p (k + 1) slots ≡ Some i → IsFirst p (k + 1) i slots) → (b : Bool) → p slot ≡ b → cond b (Some k) (position_from p (k + 1) slots) ≡ Some i → IsFirst p k i (slot ∷ slots)
    by go_on true is e =
        let here : k ≡ i = cc in
        let none : i - k ≡ 0 = omega (arith, here) in
        record {
          above = omega (arith, here);
          within = omega (arith, here);
          passes = λ x there. let first : Some slot ≡ Some x = sym (ap (slice_get (slot ∷ slots)) none) ∙ there in let same : slot ≡ x = cc in ap p (sym same) ∙ is;
        }
    by go_on false is e =
        let rest = go_on e in
        let next : i - k ≡ suc (i - (k + 1)) = omega (arith, rest.above) in
        record {
          above = omega (arith, rest.above);
          within = omega (arith, rest.within);
          passes = λ x there. rest.passes x (sym (ap (slice_get (slot ∷ slots)) next) ∙ there);
        }

-- the file that is found under a name has this name
pub present_named : (name : Name) (slots : List Slot) (label : FileLabel) → standing name slots ≡ Present label → label.name ≡ name
present_named name slots label stands = by (position_from (bears name) 0 slots) refl
  where
    by : (place : Option ℕ) → position_from (bears name) 0 slots ≡ place → label.name ≡ name
    by None e = absurd (present_somewhere name slots label stands e)
    by (Some i) e =
        let at : i - 0 ≡ i = omega arith in
        same_name-equal label.name name ((first_is (bears name) 0 i slots e).passes (Sound label) (ap (slice_get slots) at ∙ present_is name slots label i stands e))
