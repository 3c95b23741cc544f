-- Facts about the output cards of a valid program.
use Rattle.std.proofs.Common.{◌≡◌, ℕ, ◌<◌, List, [], ◌∷◌, Bool, true, false, not, ◌||◌, length, get_or, refl, sym, ◌∙◌, ap, zero, suc}
use Rattle.std.specs.Prelude.{Some, slice_get, unwrap_or, option_map}
use Rattle.std.specs.List.{list_any}
use Rattle.std.proofs.lemmas.Bool.{and_parts, true≢false}
use Rattle.std.proofs.lemmas.Option.{slice_get-map, slice_get-get_or}
use Rattle.s3_lines.specs.declared.sheet.OutputCard.{OutputCard}
use Rattle.s3_lines.specs.declared.sheet.OutputLine.{OutputLine}
use Rattle.s3_lines.specs.declared.sheet.OutputLine.TheVariants.{Line as LineCard}
use Rattle.s3_lines.specs.Inner.Ranges.{output_in_range, spacing_in_range}
use Rattle.s3_program.specs.declared.program.Program.{Program}
use Rattle.s3_program.specs.declared.program.Reference.{Reference}
use Rattle.s3_program.specs.declared.program.Meaning.{Meaning}
use Rattle.s3_program.specs.declared.standing.OutputStanding.{OutputStanding}
use Rattle.s3_program.specs.Inner.Meant.{is_of, output_passes, are_of_kinds}
use Rattle.s3_program.specs.Inner.Positions.{are_in_range}
use Rattle.s3_program.specs.Operands.{output_unfit}
use Rattle.s3_program.specs.Standings.{first_output, behind_output}
use Rattle.s3_program.specs.Inner.Conditions.{is_clear, outputs_clear, are_clear}
use Rattle.s3_program.specs.Conditions.{output_holds}
use Rattle.s3_program.specs.Inner.Valid.{meant_output, meant}
use Rattle.s3_program.specs.Inner.Stands.{parts_of}
use Rattle.s3_program.proofs.SlotLemmas.{Kept, kept}
use Rattle.s3_operations.specs.Inner.Fits.{tables}
use Rattle.s3_operations.proofs.ValueLemmas.{all_at}

some_same : {X : Type 0} (x y : X) → Some x ≡ Some y → x ≡ y
some_same x y h = ap (λ o. unwrap_or o x) h

-- a condition that doesn't hold
head_not : (a b : Bool) → not (a || b) ≡ true → a ≡ false
head_not true b h = sym h
head_not false b h = refl

rest_not : (a b : Bool) → not (a || b) ≡ true → not b ≡ true
rest_not true b h = absurd (true≢false (sym h))
rest_not false b h = h

-- the fourth condition of the list, number 8, doesn't hold
no_misfit : (holds : ℕ → Bool) → is_clear holds ≡ true → holds 8 ≡ false
no_misfit holds clear =
    head_not (holds 8) (list_any holds (9 ∷ 10 ∷ 11 ∷ 12 ∷ []))
    (rest_not (holds 7) (list_any holds (8 ∷ 9 ∷ 10 ∷ 11 ∷ 12 ∷ [])) (rest_not (holds 6) (list_any holds (7 ∷ 8 ∷ 9 ∷ 10 ∷ 11 ∷ 12 ∷ [])) (rest_not (holds 5) (list_any holds (6 ∷ 7 ∷ 8 ∷ 9 ∷ 10 ∷ 11 ∷ 12 ∷ [])) clear)))

fits_at : (at : OutputStanding) (lines : List (OutputLine Meaning)) (k : ℕ) (line : OutputLine Meaning) → outputs_clear at lines ≡ true → slice_get lines k ≡ Some line → output_unfit line ≡ false
fits_at at [] k line clear there = cc
fits_at at (l ∷ ls) zero line clear there =
    ap output_unfit (sym (some_same l line there)) ∙ no_misfit (output_holds at l) (and_parts _ _ clear).0
fits_at at (l ∷ ls) (suc k) line clear there = fits_at (behind_output at l) ls k line (and_parts _ _ clear).1 there

-- facts about the card at a place: its entries are in range and of the right kinds, and its field fits
pub record Brings (p : Program) (card : OutputLine Reference) : Type 0 where
  pub ranged : output_in_range (meant_output (tables p) card) ≡ true
  pub kinds : output_passes is_of (meant_output (tables p) card) ≡ true
  pub fits : output_unfit (meant_output (tables p) card) ≡ false

pub brings : (p : Program) (place : ℕ) (card : OutputLine Reference) → place < length p.outputs.items → card ≡ get_or p.outputs.items place card → Brings p card
unfolding are_of_kinds are_in_range are_clear
brings p place card within found =
    let k : Kept (parts_of p) = kept (parts_of p) p.valid in
    let there : slice_get (meant (parts_of p)).outputs place ≡ Some (meant_output (tables p) card) =
    slice_get-map (meant_output (tables p)) p.outputs.items place
    ∙ ap (option_map (meant_output (tables p))) (slice_get-get_or p.outputs.items place card within ∙ ap (λ c. Some c) (sym found)) in
    record {
      ranged = all_at output_in_range (meant (parts_of p)).outputs place (meant_output (tables p) card) (and_parts _ _ k.ranged).1 there;
      kinds = all_at (output_passes is_of) (meant (parts_of p)).outputs place (meant_output (tables p) card) (and_parts _ _ k.kinds).1 there;
      fits = fits_at first_output (meant (parts_of p)).outputs place (meant_output (tables p) card) (and_parts _ _ k.clear).1 there;
    }

pub spacing_ranged : (p : Program) (place : ℕ) (d : OutputLine Reference) (card : OutputCard Reference) → place < length p.outputs.items → d ≡ get_or p.outputs.items place d → d ≡ LineCard card
    → spacing_in_range card.spacing ≡ true
spacing_ranged p place d card within found is =
    (and_parts (spacing_in_range card.spacing) _ (ap (λ (c : OutputLine Reference). output_in_range (meant_output (tables p) c)) (sym is) ∙ (brings p place d within found).ranged)).0
