-- The line of a name: the line at its place in the table, and only that one.
use Rattle.std.proofs.Common.{◌≡◌, ℕ, ◌==◌, List, [], Bool, true, false, not, refl, sym, ◌∙◌, ap, arith, inl, inr}
use Rattle.std.specs.Prelude.{Option, Some, None, map, slice_get}
use Rattle.std.proofs.lemmas.Bool.{cases_Bool}
use Rattle.s3_cards.specs.declared.name.Name.{Name}
use Rattle.s3_cards.specs.Names.{same_name}
use Rattle.s3_cards.proofs.NameLemmas.{same_name-self}
use Rattle.s3_lines.specs.declared.sheet.Operation.{Operation}
use Rattle.s3_lines.specs.declared.sheet.Operation.TheVariants as op
use Rattle.s3_lines.specs.declared.sheet.CalculationLine.{CalculationLine}
use Rattle.s3_meaning.specs.Calculations.{is_tag, begins}
use Rattle.s3_program.specs.declared.program.Program.{Program}
use Rattle.s3_program.specs.declared.program.Reference.{Reference}
use Rattle.s3_program.specs.declared.program.TagPlace.{TagPlace}
use Rattle.s3_program.specs.declared.program.SubroutinePlace.{SubroutinePlace}
use Rattle.s3_program.specs.Standings.{first_calculation}
use Rattle.s3_program.specs.Jumps.{section_of, leaves, calculation_strays}
use Rattle.s3_program.specs.Redefined.{calculation_redefined, label_redefined}
use Rattle.s3_program.specs.Conditions.{forbidden_among}
use Rattle.s3_operations.specs.Inner.Fits.{tables, named_line, meant_line, meant_factor}
use Rattle.s3_operations.proofs.FitLemmas.{brings}
use Rattle.s3_sections.specs.Inner.Sections.{standing_at, number_at}
use Rattle.s3_sections.specs.Inner.Spots.{IsLineAt}
use Rattle.s3_sections.proofs.SheetLemmas.{ClearAt, opposite, or_parts, some_same, clear_at}
use Rattle.s3_sections.proofs.SpotLemmas.{sheet_clear}
use Rattle.s3_sections.proofs.LabelLemmas.{place_at, labels, one_slot, one_tag, one_subroutine, number_is, TagNamed, SubroutineNamed, tag_named, subroutine_named, line_of, tag_name, subroutine_name, tag_meant, subroutine_meant}

-- the place that the lines before a line determine for it
standing_place : (p : Program) (place : ℕ) (line : CalculationLine Reference) → slice_get p.calculations.items place ≡ Some line → (standing_at p place).place ≡ place
standing_place p place line there = place_at first_calculation p.calculations.items place line there ∙ omega arith

line_clear : (p : Program) (place : ℕ) (line : CalculationLine Reference) → slice_get p.calculations.items place ≡ Some line → (later : List _) × ClearAt (forbidden_among (map (meant_line p) p.calculations.items)) (standing_at p place) later (meant_line p line)
line_clear p place line there = clear_at p (forbidden_among (map (meant_line p) p.calculations.items)) first_calculation p.calculations.items place line (sheet_clear p) there

-- ---- TAG
pub own_tag : (p : Program) (place : ℕ) (line : CalculationLine Reference) → IsLineAt p place line op.Tag → (t : TagNamed p line.factor1) × (t.entry.1.place ≡ place)
own_tag p place line is =
    let b = brings p line op.Tag (line_of p place line op.Tag is) refl in
    let t : TagNamed p line.factor1 = tag_named p line.factor1 b.row_first b.first in
    let clear = line_clear p place line is.there in
    let redefined = ap (λ o. calculation_redefined (standing_at p place) (record (meant_line p line) { operation = o })) (sym is.bears) ∙ clear.1.unredefined in
    let second : label_redefined (standing_at p place).place op.Tag (meant_factor p line.factor1) ≡ false = (or_parts _ _ redefined).0 in
    let same : not (t.entry.1.place == (standing_at p place).place) ≡ false = ap (label_redefined (standing_at p place).place op.Tag) (sym (tag_meant p line.factor1 t)) ∙ second in
    (t, number_is t.entry.1.place (standing_at p place).place (opposite _ same) ∙ standing_place p place line is.there)

-- whether a card is this TAG
abbrev pub is_tag_card : Name → CalculationLine Name → Bool
is_tag_card name card = is_tag name (record { time = card.time; groups = []; line = card })

pub other_tag : (p : Program) (k : ℕ) (entry : Name × TagPlace) → slice_get (tables p).tags k ≡ Some entry → (place : ℕ) (line : CalculationLine Reference) → slice_get p.calculations.items place ≡ Some line
    → (place ≡ entry.1.place → ⊥) → is_tag_card entry.0 (named_line p line) ≡ false
other_tag p k entry known place line there apart = step line.operation refl
  where
    step : (o : Option Operation) → line.operation ≡ o → is_tag_card entry.0 (record (named_line p line) { operation = o }) ≡ false
    step None bears = refl
    step (Some op.Tag) bears =
        let own = own_tag p place line (record { there = there; bears = bears }) in
        let named = tag_name p line.factor1 own.0 in
        elim (cases_Bool (same_name own.0.entry.0 entry.0)) [
          | inl same ↦
              let j : own.0.slot ≡ k = one_slot (tables p).tags own.0.slot k own.0.entry entry (labels p).tags_distinct own.0.there known same in
              let e : own.0.entry ≡ entry = some_same own.0.entry entry (sym own.0.there ∙ (ap (slice_get (tables p).tags) j ∙ known)) in
              absurd (apart (sym own.1 ∙ ap (λ (x : Name × TagPlace). x.1.place) e))
          | inr different ↦ ap (λ n. same_name n entry.0) named ∙ different
        ]
    step (Some o) bears = refl

pub this_tag : (p : Program) (k : ℕ) (entry : Name × TagPlace) → slice_get (tables p).tags k ≡ Some entry → (line : CalculationLine Reference) → IsLineAt p entry.1.place line op.Tag
    → is_tag_card entry.0 (named_line p line) ≡ true
this_tag p k entry known line is =
    let own = own_tag p entry.1.place line is in
    let j : own.0.slot ≡ k = one_tag p own.0.slot k own.0.entry entry own.0.there known own.1 in
    let e : own.0.entry ≡ entry = some_same own.0.entry entry (sym own.0.there ∙ (ap (slice_get (tables p).tags) j ∙ known)) in
    ap (λ o. is_tag_card entry.0 (record (named_line p line) { operation = o })) is.bears
    ∙ (ap (λ n. same_name n entry.0) (tag_name p line.factor1 own.0 ∙ ap (λ (x : Name × TagPlace). x.0) e) ∙ same_name-self entry.0)

-- a GOTO stays in its section
pub stays_inside : (p : Program) (place : ℕ) (line : CalculationLine Reference) (is : IsLineAt p place line op.GoTo) (t : TagNamed p line.factor2) → t.entry.1.section ≡ number_at p place line
stays_inside p place line is t =
    let clear = line_clear p place line is.there in
    let strays = ap (λ o. calculation_strays (forbidden_among (map (meant_line p) p.calculations.items)) (standing_at p place) (record (meant_line p line) { operation = o })) (sym is.bears) ∙ clear.1.unstrayed in
    let section : ℕ = section_of (standing_at p place) (record (meant_line p line) { operation = Some op.GoTo }) in
    let same : not (t.entry.1.section == section_of (standing_at p place) (record (meant_line p line) { operation = Some op.GoTo })) ≡ false =
    ap (leaves (section_of (standing_at p place) (record (meant_line p line) { operation = Some op.GoTo }))) (sym (tag_meant p line.factor2 t)) ∙ strays in
    number_is t.entry.1.section _ (opposite _ same) ∙ ap (λ o. section_of (standing_at p place) (record (meant_line p line) { operation = o })) (sym is.bears)

-- ---- BEGSR
pub own_subroutine : (p : Program) (place : ℕ) (line : CalculationLine Reference) → IsLineAt p place line op.BeginSubroutine → (t : SubroutineNamed p line.factor1) × (t.entry.1.place ≡ place)
own_subroutine p place line is =
    let b = brings p line op.BeginSubroutine (line_of p place line op.BeginSubroutine is) refl in
    let t : SubroutineNamed p line.factor1 = subroutine_named p line.factor1 b.row_first b.first in
    let clear = line_clear p place line is.there in
    let redefined = ap (λ o. calculation_redefined (standing_at p place) (record (meant_line p line) { operation = o })) (sym is.bears) ∙ clear.1.unredefined in
    let second : label_redefined (standing_at p place).place op.BeginSubroutine (meant_factor p line.factor1) ≡ false = (or_parts _ _ redefined).0 in
    let same : not (t.entry.1.place == (standing_at p place).place) ≡ false = ap (label_redefined (standing_at p place).place op.BeginSubroutine) (sym (subroutine_meant p line.factor1 t)) ∙ second in
    (t, number_is t.entry.1.place (standing_at p place).place (opposite _ same) ∙ standing_place p place line is.there)

-- whether a card is the BEGSR of this subroutine
abbrev pub begins_card : Name → CalculationLine Name → Bool
begins_card name card = begins name (record { time = card.time; groups = []; line = card })

pub other_subroutine : (p : Program) (k : ℕ) (entry : Name × SubroutinePlace) → slice_get (tables p).subroutines k ≡ Some entry → (place : ℕ) (line : CalculationLine Reference)
    → slice_get p.calculations.items place ≡ Some line → (place ≡ entry.1.place → ⊥) → begins_card entry.0 (named_line p line) ≡ false
other_subroutine p k entry known place line there apart = step line.operation refl
  where
    step : (o : Option Operation) → line.operation ≡ o → begins_card entry.0 (record (named_line p line) { operation = o }) ≡ false
    step None bears = refl
    step (Some op.BeginSubroutine) bears =
        let own = own_subroutine p place line (record { there = there; bears = bears }) in
        let named = subroutine_name p line.factor1 own.0 in
        elim (cases_Bool (same_name own.0.entry.0 entry.0)) [
          | inl same ↦
              let j : own.0.slot ≡ k = one_slot (tables p).subroutines own.0.slot k own.0.entry entry (labels p).subroutines_distinct own.0.there known same in
              let e : own.0.entry ≡ entry = some_same own.0.entry entry (sym own.0.there ∙ (ap (slice_get (tables p).subroutines) j ∙ known)) in
              absurd (apart (sym own.1 ∙ ap (λ (x : Name × SubroutinePlace). x.1.place) e))
          | inr different ↦ ap (λ n. same_name n entry.0) named ∙ different
        ]
    step (Some o) bears = refl

pub this_subroutine : (p : Program) (k : ℕ) (entry : Name × SubroutinePlace) → slice_get (tables p).subroutines k ≡ Some entry → (line : CalculationLine Reference)
    → IsLineAt p entry.1.place line op.BeginSubroutine → begins_card entry.0 (named_line p line) ≡ true
this_subroutine p k entry known line is =
    let own = own_subroutine p entry.1.place line is in
    let j : own.0.slot ≡ k = one_subroutine p own.0.slot k own.0.entry entry own.0.there known own.1 in
    let e : own.0.entry ≡ entry = some_same own.0.entry entry (sym own.0.there ∙ (ap (slice_get (tables p).subroutines) j ∙ known)) in
    ap (λ o. begins_card entry.0 (record (named_line p line) { operation = o })) is.bears
    ∙ (ap (λ n. same_name n entry.0) (subroutine_name p line.factor1 own.0 ∙ ap (λ (x : Name × SubroutinePlace). x.0) e) ∙ same_name-self entry.0)
