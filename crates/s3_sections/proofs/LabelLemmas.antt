-- Tags and subroutines of a valid program: each name has one line, whose place is in the tables.
use Rattle.std.proofs.Common.{◌≡◌, ℕ, ◌+◌, ◌≤◌, ◌==◌, List, [], ◌∷◌, Bool, true, false, refl, sym, ◌∙◌, ap, subst, arith, zero, suc, take}
use Rattle.std.specs.Prelude.{Option, Some, None, map, slice_get, unwrap_or, nat_eq, option_map}
use Rattle.std.specs.List.{cons_option}
use Rattle.std.specs.Map.{keys_of}
use Rattle.std.specs.Cmp.Lexicographic.{pointwise}
use Rattle.std.proofs.lemmas.Bool.{and_parts, true≢false}
use Rattle.std.proofs.lemmas.Bool.Decides.{nat_tests}
use Rattle.std.proofs.lemmas.Option.{slice_get-map}
use Rattle.s3_cards.specs.declared.name.Name.{Name}
use Rattle.s3_cards.specs.Names.{no_name, same_name}
use Rattle.s3_lines.specs.declared.sheet.Factor.{Factor}
use Rattle.s3_lines.specs.declared.sheet.Factor.TheVariants.{Named, Number, Text}
use Rattle.s3_lines.specs.declared.sheet.Operation.{Operation}
use Rattle.s3_lines.specs.declared.sheet.Operation.TheVariants as op
use Rattle.s3_lines.specs.declared.sheet.CalculationLine.{CalculationLine}
use Rattle.s3_meaning.specs.Calculations.{name_in}
use Rattle.s3_program.specs.declared.program.Kind.TheVariants as kind
use Rattle.s3_program.specs.declared.program.Program.{Program}
use Rattle.s3_program.specs.declared.program.Reference.{Reference}
use Rattle.s3_program.specs.declared.program.Reference.TheVariants as reference
use Rattle.s3_program.specs.declared.program.Meaning.{Meaning}
use Rattle.s3_program.specs.declared.program.Meaning.TheVariants as a
use Rattle.s3_program.specs.declared.program.TagPlace.{TagPlace}
use Rattle.s3_program.specs.declared.program.SubroutinePlace.{SubroutinePlace}
use Rattle.s3_program.specs.declared.row.Operand.TheVariants as operand
use Rattle.s3_program.specs.declared.standing.CalculationStanding.{CalculationStanding}
use Rattle.s3_program.specs.Inner.Tables.{slot_in, item_in}
use Rattle.s3_program.specs.Tables.{or_undefined}
use Rattle.s3_program.specs.Inner.Distinct.{are_distinct}
use Rattle.s3_program.specs.Inner.Meant.{is_of, factor_passes}
use Rattle.s3_program.specs.Standings.{first_calculation, behind_calculation}
use Rattle.s3_program.specs.Jumps.{section_of}
use Rattle.s3_program.specs.Inner.Labels.{tag_on, tags_from, subroutine_on, subroutines_from, same_tag, labels_stand}
use Rattle.s3_program.specs.Operands.{factor_fits}
use Rattle.s3_program.specs.Inner.Stands.{parts_of}
use Rattle.s3_program.proofs.SlotLemmas.{kept, own_slot, same_slot}
use Rattle.s3_operations.specs.Inner.Fits.{tables, IsLineOf, meant_line, meant_factor, named_factor}
use Rattle.s3_operations.proofs.FitLemmas.{brings}
use Rattle.s3_sections.specs.Inner.Sections.{standing_behind, number_at}
use Rattle.s3_sections.specs.Inner.Spots.{IsLineAt}
use Rattle.s3_sections.proofs.SheetLemmas.{some_same}
use Rattle.s3_sections.proofs.CutLemmas.{none_some}

-- ---- labels of lines
abbrev On : Type 0 → Type 0
On X = CalculationStanding → CalculationLine Reference → Option X

labels_from : {X : Type 0} → On X → CalculationStanding → List (CalculationLine Reference) → List X
labels_from on at [] = []
labels_from on at (line ∷ lines) = cons_option (on at line) (labels_from on (behind_calculation at line) lines)

record Found {X : Type 0} (on : On X) (at : CalculationStanding) (lines : List (CalculationLine Reference)) (x : X) : Type 0 where
  place : ℕ
  line : CalculationLine Reference
  there : slice_get lines place ≡ Some line
  is : on (standing_behind at (take place lines)) line ≡ Some x

found_later : {X : Type 0} (on : On X) (at : CalculationStanding) (l : CalculationLine Reference) (ls : List (CalculationLine Reference)) (x : X) → Found on (behind_calculation at l) ls x → Found on at (l ∷ ls) x
unfolding standing_behind
found_later on at l ls x f = record { place = suc f.place; line = f.line; there = f.there; is = f.is }

label_found : {X : Type 0} (on : On X) (at : CalculationStanding) (lines : List (CalculationLine Reference)) (k : ℕ) (x : X) → slice_get (labels_from on at lines) k ≡ Some x → Found on at lines x
unfolding labels_from standing_behind
label_found on at [] k x there = absurd (none_some x there)
label_found {X} on at (l ∷ ls) k x there =
    step (on at l) refl k (λ k' there'. found_later on at l ls x (label_found on (behind_calculation at l) ls k' x there')) there
  where
    step : (o : Option X) → on at l ≡ o → (k : ℕ) → ((k' : ℕ) → slice_get (labels_from on (behind_calculation at l) ls) k' ≡ Some x → Found on at (l ∷ ls) x)
        → slice_get (cons_option o (labels_from on (behind_calculation at l) ls)) k ≡ Some x → Found on at (l ∷ ls) x
    step None e k later there = later k there
    step (Some y) e zero later there = record { place = 0; line = l; there = refl; is = e ∙ ap (λ z. Some z) (some_same y x there) }
    step (Some y) e (suc k) later there = later k there

pub place_at : (at : CalculationStanding) (lines : List (CalculationLine Reference)) (k : ℕ) (line : CalculationLine Reference) → slice_get lines k ≡ Some line → (standing_behind at (take k lines)).place ≡ at.place + k
unfolding standing_behind
place_at at [] k line there = absurd (none_some line there)
place_at at (l ∷ ls) zero line there = omega arith
place_at at (l ∷ ls) (suc k) line there = place_at (behind_calculation at l) ls k line there ∙ omega arith

-- labels by their places
abbrev Places : {X : Type 0} → On X → (X → ℕ) → Type 0
Places {X} on where_is = (at : CalculationStanding) (line : CalculationLine Reference) (x : X) → on at line ≡ Some x → where_is x ≡ at.place

later_place : {X : Type 0} (on : On X) (where_is : X → ℕ) → Places on where_is → (at : CalculationStanding) (lines : List (CalculationLine Reference)) (k : ℕ) (x : X)
    → slice_get (labels_from on at lines) k ≡ Some x → at.place ≤ where_is x
later_place on where_is places at lines k x there =
    let f : Found on at lines x = label_found on at lines k x there in
    let e : where_is x ≡ at.place + f.place = places (standing_behind at (take f.place lines)) f.line x f.is ∙ place_at at lines f.place f.line f.there in
    omega (arith, e)

one_label : {X : Type 0} (on : On X) (where_is : X → ℕ) → Places on where_is → (at : CalculationStanding) (lines : List (CalculationLine Reference)) (j k : ℕ) (x y : X)
    → slice_get (labels_from on at lines) j ≡ Some x → slice_get (labels_from on at lines) k ≡ Some y → where_is x ≡ where_is y → j ≡ k
unfolding labels_from
one_label on where_is places at [] j k x y here there same = absurd (none_some x here)
one_label {X} on where_is places at (l ∷ ls) j k x y here there same =
    step (on at l) refl j k here there
    (λ j' k'. one_label on where_is places (behind_calculation at l) ls j' k' x y)
    (λ z n h. later_place on where_is places (behind_calculation at l) ls n z h)
  where
    step : (o : Option X) → on at l ≡ o → (j k : ℕ) → slice_get (cons_option o (labels_from on (behind_calculation at l) ls)) j ≡ Some x
        → slice_get (cons_option o (labels_from on (behind_calculation at l) ls)) k ≡ Some y
        → ((j' k' : ℕ) → slice_get (labels_from on (behind_calculation at l) ls) j' ≡ Some x → slice_get (labels_from on (behind_calculation at l) ls) k' ≡ Some y → where_is x ≡ where_is y → j' ≡ k')
        → ((z : X) (n : ℕ) → slice_get (labels_from on (behind_calculation at l) ls) n ≡ Some z → at.place + 1 ≤ where_is z) → j ≡ k
    step None e j k here there again later = again j k here there same
    step (Some z) e zero zero here there again later = refl
    step (Some z) e zero (suc k) here there again later =
        let first : where_is x ≡ at.place = ap where_is (sym (some_same z x here)) ∙ places at l z e in
        let second = later y k there in
        absurd (omega (arith, first, second, same))
    step (Some z) e (suc j) zero here there again later =
        let first : where_is y ≡ at.place = ap where_is (sym (some_same z y there)) ∙ places at l z e in
        let second = later x j here in
        absurd (omega (arith, first, second, same))
    step (Some z) e (suc j) (suc k) here there again later = ap suc (again j k here there same)

-- ---- tags and BEGSR as labels
tag_label : Program → On TagPlace
tag_label p at line = tag_on at (meant_line p line)

subroutine_label : Program → On ℕ
subroutine_label p at line = subroutine_on at.place (meant_line p line)

tag_labels : (p : Program) (at : CalculationStanding) (lines : List (CalculationLine Reference)) → tags_from at (map (meant_line p) lines) ≡ labels_from (tag_label p) at lines
unfolding tags_from labels_from tag_label
tag_labels p at [] = refl
tag_labels p at (line ∷ lines) = ap (cons_option (tag_on at (meant_line p line))) (tag_labels p (behind_calculation at line) lines)

subroutine_labels : (p : Program) (at : CalculationStanding) (lines : List (CalculationLine Reference)) → subroutines_from at.place (map (meant_line p) lines) ≡ labels_from (subroutine_label p) at lines
unfolding subroutines_from labels_from subroutine_label
subroutine_labels p at [] = refl
subroutine_labels p at (line ∷ lines) = ap (cons_option (subroutine_on at.place (meant_line p line))) (subroutine_labels p (behind_calculation at line) lines)

record IsTagLine (at : CalculationStanding) (line : CalculationLine Meaning) (tag : TagPlace) : Type 0 where
  bears : line.operation ≡ Some op.Tag
  is : tag ≡ record { place = at.place; section = section_of at line }

tag_line : (at : CalculationStanding) (line : CalculationLine Meaning) (tag : TagPlace) → tag_on at line ≡ Some tag → IsTagLine at line tag
tag_line at line tag h = record { bears = bears line.operation h; is = place line.operation refl h }
  where
    bears : (o : Option Operation) → tag_on at (record line { operation = o }) ≡ Some tag → o ≡ Some op.Tag
    bears (Some op.Tag) h = refl
    bears None h = absurd (none_some tag h)
    bears (Some o) h = absurd (none_some tag h)

    place : (o : Option Operation) → line.operation ≡ o → tag_on at (record line { operation = o }) ≡ Some tag → tag ≡ record { place = at.place; section = section_of at line }
    place (Some op.Tag) e h = sym (some_same _ tag h) ∙ ap (λ o. record { place = at.place; section = section_of at (record line { operation = o }) }) (sym e)
    place None e h = absurd (none_some tag h)
    place (Some o) e h = absurd (none_some tag h)

record IsBeginLine (at : CalculationStanding) (line : CalculationLine Meaning) (place : ℕ) : Type 0 where
  bears : line.operation ≡ Some op.BeginSubroutine
  is : place ≡ at.place

begin_line : (at : CalculationStanding) (line : CalculationLine Meaning) (place : ℕ) → subroutine_on at.place line ≡ Some place → IsBeginLine at line place
begin_line at line place h = record { bears = bears line.operation h; is = here line.operation h }
  where
    bears : (o : Option Operation) → subroutine_on at.place (record line { operation = o }) ≡ Some place → o ≡ Some op.BeginSubroutine
    bears (Some op.BeginSubroutine) h = refl
    bears None h = absurd (none_some place h)
    bears (Some o) h = absurd (none_some place h)

    here : (o : Option Operation) → subroutine_on at.place (record line { operation = o }) ≡ Some place → place ≡ at.place
    here (Some op.BeginSubroutine) h = sym (some_same at.place place h)
    here None h = absurd (none_some place h)
    here (Some o) h = absurd (none_some place h)

-- ---- tables
pair_at : {A B : Type 0} (same : A → B → Bool) (xs : List A) (ys : List B) (k : ℕ) (x : A) → pointwise same xs ys ≡ true → slice_get xs k ≡ Some x → (y : B) × (slice_get ys k ≡ Some y) × (same x y ≡ true)
pair_at same [] ys k x all there = absurd (none_some x there)
pair_at same (z ∷ zs) [] k x all there = absurd (true≢false (sym all))
pair_at {A} {B} same (z ∷ zs) (y ∷ ys) zero x all there = (y, refl, subst (λ (w : A). same w y ≡ true) (some_same z x there) (and_parts _ _ all).0)
pair_at same (z ∷ zs) (y ∷ ys) (suc k) x all there = pair_at same zs ys k x (and_parts _ _ all).1 there

-- a name has only one slot
pub one_slot : {X : Type 0} (table : List (Name × X)) (j k : ℕ) (e f : Name × X) → are_distinct (keys_of table) ≡ true → slice_get table j ≡ Some e → slice_get table k ≡ Some f → same_name e.0 f.0 ≡ true → j ≡ k
one_slot table j k e f distinct here there same =
    let at : slot_in table e.0 ≡ j = own_slot table j e distinct here in
    let test : (slot_in table e.0 == k) ≡ true = same_slot table k f e.0 distinct there ∙ same in
    sym at ∙ number (slot_in table e.0) k test
  where
    number : (m n : ℕ) → (m == n) ≡ true → m ≡ n
    number m n h = grind (arith, nat_tests, h)

pub number_is : (m n : ℕ) → (m == n) ≡ true → m ≡ n
number_is m n h = grind (arith, nat_tests, h)

-- ---- the tables of a program
pub record Labels (p : Program) : Type 0 where
  pub tags_distinct : are_distinct (keys_of (tables p).tags) ≡ true
  pub subroutines_distinct : are_distinct (keys_of (tables p).subroutines) ≡ true
  pub tags : pointwise same_tag (map (λ tag. tag.1) (tables p).tags) (tags_from first_calculation (map (meant_line p) p.calculations.items)) ≡ true
  pub subroutines : pointwise nat_eq (map (λ subroutine. subroutine.1.place) (tables p).subroutines) (subroutines_from 0 (map (meant_line p) p.calculations.items)) ≡ true

pub labels : (p : Program) → Labels p
unfolding labels_stand
labels p =
    let three = and_parts _ _ (kept (parts_of p) p.valid).labels in
    let two = and_parts _ _ three.0 in
    let one = and_parts _ _ two.0 in
    record { tags_distinct = one.0; subroutines_distinct = one.1; tags = two.1; subroutines = three.1 }

-- the line of a tag
pub record TagAt (p : Program) (tag : TagPlace) : Type 0 where
  pub line : CalculationLine Reference
  pub is : IsLineAt p tag.place line op.Tag
  pub section : tag.section ≡ number_at p tag.place line

same_tags : (one two : TagPlace) → same_tag one two ≡ true → (one.place ≡ two.place) × (one.section ≡ two.section)
same_tags one two h = let parts = and_parts _ _ h in (number_is one.place two.place parts.0, number_is one.section two.section parts.1)

tag_in_labels : (p : Program) (k : ℕ) (entry : Name × TagPlace) → slice_get (tables p).tags k ≡ Some entry
    → (tag : TagPlace) × (slice_get (labels_from (tag_label p) first_calculation p.calculations.items) k ≡ Some tag) × (entry.1.place ≡ tag.place) × (entry.1.section ≡ tag.section)
tag_in_labels p k entry there =
    let here : slice_get (map (λ tag. tag.1) (tables p).tags) k ≡ Some entry.1 = slice_get-map (λ (tag : Name × TagPlace). tag.1) (tables p).tags k ∙ ap (option_map (λ (tag : Name × TagPlace). tag.1)) there in
    let pair = pair_at same_tag _ _ k entry.1 (labels p).tags here in
    let same = same_tags entry.1 pair.0 pair.2 in
    (pair.0, ap (λ (tags : List TagPlace). slice_get tags k) (sym (tag_labels p first_calculation p.calculations.items)) ∙ pair.1, same.0, same.1)

tag_places : (p : Program) → Places (tag_label p) (λ tag. tag.place)
unfolding tag_label
tag_places p at line tag h = ap (λ (t : TagPlace). t.place) (tag_line at (meant_line p line) tag h).is

pub tag_at : (p : Program) (k : ℕ) (entry : Name × TagPlace) → slice_get (tables p).tags k ≡ Some entry → TagAt p entry.1
unfolding tag_label
tag_at p k entry there =
    let known = tag_in_labels p k entry there in
    let f = label_found (tag_label p) first_calculation p.calculations.items k known.0 known.1 in
    let t = tag_line (standing_behind first_calculation (take f.place p.calculations.items)) (meant_line p f.line) known.0 f.is in
    let zeroth : 0 + f.place ≡ f.place = omega arith in
    let place : entry.1.place ≡ f.place = known.2 ∙ (ap (λ (t : TagPlace). t.place) t.is ∙ (place_at first_calculation p.calculations.items f.place f.line f.there ∙ zeroth)) in
    record {
      line = f.line;
      is = record { there = ap (slice_get p.calculations.items) place ∙ f.there; bears = t.bears };
      section = known.3 ∙ (ap (λ (t : TagPlace). t.section) t.is ∙ ap (λ n. number_at p n f.line) (sym place));
    }

pub one_tag : (p : Program) (j k : ℕ) (e f : Name × TagPlace) → slice_get (tables p).tags j ≡ Some e → slice_get (tables p).tags k ≡ Some f → e.1.place ≡ f.1.place → j ≡ k
one_tag p j k e f here there same =
    let one = tag_in_labels p j e here in
    let two = tag_in_labels p k f there in
    one_label (tag_label p) (λ tag. tag.place) (tag_places p) first_calculation p.calculations.items j k one.0 two.0 one.1 two.1 (sym one.2 ∙ (same ∙ two.2))

-- the line of a subroutine
subroutine_in_labels : (p : Program) (k : ℕ) (entry : Name × SubroutinePlace) → slice_get (tables p).subroutines k ≡ Some entry
    → (place : ℕ) × (slice_get (labels_from (subroutine_label p) first_calculation p.calculations.items) k ≡ Some place) × (entry.1.place ≡ place)
subroutine_in_labels p k entry there =
    let here : slice_get (map (λ subroutine. subroutine.1.place) (tables p).subroutines) k ≡ Some entry.1.place =
    slice_get-map (λ (subroutine : Name × SubroutinePlace). subroutine.1.place) (tables p).subroutines k ∙ ap (option_map (λ (subroutine : Name × SubroutinePlace). subroutine.1.place)) there in
    let pair = pair_at nat_eq _ _ k entry.1.place (labels p).subroutines here in
    (pair.0, ap (λ (places : List ℕ). slice_get places k) (sym (subroutine_labels p first_calculation p.calculations.items)) ∙ pair.1, number_is entry.1.place pair.0 pair.2)

subroutine_places : (p : Program) → Places (subroutine_label p) (λ place. place)
unfolding subroutine_label
subroutine_places p at line place h = (begin_line at (meant_line p line) place h).is

pub subroutine_at : (p : Program) (k : ℕ) (entry : Name × SubroutinePlace) → slice_get (tables p).subroutines k ≡ Some entry
    → (line : CalculationLine Reference) × IsLineAt p entry.1.place line op.BeginSubroutine
unfolding subroutine_label
subroutine_at p k entry there =
    let known = subroutine_in_labels p k entry there in
    let f = label_found (subroutine_label p) first_calculation p.calculations.items k known.0 known.1 in
    let t = begin_line (standing_behind first_calculation (take f.place p.calculations.items)) (meant_line p f.line) known.0 f.is in
    let zeroth : 0 + f.place ≡ f.place = omega arith in
    let place : entry.1.place ≡ f.place = known.2 ∙ (t.is ∙ (place_at first_calculation p.calculations.items f.place f.line f.there ∙ zeroth)) in
    (f.line, record { there = ap (slice_get p.calculations.items) place ∙ f.there; bears = t.bears })

pub one_subroutine : (p : Program) (j k : ℕ) (e f : Name × SubroutinePlace) → slice_get (tables p).subroutines j ≡ Some e → slice_get (tables p).subroutines k ≡ Some f → e.1.place ≡ f.1.place → j ≡ k
one_subroutine p j k e f here there same =
    let one = subroutine_in_labels p j e here in
    let two = subroutine_in_labels p k f there in
    one_label (subroutine_label p) (λ place. place) (subroutine_places p) first_calculation p.calculations.items j k one.0 two.0 one.1 two.1 (sym one.2 ∙ (same ∙ two.2))

-- ---- the label that a factor names
pub record TagNamed (p : Program) (factor : Option (Factor Reference)) : Type 0 where
  pub slot : ℕ
  pub entry : Name × TagPlace
  pub is : factor ≡ Some (Named (reference.Tag slot))
  pub there : slice_get (tables p).tags slot ≡ Some entry

pub record SubroutineNamed (p : Program) (factor : Option (Factor Reference)) : Type 0 where
  pub slot : ℕ
  pub entry : Name × SubroutinePlace
  pub is : factor ≡ Some (Named (reference.Subroutine slot))
  pub there : slice_get (tables p).subroutines slot ≡ Some entry

no_kind : {X : Type 0} (k : _) (known : X → Meaning) (o : Option X) → ((x : X) → is_of k (known x) ≡ false) → is_of k a.Undefined ≡ false → is_of k (or_undefined known o) ≡ true → ⊥
no_kind k known None other undefined h = true≢false (sym h ∙ undefined)
no_kind k known (Some x) other undefined h = true≢false (sym h ∙ other x)

pub tag_named : (p : Program) (factor : Option (Factor Reference)) → factor_fits operand.Tag (meant_factor p factor) ≡ true → factor_passes (is_of kind.Tag) (meant_factor p factor) ≡ true → TagNamed p factor
tag_named p None fits of = absurd (true≢false (sym fits))
tag_named p (Some (Number literal)) fits of = absurd (true≢false (sym fits))
tag_named p (Some (Text literal)) fits of = absurd (true≢false (sym fits))
tag_named p (Some (Named (reference.File k))) fits of = absurd (no_kind kind.Tag (λ x. a.File x) (item_in (tables p).files k) (λ x. refl) refl of)
tag_named p (Some (Named (reference.Field k))) fits of =
    absurd (no_kind kind.Tag (λ (entry : Name × _). a.Field (record { name = entry.0; meaning = entry.1 })) (slice_get (tables p).fields k) (λ x. refl) refl of)
tag_named p (Some (Named (reference.Subroutine k))) fits of = absurd (no_kind kind.Tag (λ x. a.Subroutine x) (item_in (tables p).subroutines k) (λ x. refl) refl of)
tag_named p (Some (Named (reference.Tag k))) fits of = step (slice_get (tables p).tags k) refl of
  where
    step : (o : Option (Name × TagPlace)) → slice_get (tables p).tags k ≡ o → is_of kind.Tag (or_undefined (λ x. a.Tag x) (option_map (λ entry. entry.1) o)) ≡ true → TagNamed p (Some (Named (reference.Tag k)))
    step None there of = absurd (true≢false (sym of))
    step (Some entry) there of = record { slot = k; entry = entry; is = refl; there = there }

pub subroutine_named : (p : Program) (factor : Option (Factor Reference)) → factor_fits operand.Subroutine (meant_factor p factor) ≡ true → factor_passes (is_of kind.Subroutine) (meant_factor p factor) ≡ true
    → SubroutineNamed p factor
subroutine_named p None fits of = absurd (true≢false (sym fits))
subroutine_named p (Some (Number literal)) fits of = absurd (true≢false (sym fits))
subroutine_named p (Some (Text literal)) fits of = absurd (true≢false (sym fits))
subroutine_named p (Some (Named (reference.File k))) fits of = absurd (no_kind kind.Subroutine (λ x. a.File x) (item_in (tables p).files k) (λ x. refl) refl of)
subroutine_named p (Some (Named (reference.Field k))) fits of =
    absurd (no_kind kind.Subroutine (λ (entry : Name × _). a.Field (record { name = entry.0; meaning = entry.1 })) (slice_get (tables p).fields k) (λ x. refl) refl of)
subroutine_named p (Some (Named (reference.Tag k))) fits of = absurd (no_kind kind.Subroutine (λ x. a.Tag x) (item_in (tables p).tags k) (λ x. refl) refl of)
subroutine_named p (Some (Named (reference.Subroutine k))) fits of = step (slice_get (tables p).subroutines k) refl of
  where
    step : (o : Option (Name × SubroutinePlace)) → slice_get (tables p).subroutines k ≡ o → is_of kind.Subroutine (or_undefined (λ x. a.Subroutine x) (option_map (λ entry. entry.1) o)) ≡ true
        → SubroutineNamed p (Some (Named (reference.Subroutine k)))
    step None there of = absurd (true≢false (sym of))
    step (Some entry) there of = record { slot = k; entry = entry; is = refl; there = there }

pub line_of : (p : Program) (place : ℕ) (line : CalculationLine Reference) (operation : Operation) → IsLineAt p place line operation → IsLineOf p line operation
line_of p place line operation is = record { place = place; there = is.there; bears = is.bears }

pub target_tag : (p : Program) (line : CalculationLine Reference) → IsLineOf p line op.GoTo → TagNamed p line.factor2
target_tag p line is = let b = brings p line op.GoTo is refl in tag_named p line.factor2 b.row_second b.second

pub target_subroutine : (p : Program) (line : CalculationLine Reference) → IsLineOf p line op.ExecuteSubroutine → SubroutineNamed p line.factor2
target_subroutine p line is = let b = brings p line op.ExecuteSubroutine is refl in subroutine_named p line.factor2 b.row_second b.second

pub tag_name : (p : Program) (factor : Option (Factor Reference)) (t : TagNamed p factor) → name_in (named_factor p factor) ≡ t.entry.0
tag_name p factor t = ap (λ f. name_in (named_factor p f)) t.is ∙ ap (λ (o : Option (Name × TagPlace)). unwrap_or (option_map (λ (e : Name × TagPlace). e.0) o) no_name) t.there

pub subroutine_name : (p : Program) (factor : Option (Factor Reference)) (t : SubroutineNamed p factor) → name_in (named_factor p factor) ≡ t.entry.0
subroutine_name p factor t = ap (λ f. name_in (named_factor p f)) t.is ∙ ap (λ (o : Option (Name × SubroutinePlace)). unwrap_or (option_map (λ (e : Name × SubroutinePlace). e.0) o) no_name) t.there

pub tag_meant : (p : Program) (factor : Option (Factor Reference)) (t : TagNamed p factor) → meant_factor p factor ≡ Some (Named (a.Tag t.entry.1))
tag_meant p factor t =
    ap (λ f. meant_factor p f) t.is ∙ ap (λ (o : Option (Name × TagPlace)). Some (Named (or_undefined (λ x. a.Tag x) (option_map (λ (e : Name × TagPlace). e.1) o)))) t.there

pub subroutine_meant : (p : Program) (factor : Option (Factor Reference)) (t : SubroutineNamed p factor) → meant_factor p factor ≡ Some (Named (a.Subroutine t.entry.1))
subroutine_meant p factor t =
    ap (λ f. meant_factor p f) t.is ∙ ap (λ (o : Option (Name × SubroutinePlace)). Some (Named (or_undefined (λ x. a.Subroutine x) (option_map (λ (e : Name × SubroutinePlace). e.1) o)))) t.there
