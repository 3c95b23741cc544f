-- The places at which a program's lines start, and the lengths of their records.
use Rattle.std.proofs.Common.{◌≡◌, ℕ, ◌+◌, ◌<◌, ◌≤◌, List, [], ◌∷◌, true, length, map, drop, refl, sym, ◌∙◌, ap, subst, arith, zero, suc}
use Rattle.std.specs.Prelude.{Option, Some, None, slice_get, unwrap_or, option_map, nat_le}
use Rattle.std.specs.List.{list_all}
use Rattle.std.proofs.lemmas.Bool.{and_parts, true≢false}
use Rattle.std.proofs.lemmas.Bool.Decides.{nat_tests}
use Rattle.std.proofs.lemmas.Option.{slice_get-map}
use Rattle.s3_cards.specs.declared.name.Name.{Name}
use Rattle.s3_lines.specs.declared.sheet.Device.{Device}
use Rattle.s3_lines.specs.declared.sheet.Device.TheVariants.{CardReader, Printer, Disk}
use Rattle.s3_lines.specs.declared.sheet.FileLine.{FileLine}
use Rattle.s3_lines.specs.declared.sheet.Shape.{Shape}
use Rattle.s3_lines.specs.declared.sheet.OutputCard.{OutputCard}
use Rattle.s3_lines.specs.declared.sheet.OutputLine.{OutputLine}
use Rattle.s3_lines.specs.declared.sheet.OutputLine.TheVariants.{Line as LineCard, And as AndCard, Or as OrCard, Field as FieldCard}
use Rattle.s3_lines.specs.Ranges.{is_between, longest_record}
use Rattle.s3_lines.specs.Inner.Ranges.{file_in_range}
use Rattle.s3_program.specs.declared.program.Program.{Program}
use Rattle.s3_program.specs.declared.program.Reference.{Reference}
use Rattle.s3_program.specs.declared.program.Reference.TheVariants as slot
use Rattle.s3_program.specs.declared.program.TagPlace.{TagPlace}
use Rattle.s3_program.specs.declared.program.SubroutinePlace.{SubroutinePlace}
use Rattle.s3_program.specs.declared.program.Kind.TheVariants as kind
use Rattle.s3_program.specs.declared.program.Meaning.TheVariants as a
use Rattle.s3_program.specs.declared.starts.OutputStart.{OutputStart}
use Rattle.s3_program.specs.Lines.{map_card}
use Rattle.s3_program.specs.Inner.Meant.{is_of, entry_passes, output_passes, are_of_kinds}
use Rattle.s3_program.specs.Inner.Positions.{record_length, output_length_behind, inputs_within, outputs_within, are_within, are_in_range}
use Rattle.s3_program.specs.Inner.Starts.{output_slot, output_starts_from}
use Rattle.s3_program.specs.Inner.Stands.{parts_of}
use Rattle.s3_program.specs.Inner.Tables.{meaning_at, item_in}
use Rattle.s3_program.specs.Tables.{or_undefined}
use Rattle.s3_program.specs.FileEntries.{file_entry}
use Rattle.s3_program.specs.Inner.Valid.{meant_output, meant}
use Rattle.s3_program.proofs.SlotLemmas.{Kept, kept}
use Rattle.s3_operations.specs.Inner.Fits.{tables}
use Rattle.s3_operations.proofs.ValueLemmas.{all_at}
use Rattle.s3_output.specs.Inner.Lines.{IsStart, length_of}

some_same : {X : Type 0} (x y : X) → Some x ≡ Some y → x ≡ y
some_same x y h = ap (λ o. unwrap_or o x) h

at_most : (m n : ℕ) → nat_le m n ≡ true → m ≤ n
at_most m n h = grind (arith, nat_tests, h)

-- ---- the length of a record
length_at : (p : Program) → ℕ → Option ℕ
length_at p file = option_map (λ (f : FileLine). f.record_length) (slice_get p.files.items file)

pub length_few : (p : Program) (start : OutputStart) (size : ℕ) → length_of p start ≡ Some size → size ≤ 1024
unfolding are_in_range
length_few p start size is = step (slice_get p.files.items start.file) refl is
  where
    bounds : (device : Device) (n : ℕ) → is_between 1 (longest_record device) n ≡ true → n ≤ 1024
    bounds CardReader n h = let e = at_most n 96 (and_parts (nat_le 1 n) (nat_le n 96) h).1 in omega (arith, e)
    bounds Printer n h = let e = at_most n 132 (and_parts (nat_le 1 n) (nat_le n 132) h).1 in omega (arith, e)
    bounds Disk n h = at_most n 1024 (and_parts (nat_le 1 n) (nat_le n 1024) h).1

    step : (o : Option FileLine) → slice_get p.files.items start.file ≡ o → option_map (λ (f : FileLine). f.record_length) o ≡ Some size → size ≤ 1024
    step None at h = cc
    step (Some file) at h =
        let k : Kept (parts_of p) = kept (parts_of p) p.valid in
        let ranged : file_in_range file ≡ true = all_at file_in_range p.files.items start.file file (and_parts _ _ (and_parts _ _ (and_parts _ _ k.ranged).0).0).0 at in
        let all1 = and_parts _ _ ranged in
        let all2 = and_parts _ _ all1.0 in
        let all3 = and_parts _ _ all2.0 in
        let all4 = and_parts _ _ all3.0 in
        let all5 = and_parts _ _ all4.0 in
        subst (λ n. n ≤ 1024) (some_same file.record_length size h) (bounds file.device file.record_length (and_parts _ _ all5.0).1)

-- ---- the start of a line
file_meant : (p : Program) (k : ℕ) → record_length (meaning_at (tables p) (slot.File k)) ≡ length_at p k
unfolding length_at
file_meant p k =
    ap (λ (o : Option _). record_length (or_undefined (λ (x : FileLine). a.File x) (option_map (λ entry. entry.1) o))) (slice_get-map file_entry p.files.items k) ∙ by (slice_get p.files.items k)
  where
    by : (o : Option FileLine) → record_length (or_undefined (λ (x : FileLine). a.File x) (option_map (λ entry. entry.1) (option_map file_entry o))) ≡ option_map (λ (f : FileLine). f.record_length) o
    by None = refl
    by (Some file) = refl

length_behind : (p : Program) (last : ℕ) (card : OutputCard Reference) (size : Option ℕ) → size ≡ length_at p last → entry_passes (is_of kind.File) (map_card (meaning_at (tables p)) card).file ≡ true
    → output_length_behind size (meant_output (tables p) (LineCard card)) ≡ length_at p (output_slot last card.file)
length_behind p last card size same kinds = by card.file refl kinds
  where
    no_field : (o : Option (Name × Shape)) → is_of kind.File (or_undefined (λ (entry : Name × Shape). a.Field (record { name = entry.0; meaning = entry.1 })) o) ≡ true → ⊥
    no_field None h = true≢false (sym h)
    no_field (Some x) h = true≢false (sym h)

    no_tag : (o : Option TagPlace) → is_of kind.File (or_undefined (λ (x : TagPlace). a.Tag x) o) ≡ true → ⊥
    no_tag None h = true≢false (sym h)
    no_tag (Some x) h = true≢false (sym h)

    no_subroutine : (o : Option SubroutinePlace) → is_of kind.File (or_undefined (λ (x : SubroutinePlace). a.Subroutine x) o) ≡ true → ⊥
    no_subroutine None h = true≢false (sym h)
    no_subroutine (Some x) h = true≢false (sym h)

    by : (file : Option Reference) → card.file ≡ file → entry_passes (is_of kind.File) (option_map (meaning_at (tables p)) file) ≡ true → output_length_behind size (meant_output (tables p) (LineCard card)) ≡ length_at p (output_slot last card.file)
    by None is h = rw is same
    by (Some (slot.File k)) is h = rw is (file_meant p k)
    by (Some (slot.Field k)) is h = absurd (no_field (slice_get (tables p).fields k) h)
    by (Some (slot.Tag k)) is h = absurd (no_tag (item_in (tables p).tags k) h)
    by (Some (slot.Subroutine k)) is h = absurd (no_subroutine (item_in (tables p).subroutines k) h)

-- a line among these: its card, the cards after it, and the record that its fields lie in
record StartsIn (p : Program) (place : ℕ) (lines : List (OutputLine Reference)) (start : OutputStart) : Type 0 where
  skip : ℕ
  card : OutputCard Reference
  cards : List (OutputLine Reference)
  place_is : start.place ≡ place + skip
  there : drop skip lines ≡ LineCard card ∷ cards
  kind_is : card.kind ≡ start.kind
  within : outputs_within (length_at p start.file) (map (meant_output (tables p)) cards) ≡ true

one_further : (p : Program) (place : ℕ) (line : OutputLine Reference) (lines : List (OutputLine Reference)) (start : OutputStart) → StartsIn p (place + 1) lines start → StartsIn p place (line ∷ lines) start
one_further p place line lines start s =
    record { skip = suc s.skip; card = s.card; cards = s.cards; place_is = s.place_is ∙ sum place s.skip; there = s.there; kind_is = s.kind_is; within = s.within }
  where
    sum : (m n : ℕ) → m + 1 + n ≡ m + suc n
    sum m n = omega arith

starts_in : (p : Program) (last place number : ℕ) (size : Option ℕ) (lines : List (OutputLine Reference)) (start : OutputStart) → size ≡ length_at p last
    → list_all (output_passes is_of) (map (meant_output (tables p)) lines) ≡ true → outputs_within size (map (meant_output (tables p)) lines) ≡ true
    → slice_get (output_starts_from last place lines) number ≡ Some start → StartsIn p place lines start
unfolding output_starts_from outputs_within
starts_in p last place number size [] start same kinds within there = cc
starts_in p last place zero size (LineCard card ∷ lines) start same kinds within there =
    let made : OutputStart = record { file = output_slot last card.file; kind = card.kind; place = place } in
    let is : made ≡ start = some_same made start there in
    let sizes : output_length_behind size (meant_output (tables p) (LineCard card)) ≡ length_at p (output_slot last card.file) = length_behind p last card size same (and_parts _ _ kinds).0 in
    let e : place ≡ place + 0 = omega arith in
    subst (λ (s : OutputStart). StartsIn p place (LineCard card ∷ lines) s) is
    (record {
      skip = 0;
      card = card;
      cards = lines;
      place_is = e;
      there = refl;
      kind_is = refl;
      within = ap (λ o. outputs_within o (map (meant_output (tables p)) lines)) (sym sizes) ∙ within;
    })
starts_in p last place (suc number) size (LineCard card ∷ lines) start same kinds within there =
    one_further p place (LineCard card) lines start
    (starts_in p (output_slot last card.file) (place + 1) number (output_length_behind size (meant_output (tables p) (LineCard card))) lines start (length_behind p last card size same (and_parts _ _ kinds).0)
    (and_parts _ _ kinds).1 within there)
starts_in p last place number size (AndCard conditions ∷ lines) start same kinds within there =
    one_further p place (AndCard conditions) lines start (starts_in p last (place + 1) number size lines start same kinds within there)
starts_in p last place number size (OrCard conditions ∷ lines) start same kinds within there =
    one_further p place (OrCard conditions) lines start (starts_in p last (place + 1) number size lines start same kinds within there)
starts_in p last place number size (FieldCard field ∷ lines) start same kinds within there =
    one_further p place (FieldCard field) lines start (starts_in p last (place + 1) number size lines start same (and_parts _ _ kinds).1 (and_parts _ _ within).1 there)

none_past : {X : Type 0} (xs : List X) → slice_get xs (length xs) ≡ None
none_past [] = refl
none_past (x ∷ xs) = none_past xs

tail_of : {X : Type 0} (n : ℕ) (xs ys : List X) (x : X) → drop n xs ≡ x ∷ ys → drop (n + 1) xs ≡ ys
tail_of zero [] ys x there = cc
tail_of zero (z ∷ xs) ys x there = ap (λ zs. drop 1 zs) there
tail_of (suc n) [] ys x there = cc
tail_of (suc n) (z ∷ xs) ys x there = let e : suc n + 1 ≡ suc (n + 1) = omega arith in ap (λ k. drop k (z ∷ xs)) e ∙ tail_of n xs ys x there

pub record StartsAt (p : Program) (start : OutputStart) : Type 0 where
  pub card : OutputCard Reference
  pub there : drop start.place p.outputs.items ≡ LineCard card ∷ drop (start.place + 1) p.outputs.items
  pub kind_is : card.kind ≡ start.kind
  pub within : outputs_within (length_of p start) (map (meant_output (tables p)) (drop (start.place + 1) p.outputs.items)) ≡ true

pub starts_at : (p : Program) (start : OutputStart) → IsStart p start → StartsAt p start
unfolding are_of_kinds are_within length_at
starts_at p start is =
    let k : Kept (parts_of p) = kept (parts_of p) p.valid in
    let s : StartsIn p 0 p.outputs.items start =
    starts_in p (length p.files.items) 0 is.number None p.outputs.items start (sym (ap (option_map (λ (f : FileLine). f.record_length)) (none_past p.files.items)))
    (and_parts _ (list_all (output_passes is_of) (meant (parts_of p)).outputs) k.kinds).1
    (and_parts (inputs_within None (meant (parts_of p)).inputs) (outputs_within None (meant (parts_of p)).outputs) k.within).1 is.there in
    let e : 0 + s.skip ≡ s.skip = omega arith in
    let at : drop start.place p.outputs.items ≡ LineCard s.card ∷ s.cards = ap (λ n. drop n p.outputs.items) (s.place_is ∙ e) ∙ s.there in
    let behind : drop (start.place + 1) p.outputs.items ≡ s.cards = tail_of start.place p.outputs.items s.cards (LineCard s.card) at in
    record {
      card = s.card;
      there = at ∙ ap (λ cs. LineCard s.card ∷ cs) (sym behind);
      kind_is = s.kind_is;
      within = ap (λ cs. outputs_within (length_of p start) (map (meant_output (tables p)) cs)) behind ∙ s.within;
    }

pub start_within : (p : Program) (start : OutputStart) → IsStart p start → start.place < length p.outputs.items
start_within p start is = there start.place p.outputs.items (StartsAt.there (starts_at p start is))
  where
    there : {X : Type 0} {x : X} {ys : List X} (n : ℕ) (xs : List X) → drop n xs ≡ x ∷ ys → n < length xs
    there zero [] h = cc
    there zero (z ∷ xs) h = omega arith
    there (suc n) [] h = cc
    there (suc n) (z ∷ xs) h = let e = there n xs h in omega (arith, e)
