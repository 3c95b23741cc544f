-- Facts about the files of a valid program: each has a use in the table of files, and allows the lines written to it.
use Rattle.std.proofs.Common.{◌≡◌, ℕ, zero, suc, ◌+◌, ◌<◌, arith, Bool, true, false, not, ◌&&◌, ◌||◌, if◌then◌else◌, List, [], ◌∷◌, length, map, drop, get_or, Option, Some, None, inl, inr, refl, sym, ◌∙◌, ap, subst, true≢false}
use Rattle.std.specs.Prelude.{slice_get, is_some, option_map}
use Rattle.std.specs.List.{list_any, list_all}
use Rattle.std.specs.Option.{option_or}
use Rattle.std.proofs.lemmas.Bool.{and_parts, cases_Bool}
use Rattle.std.proofs.lemmas.List.{length-map}
use Rattle.std.proofs.lemmas.Option.{slice_get-map, slice_get_within}
use Rattle.s3_lines.specs.Files.{is_chained, is_by_cycle, is_input_use, is_printer as is_print_device, is_only_read, is_card_reader, is_printer}
use Rattle.s3_cards.specs.declared.name.Name.{Name}
use Rattle.s3_lines.specs.declared.sheet.Designation.{Designation}
use Rattle.s3_lines.specs.declared.sheet.Designation.TheVariants.{Primary, Secondary, Chained}
use Rattle.s3_lines.specs.declared.sheet.Device.{Device}
use Rattle.s3_lines.specs.declared.sheet.Device.TheVariants.{CardReader, Printer, Disk}
use Rattle.s3_lines.specs.declared.sheet.FileLine.{FileLine}
use Rattle.s3_lines.specs.declared.sheet.FileUse.{FileUse}
use Rattle.s3_lines.specs.declared.sheet.FileUse.TheVariants.{Input, Output as OutputUse, Update}
use Rattle.s3_lines.specs.declared.sheet.OutputCard.{OutputCard}
use Rattle.s3_lines.specs.declared.sheet.OutputLine.{OutputLine}
use Rattle.s3_lines.specs.declared.sheet.OutputLine.TheVariants.{Line as LineCard, And as AndCard, Or as OrCard, Field as FieldCard}
use Rattle.s3_lines.specs.declared.sheet.Shape.{Shape}
use Rattle.s3_meaning.specs.OutputLines.{Output}
use Rattle.s3_meaning.specs.Source.{is_input}
use Rattle.s3_program.specs.declared.program.Kind.TheVariants as kind
use Rattle.s3_program.specs.declared.program.Meaning.{Meaning}
use Rattle.s3_program.specs.declared.program.Meaning.TheVariants as a
use Rattle.s3_program.specs.declared.program.Program.{Program}
use Rattle.s3_program.specs.declared.program.Reference.{Reference}
use Rattle.s3_program.specs.declared.program.Reference.TheVariants as slot
use Rattle.s3_program.specs.declared.standing.FileStanding.{FileStanding}
use Rattle.s3_program.specs.declared.standing.OutputStanding.{OutputStanding}
use Rattle.s3_program.specs.declared.starts.OutputStart.{OutputStart}
use Rattle.s3_program.specs.Inner.Conditions.{is_clear, files_clear, outputs_clear, are_clear}
use Rattle.s3_program.specs.Conditions.{file_holds, output_holds}
use Rattle.s3_program.specs.FileTable.{is_card_file, is_print_file, is_in_table, is_in_table_on, is_addition_allowed, allows_output, has_spacing}
use Rattle.s3_program.specs.Lines.{map_card}
use Rattle.s3_program.specs.Inner.Meant.{is_of, entry_passes, output_passes, are_of_kinds}
use Rattle.s3_program.specs.Standings.{first_file, behind_file, first_output, behind_output}
use Rattle.s3_program.specs.Inner.Starts.{output_slot, output_starts_from}
use Rattle.s3_program.specs.Inner.Started.{output_on}
use Rattle.s3_program.specs.Inner.Stands.{parts_of}
use Rattle.s3_program.specs.Inner.Tables.{item_in, meaning_at}
use Rattle.s3_program.specs.Tables.{or_undefined}
use Rattle.s3_program.specs.Uses.{file_misused, refuses_line, output_misused}
use Rattle.s3_program.specs.FileEntries.{file_entry}
use Rattle.s3_program.specs.Inner.Valid.{meant_output, meant}
use Rattle.s3_program.proofs.SlotLemmas.{Kept, kept}
use Rattle.s3_operations.specs.Inner.Fits.{tables}
use Rattle.s3_operations.proofs.FitLemmas.{rest_not, some_same}
use Rattle.s3_program.proofs.TypeLemmas.{no_file}
use Rattle.s3_output.specs.Inner.Lines.{IsLineAt, IsStart}
use Rattle.s3_match.specs.declared.heads.InputFile.{InputFile}
use Rattle.s3_match.specs.declared.reading.Reading.{Reading}
use Rattle.s3_match.specs.Inner.Heads.{file_at, input_of}
use Rattle.s3_match.specs.Inner.Reading.{IsReading, input_at, slots_of}
use Rattle.s3_match.proofs.ReadingLemmas.{slot_there}
use Rattle.s3_match.proofs.SlotLemmas.{slot_kept}
use Rattle.s3_cycle.specs.declared.progress.Progress.{Progress}
use Rattle.s3_cycle.specs.Inner.Rest.{inputs_in}

-- ---- the table of files
-- the last condition of the list, number 12, doesn't hold
no_misuse : (holds : ℕ → Bool) → is_clear holds ≡ true → holds 12 ≡ false
no_misuse holds clear =
    only (holds 12)
    (rest_not (holds 11) (list_any holds (12 ∷ [])) (rest_not (holds 10) (list_any holds (11 ∷ 12 ∷ [])) (rest_not (holds 9) (list_any holds (10 ∷ 11 ∷ 12 ∷ []))
    (rest_not (holds 8) (list_any holds (9 ∷ 10 ∷ 11 ∷ 12 ∷ [])) (rest_not (holds 7) (list_any holds (8 ∷ 9 ∷ 10 ∷ 11 ∷ 12 ∷ []))
    (rest_not (holds 6) (list_any holds (7 ∷ 8 ∷ 9 ∷ 10 ∷ 11 ∷ 12 ∷ [])) (rest_not (holds 5) (list_any holds (6 ∷ 7 ∷ 8 ∷ 9 ∷ 10 ∷ 11 ∷ 12 ∷ [])) clear)))))))
  where
    only : (b : Bool) → not (b || false) ≡ true → b ≡ false
    only true h = sym h
    only false h = refl

in_table : (at : FileStanding) (file : FileLine) → file_misused at file ≡ false → is_in_table file ≡ true
in_table at file h = elim (cases_Bool (is_in_table file)) [
  | inl is ↦ is
  | inr off ↦ absurd (true≢false (sym (ap (λ (b : Bool). not b || (is_card_file file && at.has_card_file) || (is_print_file file && at.has_print_file)) off) ∙ h))
]

each_tabled : (first : Name → Option ℕ) (at : FileStanding) (files : List FileLine) (k : ℕ) (file : FileLine) → files_clear first at files ≡ true → slice_get files k ≡ Some file → is_in_table file ≡ true
each_tabled first at [] k file clear there = cc
each_tabled first at (f ∷ fs) zero file clear there = ap is_in_table (sym (some_same f file there)) ∙ in_table at f (no_misuse (file_holds first at f) (and_parts _ _ clear).0)
each_tabled first at (f ∷ fs) (suc k) file clear there = each_tabled first (behind_file at f) fs k file (and_parts _ _ clear).1 there

pub file_tabled : (p : Program) (k : ℕ) (file : FileLine) → slice_get p.files.items k ≡ Some file → is_in_table file ≡ true
unfolding are_clear
file_tabled p k file there =
    let keeps : Kept (parts_of p) = kept (parts_of p) p.valid in
    each_tabled _ first_file p.files.items k file (and_parts _ _ (and_parts _ _ (and_parts _ _ (and_parts _ _ keeps.clear).0).0).0).1 there

-- ---- the lines that a file allows
-- the file that the earlier lines name
abbrev IsFileOf : Program → (last : ℕ) → Option Meaning → Type 0
IsFileOf p last before = (file : FileLine) → slice_get p.files.items last ≡ Some file → before ≡ Some (a.File file)

file_behind : (p : Program) (last : ℕ) (before : Option Meaning) (card : OutputCard Reference) → IsFileOf p last before → entry_passes (is_of kind.File) (map_card (meaning_at (tables p)) card).file ≡ true
    → IsFileOf p (output_slot last card.file) (option_or (map_card (meaning_at (tables p)) card).file before)
file_behind p last before card same of_file = by card.file of_file
  where
    item : (k : ℕ) (file : FileLine) → slice_get p.files.items k ≡ Some file → item_in (tables p).files k ≡ Some file
    item k file there = ap (option_map (λ (entry : Name × FileLine). entry.1)) (slice_get-map file_entry p.files.items k ∙ ap (option_map file_entry) there)

    by : (entry : Option Reference) → entry_passes (is_of kind.File) (option_map (meaning_at (tables p)) entry) ≡ true
        → IsFileOf p (output_slot last entry) (option_or (option_map (meaning_at (tables p)) entry) before)
    by None of_file = same
    by (Some (slot.File k)) of_file = λ file there. ap (λ (o : Option FileLine). Some (or_undefined (λ (x : FileLine). a.File x) o)) (item k file there)
    by (Some (slot.Field k)) of_file = absurd (no_file (λ (entry : Name × Shape). a.Field (record { name = entry.0; meaning = entry.1 })) (λ entry. refl) (slice_get (tables p).fields k) of_file)
    by (Some (slot.Tag k)) of_file = absurd (no_file (λ x. a.Tag x) (λ x. refl) (item_in (tables p).tags k) of_file)
    by (Some (slot.Subroutine k)) of_file = absurd (no_file (λ x. a.Subroutine x) (λ x. refl) (item_in (tables p).subroutines k) of_file)

taken : (card : OutputCard Meaning) (at : OutputStanding) (file : FileLine) → option_or card.file at.file ≡ Some (a.File file) → output_misused at (LineCard card) ≡ false → allows_output file card.is_addition ≡ true
taken card at file is h = elim (cases_Bool (allows_output file card.is_addition)) [
  | inl allows ↦ allows
  | inr refuses ↦
      absurd (true≢false (sym (ap (λ (b : Bool). not b || (has_spacing card.spacing && not (is_print_device file.device))) refuses) ∙ (sym (ap (refuses_line card) is) ∙ h)))
]

-- a line among these: its card, which its file allows
record IsTakenIn (p : Program) (place : ℕ) (lines : List (OutputLine Reference)) (start : OutputStart) : Type 0 where
  skip : ℕ
  card : OutputCard Reference
  cards : List (OutputLine Reference)
  place_is : start.place ≡ place + skip
  there : drop skip lines ≡ LineCard card ∷ cards
  takes : (file : FileLine) → slice_get p.files.items start.file ≡ Some file → allows_output file card.is_addition ≡ true

one_further : (p : Program) (place : ℕ) (line : OutputLine Reference) (lines : List (OutputLine Reference)) (start : OutputStart) → IsTakenIn p (place + 1) lines start → IsTakenIn p place (line ∷ lines) start
one_further p place line lines start t =
    record { skip = suc t.skip; card = t.card; cards = t.cards; place_is = t.place_is ∙ sum place t.skip; there = t.there; takes = t.takes }
  where
    sum : (m n : ℕ) → m + 1 + n ≡ m + suc n
    sum m n = omega arith

taken_in : (p : Program) (last place number : ℕ) (at : OutputStanding) (lines : List (OutputLine Reference)) (start : OutputStart) → IsFileOf p last at.file
    → list_all (output_passes is_of) (map (meant_output (tables p)) lines) ≡ true → outputs_clear at (map (meant_output (tables p)) lines) ≡ true
    → slice_get (output_starts_from last place lines) number ≡ Some start → IsTakenIn p place lines start
unfolding output_starts_from
taken_in p last place number at [] start same kinds clear there = cc
taken_in p last place zero at (LineCard card ∷ lines) start same kinds clear there =
    let made : OutputStart = record { file = output_slot last card.file; kind = card.kind; place = place } in
    let is : made ≡ start = some_same made start there in
    let e : place ≡ place + 0 = omega arith in
    subst (λ (s : OutputStart). IsTakenIn p place (LineCard card ∷ lines) s) is
    (record {
      skip = 0;
      card = card;
      cards = lines;
      place_is = e;
      there = refl;
      takes = λ file listed.
          taken (map_card (meaning_at (tables p)) card) at file (file_behind p last at.file card same (and_parts _ _ kinds).0 file listed)
          (no_misuse (output_holds at (meant_output (tables p) (LineCard card))) (and_parts _ _ clear).0);
    })
taken_in p last place (suc number) at (LineCard card ∷ lines) start same kinds clear there =
    one_further p place (LineCard card) lines start
    (taken_in p (output_slot last card.file) (place + 1) number (behind_output at (meant_output (tables p) (LineCard card))) lines start (file_behind p last at.file card same (and_parts _ _ kinds).0)
    (and_parts _ _ kinds).1 (and_parts _ _ clear).1 there)
taken_in p last place number at (AndCard conditions ∷ lines) start same kinds clear there =
    one_further p place (AndCard conditions) lines start (taken_in p last (place + 1) number at lines start same kinds (and_parts _ _ clear).1 there)
taken_in p last place number at (OrCard conditions ∷ lines) start same kinds clear there =
    one_further p place (OrCard conditions) lines start (taken_in p last (place + 1) number at lines start same kinds (and_parts _ _ clear).1 there)
taken_in p last place number at (FieldCard field ∷ lines) start same kinds clear there =
    one_further p place (FieldCard field) lines start
    (taken_in p last (place + 1) number (behind_output at (meant_output (tables p) (FieldCard field))) lines start same (and_parts _ _ kinds).1 (and_parts _ _ clear).1 there)

-- the file of a line allows the line
pub line_taken : (p : Program) (start : OutputStart) (line : Output) (file : FileLine) → IsStart p start → IsLineAt p start line → slice_get p.files.items start.file ≡ Some file → allows_output file line.is_addition ≡ true
unfolding are_of_kinds are_clear
line_taken p start line file is line_is there =
    let keeps : Kept (parts_of p) = kept (parts_of p) p.valid in
    let kinds : list_all (output_passes is_of) (meant (parts_of p)).outputs ≡ true = (and_parts _ (list_all (output_passes is_of) (meant (parts_of p)).outputs) keeps.kinds).1 in
    let clear : outputs_clear first_output (meant (parts_of p)).outputs ≡ true = (and_parts _ (outputs_clear first_output (meant (parts_of p)).outputs) keeps.clear).1 in
    let t : IsTakenIn p 0 p.outputs.items start = taken_in p (length p.files.items) 0 is.number first_output p.outputs.items start no_first kinds clear is.there in
    let at : drop start.place p.outputs.items ≡ LineCard t.card ∷ t.cards = ap (λ n. drop n p.outputs.items) (t.place_is ∙ from_none t.skip) ∙ t.there in
    ap (λ (o : Option Output). allows_output file (is_added o)) (sym line_is ∙ ap (output_on (tables p) start) at) ∙ t.takes file there
  where
    from_none : (n : ℕ) → 0 + n ≡ n
    from_none n = omega arith

    no_first : IsFileOf p (length p.files.items) None
    no_first first there = let within = slice_get_within p.files.items (length p.files.items) first there in absurd (omega (arith, within))

    is_added : Option Output → Bool
    is_added (Some l) = l.is_addition
    is_added None = false

-- ---- files on disk
no_reader_prints : (d : Option Designation) → not (is_some d) ≡ true → is_chained d ≡ true → ⊥
no_reader_prints None none is = true≢false (sym is)
no_reader_prints (Some d) none is = true≢false (sym none)

not_both : (d : Option Designation) → is_by_cycle d ≡ true → is_chained d ≡ true → ⊥
not_both None cycle is = true≢false (sym cycle)
not_both (Some Primary) cycle is = true≢false (sym is)
not_both (Some Secondary) cycle is = true≢false (sym is)
not_both (Some Chained) cycle is = true≢false (sym cycle)

unread : (file : FileLine) (d : Option Designation) → not (is_some d) ≡ true → is_input (record file { designation = d }) ≡ true → ⊥
unread file None none is = true≢false (sym is)
unread file (Some d) none is = true≢false (sym none)

-- a file that the cycle reads is on disk, unless it has cards
pub read_on_disk : (file : FileLine) → is_in_table file ≡ true → is_input file ≡ true → is_card_reader file.device ≡ false → file.device ≡ Disk
read_on_disk file tabled selected no_cards = by file.device refl
  where
    by : (d : Device) → file.device ≡ d → file.device ≡ Disk
    by Disk is = is
    by CardReader is = absurd (true≢false (sym (ap is_card_reader is) ∙ no_cards))
    by Printer is = absurd (unread file file.designation (and_parts _ _ (and_parts _ _ (ap (λ d. is_in_table_on d file) (sym is) ∙ tabled)).0).1 selected)

-- a file that CHAIN reads is on disk
pub chained_on_disk : (file : FileLine) → is_in_table file ≡ true → is_chained file.designation ≡ true → file.device ≡ Disk
chained_on_disk file tabled chained = by file.device refl
  where
    by : (d : Device) → file.device ≡ d → file.device ≡ Disk
    by Disk is = is
    by CardReader is = absurd (not_both file.designation (and_parts _ _ (and_parts _ _ (ap (λ d. is_in_table_on d file) (sym is) ∙ tabled)).0).1 chained)
    by Printer is = absurd (no_reader_prints file.designation (and_parts _ _ (and_parts _ _ (ap (λ d. is_in_table_on d file) (sym is) ∙ tabled)).0).1 chained)

-- a file to which lines are written is on disk, unless it is printed
pub record IsPutOnDisk (file : FileLine) : Type 0 where
  pub on_disk : file.device ≡ Disk
  pub put_out : is_only_read file ≡ false

pub put_on_disk : (file : FileLine) (is_addition : Bool) → is_in_table file ≡ true → allows_output file is_addition ≡ true → is_printer file.device ≡ false → IsPutOnDisk file
put_on_disk file is_addition tabled allows no_printer = record { on_disk = by file.device refl; put_out = written }
  where
    added : (usage : FileUse) (has_additions : Bool) → is_addition_allowed usage has_additions is_addition ≡ true → (is_input_use usage && not has_additions) ≡ false
    added Input true h = refl
    added Input false h = absurd (true≢false (sym h))
    added OutputUse has_additions h = refl
    added Update has_additions h = refl

    written : is_only_read file ≡ false
    written =
        added file.usage file.has_additions
        (sym (ap (λ (b : Bool). if b then is_addition_allowed file.usage file.has_additions is_addition else not (is_input_use file.usage)) tabled) ∙ allows)

    by : (d : Device) → file.device ≡ d → file.device ≡ Disk
    by Disk is = is
    by Printer is = absurd (true≢false (sym (ap is_printer is) ∙ no_printer))
    by CardReader is =
        let cards = and_parts _ _ (ap (λ d. is_in_table_on d file) (sym is) ∙ tabled) in
        let input : is_input_use file.usage ≡ true = (and_parts _ _ cards.0).0 in
        let no_additions : not file.has_additions ≡ true = (and_parts _ _ cards.1).1 in
        let both : (is_input_use file.usage && not file.has_additions) ≡ true = λ i. input i && no_additions i in
        absurd (true≢false (sym both ∙ written))

-- ---- the files that the cycle reads
input_selected : (p : Program) (reading : Reading) (k : ℕ) (x : InputFile) → IsReading p reading → k < length reading.files.items → x ≡ get_or reading.files.items k x → is_input (file_at p x.file) ≡ true
input_selected p reading k x sound within there =
    subst (λ (n : ℕ). is_input (file_at p n) ≡ true) (slot_there reading.files.items k x within ∙ ap (λ (input : InputFile). input.file) (sym there))
    (slot_kept p (slots_of reading.files.items) k sound.slots (omega (arith, length-map reading.files.items (λ (input : InputFile). input.file), within))).1

each_selected : (p : Program) (files : List InputFile) (k : ℕ) → k < length files → ((j : ℕ) (x : InputFile) → j < length files → x ≡ get_or files j x → is_input (file_at p x.file) ≡ true)
    → is_input (input_at (map (input_of p) files) k).file ≡ true
each_selected p [] k within all = absurd (omega (arith, within))
each_selected p (x ∷ xs) zero within all = all 0 x (omega arith) refl
each_selected p (x ∷ xs) (suc k) within all = each_selected p xs k (omega (arith, within)) (λ j y inside there. all (suc j) y (omega (arith, inside)) there)

pub head_selected : (p : Program) (progress : Progress) (place : ℕ) → IsReading p progress.reading → place < length progress.reading.files.items → is_input (input_at (inputs_in p progress) place).file ≡ true
head_selected p progress place sound within = each_selected p progress.reading.files.items place within (λ j x inside there. input_selected p progress.reading j x sound inside there)
