-- What a run asks of files: a source whose lines are right names none but its own, and of those only the ones that its job uses.
use Rattle.std.proofs.Common.{◌≡◌, ℕ, zero, suc, ◌==◌, Bool, true, false, not, ◌&&◌, List, [], ◌∷◌, length, if◌then◌else◌, ℤ, unsigned_abs, refl, sym, ◌∙◌, ap, subst}
use Rattle.std.specs.Prelude.{Option, Some, None, filter, filter_map, find, is_some, replicate}
use Rattle.std.specs.List.{AllByRecursion as Each}
use Rattle.std.specs.Option.{option_or}
use Rattle.s3_lines.specs.Files.{is_disk, is_card_reader, is_printer}
use Rattle.s3_cards.specs.declared.name.Name.{Name}
use Rattle.s3_cards.specs.Names.{same_name}
use Rattle.s3_cards.proofs.NameLemmas.{same_name-equal}
use Rattle.s3_lines.specs.declared.indicator.Indicator.{Indicator}
use Rattle.s3_lines.specs.declared.indicator.Indicator.TheVariants.{General, Level, LastRecord, Matching, Halt, FirstPage, Overflow, Switch}
use Rattle.s3_operator.specs.declared.halt_code.HaltCode.{HaltCode}
use Rattle.s3_operator.specs.declared.halt_code.HaltCode.TheVariants.{HaltIndicator, BadDigit, ZeroDivisor, NoRecordFound, UnidentifiedRecord, OutOfSequence}
use Rattle.s3_lines.specs.declared.sheet.FieldLine.{FieldLine}
use Rattle.s3_lines.specs.declared.sheet.FieldForm.{FieldForm}
use Rattle.s3_lines.specs.declared.sheet.FieldForm.TheVariants.{Alphanumeric, Zoned, Packed, PackedText}
use Rattle.s3_lines.specs.declared.sheet.FileLine.{FileLine}
use Rattle.s3_lines.specs.declared.sheet.OutputKind.{OutputKind}
use Rattle.s3_lines.specs.declared.sheet.Operation.{Operation}
use Rattle.s3_lines.specs.declared.sheet.Operation.TheVariants as op
use Rattle.s3_lines.specs.declared.sheet.CalculationLine.{CalculationLine}
use Rattle.s3_meaning.specs.Requests.{Request, Card, Read, Chain, Append, Add, Update, Print, Jump, Ask, End, Answer, Found, Nothing, Done, Refused, Reply}
use Rattle.s3_meaning.specs.RecordTypes.{RecordType}
use Rattle.s3_meaning.specs.Calculations.{Calculation, begins, ends, is_tag, name_in}
use Rattle.s3_meaning.specs.OutputLines.{Output}
use Rattle.s3_meaning.specs.Source.{Source, body, body_in, detail_calculations, file_named, is_input, is_updated, overflow_of, total_calculations, until_end}
use Rattle.s3_meaning.specs.Environment.{Environment, at_first, turn}
use Rattle.s3_meaning.specs.Selection.{Head, InputFile, Reading, Selected, Standing, Unread, Stands, Ended, has_met_end, head_key, in_sequence, is_matched, is_unread, key_of, least, lesser, primary_first, same_key, select, select_at_end, selectable, taken, type_of, vacated}
use Rattle.s3_meaning.specs.Runs.{Run, Rest, Anew, ask, ended, goes_to_totals, to_totals, replied, halted}
use Rattle.s3_meaning.specs.Moving.{counts, number_moved, field_moved, fields_moved}
use Rattle.s3_meaning.specs.Carriage.{after_print, to_print}
use Rattle.s3_meaning.specs.Output.{Composed, carriage, composed, disk_request, file_line_put, filled, is_exception, is_heading_or_detail, is_served, is_total_line, line_holds, line_put, lines_put, printed, stored_or_halted}
use Rattle.s3_meaning.specs.Calculating.{after_tag, calculated, calculation_holds, chained, chained_to, divided, first_indicator, forgotten, has_tag, not_found, number_in, on_chain, performed, sought_in}
use Rattle.s3_meaning.specs.Cycle.{Req, again, anew_within, cleared, counted_read, detail_time, file_read, files_read, first_reading, first_standing, halts_shown, has_overflowed, headed, headings, last_time, matched, on_read, one_cycle, overflow_lines, read_request, reading_time, record_time, renewed, selected_or_last, total_time, totals, typed, with_totals_due}
use Rattle.s3_opening.specs.Asked.{is_switched_on, is_used}
use Rattle.s3_time.proofs.Elements.{each_filtered, each_mapped, each_taken, each_joined, found_one}
use Rattle.s3_time.proofs.Switches.{AreSet, NoSwitch, SetsNone, set_carriage, set_changed, set_composed, set_entries, set_forgotten, set_not_performed, set_number, set_past_overflow, set_quotient, set_same, set_text, set_turn, set_without, set_zero_quotient}

-- ---- sources whose lines are right
-- a line sets no switch, and chains none but a disk file
pub record FitsLine (source : Source) (c : Calculation) : Type 0 where
  pub marks : Each NoSwitch c.line.indicators
  pub chains : (file : FileLine) → c.line.operation ≡ Some op.Chain → file_named source (name_in c.line.factor2) ≡ Some file → is_disk file.device ≡ true

-- an output line prints, or is for a disk file
abbrev pub PutsOut : Source → Output → Type 0
PutsOut source line = (file : FileLine) → file_named source line.file ≡ Some file → is_printer file.device ≡ false → is_disk file.device ≡ true

-- a file is the first of its name; one that the cycle reads has cards, or is on disk
pub record FitsFile (source : Source) (file : FileLine) : Type 0 where
  pub first : file_named source file.name ≡ Some file
  pub read : is_input file ≡ true → is_card_reader file.device ≡ false → is_disk file.device ≡ true

pub record IsRight (source : Source) : Type 0 where
  pub files : Each (FitsFile source) source.files
  pub overflow : NoSwitch (overflow_of source.files)
  pub types : Each SetsNone source.types
  pub calculations : Each (FitsLine source) source.calculations
  pub outputs : Each (PutsOut source) source.outputs

-- ---- requests
-- a request to a file is to one of these
abbrev pub NamesOnly : (Name → Type 0) → Request → Type 0
NamesOnly P (Read file size) = P file
NamesOnly P (Chain file size sought) = P file
NamesOnly P (Append file bytes) = P file
NamesOnly P (Add file bytes) = P file
NamesOnly P (Update file current changes) = P file
NamesOnly P Card = Unit {0}
NamesOnly P (Print page line text) = Unit {0}
NamesOnly P Jump = Unit {0}
NamesOnly P (Ask code) = Unit {0}
NamesOnly P (End at_once) = Unit {0}

-- from an environment with these switches
record Sound (P : Name → Type 0) (switches : ℕ) (go : Rest) : Type 0 where
  at : (e : Environment) (answers : List Answer) → AreSet switches e → NamesOnly P (go e answers)

-- a file has cards, or its requests may name it
abbrev MayRead : (Name → Type 0) → FileLine → Type 0
MayRead P file = is_card_reader file.device ≡ false → P file.name

abbrev MayGoOn : (Name → Type 0) → Standing → FileLine → Type 0
MayGoOn P Unread file = MayRead P file
MayGoOn P (Stands head) file = MayRead P file × SetsNone head.kind
MayGoOn P Ended file = Unit {0}

record Stays (P : Name → Type 0) (source : Source) (input : InputFile) : Type 0 where
  first : file_named source input.file.name ≡ Some input.file
  left : MayGoOn P input.standing input.file

record Chosen (P : Name → Type 0) (source : Source) (selected : Selected) : Type 0 where
  first : file_named source selected.file.name ≡ Some selected.file
  may : MayRead P selected.file
  kind : SetsNone selected.head.kind

record SoundAnew (P : Name → Type 0) (switches : ℕ) (source : Source) (anew : Anew) : Type 0 where
  jump : (section lines : List Calculation) (go : Rest) → Each (FitsLine source) section → Each (FitsLine source) lines → Sound P switches go → Sound P switches (anew.jump section lines go)
  read : (input : InputFile) (go : InputFile → Rest) → file_named source input.file.name ≡ Some input.file → MayRead P input.file
      → ((next : InputFile) → Stays P source next → Sound P switches (go next)) → Sound P switches (anew.read input go)
  last : Sound P switches anew.last
  cycle : (reading : Reading) → Each (Stays P source) reading.files → Sound P switches (anew.cycle reading)

-- ---- runs
choice : (P : Name → Type 0) (b : Bool) (x y : Rest) (e : Environment) (answers : List Answer) → NamesOnly P (x e answers) → NamesOnly P (y e answers) → NamesOnly P ((if b then x else y) e answers)
choice P true x y e answers one other = one
choice P false x y e answers one other = other

asked : (P : Name → Type 0) (request : Request) (go : Answer → Run) (answers : List Answer) → NamesOnly P request → ((answer : Answer) (later : List Answer) → NamesOnly P (go answer later)) → NamesOnly P (ask request go answers)
unfolding ask
asked P request go [] names later = names
asked P request go (answer ∷ answers) names later = later answer answers

ends_sound : (P : Name → Type 0) (switches : ℕ) (at_once : Bool) → Sound P switches (ended at_once)
unfolding ended
ends_sound P switches at_once = record { at = λ e answers set. tt }

-- a file whose condition holds is used, where the switches are as they were set
served_used : (switches : ℕ) (e : Environment) (file : FileLine) → AreSet switches e → is_served e file ≡ true → is_disk file.device ≡ true → is_used switches file ≡ true
served_used switches e file set served disk = by file.condition refl
  where
    whole : is_switched_on switches file.condition ≡ true → is_used switches file ≡ true
    whole on = ap (λ (b : Bool). b && is_switched_on switches file.condition) disk ∙ on

    by : (o : Option Indicator) → file.condition ≡ o → is_used switches file ≡ true
    by None is = whole (ap (is_switched_on switches) is)
    by (Some (Switch n)) is =
        let on : e.on (Switch n) ≡ true = subst (λ (o : Option Indicator). is_served e (record file { condition = o }) ≡ true) is served in
        whole (ap (is_switched_on switches) is ∙ sym (set.as_set n) ∙ on)
    by (Some (General n)) is = whole (ap (is_switched_on switches) is)
    by (Some (Level n)) is = whole (ap (is_switched_on switches) is)
    by (Some LastRecord) is = whole (ap (is_switched_on switches) is)
    by (Some Matching) is = whole (ap (is_switched_on switches) is)
    by (Some (Halt n)) is = whole (ap (is_switched_on switches) is)
    by (Some FirstPage) is = whole (ap (is_switched_on switches) is)
    by (Some (Overflow n)) is = whole (ap (is_switched_on switches) is)

module _ (P : Name → Type 0) (switches : ℕ) (source : Source) (right : IsRight source) (used : Each (λ (file : FileLine). is_used switches file ≡ true → P file.name) source.files) where
  -- the files of its lines
  may_name : (name : Name) (file : FileLine) (e : Environment) → file_named source name ≡ Some file → AreSet switches e → is_served e file ≡ true → is_disk file.device ≡ true → P file.name
  may_name name file e named set served disk =
      (found_one (λ (file : FileLine). is_used switches file ≡ true → P file.name) (λ (file : FileLine). same_name file.name name) source.files file used named).0
      (served_used switches e file set served disk)

  module _ (a : Anew) (anew : SoundAnew P switches source a) where
    -- ---- halts
    to_totals_sound : Sound P switches (to_totals a)
    unfolding to_totals ended
    to_totals_sound = record {
      at = λ e answers set. choice P (e.on LastRecord) (ended true) a.last _ answers tt (anew.last.at _ answers (record { as_set = λ n. set.as_set n }));
    }

    replied_sound : (go : Rest) (answer : Answer) → Sound P switches go → Sound P switches (replied a go answer)
    unfolding replied ended
    replied_sound go (Reply digit) sound = record {
      at = λ e answers set. choice P (digit == 0) go (if goes_to_totals digit then to_totals a else ended true) e answers (sound.at e answers set)
          (choice P (goes_to_totals digit) (to_totals a) (ended true) e answers (to_totals_sound.at e answers set) tt);
    }
    replied_sound go (Found bytes) sound = record { at = λ e answers set. tt }
    replied_sound go Nothing sound = record { at = λ e answers set. tt }
    replied_sound go Done sound = record { at = λ e answers set. tt }
    replied_sound go (Refused code) sound = record { at = λ e answers set. tt }

    halted_sound : (code : HaltCode) (go : Rest) → Sound P switches go → Sound P switches (halted a code go)
    unfolding halted
    halted_sound code go sound = record { at = λ e answers set. asked P _ _ answers tt (λ answer later. (replied_sound go answer sound).at e later set) }

    -- ---- fields moved
    number_moved_sound : (field : FieldLine Name) (bad : Bool) (value : ℤ) (go : Rest) → Each NoSwitch field.indicators → Sound P switches go → Sound P switches (number_moved a field bad value go)
    unfolding number_moved
    number_moved_sound field bad value go clear sound = record {
      at = λ e answers set. choice P bad _ _ e answers
          ((halted_sound BadDigit _ (record { at = λ e' bs set'. sound.at _ bs (set_number switches field value e' clear set') })).at e answers set)
          (sound.at _ answers (set_number switches field value e clear set));
    }

    field_moved_sound : (field : FieldLine Name) (form : FieldForm) (bytes : List ℕ) (go : Rest) → Each NoSwitch field.indicators → Sound P switches go → Sound P switches (field_moved a field form bytes go)
    unfolding field_moved
    field_moved_sound field Alphanumeric bytes go clear sound = record { at = λ e answers set. sound.at _ answers (set_text switches field bytes e clear set) }
    field_moved_sound field (Zoned decimals) bytes go clear sound = record { at = λ e answers set. (number_moved_sound field _ _ go clear sound).at e answers set }
    field_moved_sound field (Packed decimals) bytes go clear sound = record { at = λ e answers set. (number_moved_sound field _ _ go clear sound).at e answers set }
    field_moved_sound field PackedText bytes go clear sound = record { at = λ e answers set. sound.at _ answers (set_text switches field bytes e clear set) }

    fields_moved_sound : (fields : List (FieldLine Name)) (bytes : List ℕ) (go : Rest) → Each (λ (field : FieldLine Name). Each NoSwitch field.indicators) fields → Sound P switches go → Sound P switches (fields_moved a fields bytes go)
    unfolding fields_moved
    fields_moved_sound [] bytes go clear sound = record { at = λ e answers set. sound.at e answers set }
    fields_moved_sound (field ∷ fields) bytes go clear sound =
        let more : Sound P switches (fields_moved a fields bytes go) = fields_moved_sound fields bytes go clear.1 sound in
        record {
          at = λ e answers set. choice P (counts e field) _ _ e answers ((field_moved_sound field field.form _ _ clear.0 more).at e answers set) (more.at e answers set);
        }

    -- ---- output
    stored_or_halted_sound : (go : Rest) (answer : Answer) → Sound P switches go → Sound P switches (stored_or_halted a go answer)
    unfolding stored_or_halted
    stored_or_halted_sound go (Refused code) sound = record { at = λ e answers set. (halted_sound code go sound).at e answers set }
    stored_or_halted_sound go (Found bytes) sound = record { at = λ e answers set. sound.at e answers set }
    stored_or_halted_sound go Nothing sound = record { at = λ e answers set. sound.at e answers set }
    stored_or_halted_sound go Done sound = record { at = λ e answers set. sound.at e answers set }
    stored_or_halted_sound go (Reply digit) sound = record { at = λ e answers set. sound.at e answers set }

    printed_sound : (line : Output) (text : List ℕ) (go : Rest) → Sound P switches go → Sound P switches (printed source line text go)
    unfolding printed
    printed_sound line text go sound = record {
      at = λ e answers set. asked P _ _ answers tt
          (λ answer later. sound.at _ later (set_carriage switches source (after_print line.spacing (to_print line.spacing (carriage e))) e right.overflow set));
    }

    disk_named : (file : FileLine) (line : Output) (positions : List (Option ℕ)) (e : Environment) → P file.name → NamesOnly P (disk_request file line positions e)
    disk_named file line positions e named = by (is_updated file && not line.is_addition) (line.is_addition && is_some file.key)
      where
        by : (updates adds : Bool) → NamesOnly P (if updates then Update file.name (e.current file.name) positions else (if adds then Add file.name (filled positions) else Append file.name (filled positions)))
        by true adds = named
        by false true = named
        by false false = named

    file_line_put_sound : (line : Output) (file : FileLine) (go : Rest) (e : Environment) (answers : List Answer) → (is_printer file.device ≡ false → P file.name) → Sound P switches go → AreSet switches e
        → NamesOnly P (file_line_put source a line file go e answers)
    unfolding file_line_put
    file_line_put_sound line file go e answers named sound set =
        by (is_printer file.device) refl
      where
        c : Composed
        c = composed source line.fields (record { positions = replicate file.record_length None; after = e })

        after : AreSet switches c.after
        after = set_composed switches source line.fields (record { positions = replicate file.record_length None; after = e }) set

        by : (b : Bool) → is_printer file.device ≡ b
            → NamesOnly P ((if b then printed source line (filled c.positions) go else (λ e'. ask (disk_request file line c.positions e') (λ answer. stored_or_halted a go answer e'))) c.after answers)
        by true is = (printed_sound line (filled c.positions) go sound).at c.after answers after
        by false is = asked P _ _ answers (disk_named file line c.positions c.after (named is)) (λ answer later. (stored_or_halted_sound go answer sound).at c.after later after)

    line_put_sound : (line : Output) (o : Option FileLine) (go : Rest) → PutsOut source line → file_named source line.file ≡ o → Sound P switches go → Sound P switches (line_put source a line o go)
    unfolding line_put
    line_put_sound line None go puts named sound = record { at = λ e answers set. sound.at e answers set }
    line_put_sound line (Some file) go puts named sound = record { at = λ e answers set. by e answers set (is_served e file) refl }
      where
        by : (e : Environment) (answers : List Answer) → AreSet switches e → (b : Bool) → is_served e file ≡ b → NamesOnly P ((if b then file_line_put source a line file go else go) e answers)
        by e answers set true is = file_line_put_sound line file go e answers (λ prints. may_name line.file file e named set is (puts file named prints)) sound set
        by e answers set false is = sound.at e answers set

    lines_put_sound : (wanted : OutputKind → Bool) (at_overflow : Bool) (lines : List Output) (go : Rest) → Each (PutsOut source) lines → Sound P switches go → Sound P switches (lines_put source a wanted at_overflow lines go)
    unfolding lines_put
    lines_put_sound wanted at_overflow [] go puts sound = record { at = λ e answers set. sound.at e answers set }
    lines_put_sound wanted at_overflow (line ∷ lines) go puts sound =
        let more : Sound P switches (lines_put source a wanted at_overflow lines go) = lines_put_sound wanted at_overflow lines go puts.1 sound in
        record {
          at = λ e answers set. choice P (wanted line.kind && line_holds source at_overflow e line) _ _ e answers
              ((line_put_sound line (file_named source line.file) _ puts.0 refl more).at e answers set) (more.at e answers set);
        }

    -- ---- calculations
    divided_sound : (line : CalculationLine Name) (go : Rest) → Each NoSwitch line.indicators → Sound P switches go → Sound P switches (divided source a line go)
    unfolding divided
    divided_sound line go clear sound = record {
      at = λ e answers set. choice P (unsigned_abs ((number_in source e line.factor2).numerator) == 0) _ _ e answers
          ((halted_sound ZeroDivisor _ (record { at = λ e' bs set'. sound.at _ bs (set_zero_quotient switches source line e' clear set') })).at e answers set)
          (sound.at _ answers (set_quotient switches source line e clear set));
    }

    not_found_sound : (entry : Option Indicator) (go : Rest) → NoSwitch entry → Sound P switches go → Sound P switches (not_found a entry go)
    unfolding not_found
    not_found_sound (Some indicator) go clear sound = record { at = λ e answers set. sound.at _ answers (set_turn switches indicator true e clear set) }
    not_found_sound None go clear sound = record { at = λ e answers set. (halted_sound NoRecordFound go sound).at e answers set }

    chained_to_sound : (file : Name) (bytes : List ℕ) (o : Option RecordType) (go : Rest) → ((kind : RecordType) → o ≡ Some kind → SetsNone kind) → Sound P switches go → Sound P switches (chained_to a file bytes o go)
    unfolding chained_to
    chained_to_sound file bytes None go clear sound = record { at = λ e answers set. (halted_sound UnidentifiedRecord go sound).at e answers set }
    chained_to_sound file bytes (Some kind) go clear sound =
        let none : SetsNone kind = clear kind refl in record {
          at = λ e answers set. (fields_moved_sound kind.fields bytes go none.fields sound).at _ answers
              (set_same switches (turn kind.indicator true e) _ refl (set_turn switches kind.indicator true e none.itself set));
        }

    typed_none : (file : Name) (bytes : List ℕ) (kind : RecordType) → type_of source file bytes ≡ Some kind → SetsNone kind
    typed_none file bytes kind is = (found_one SetsNone _ source.types kind right.types is).0

    first_none : (indicators : List (Option Indicator)) → Each NoSwitch indicators → NoSwitch (first_indicator indicators)
    first_none [] clear = tt
    first_none (indicator ∷ indicators) clear = clear.0

    on_chain_sound : (line : CalculationLine Name) (file : Name) (go : Rest) (answer : Answer) → Each NoSwitch line.indicators → Sound P switches go → Sound P switches (on_chain source a line file go answer)
    unfolding on_chain
    on_chain_sound line file go (Found bytes) clear sound = record {
      at = λ e answers set. (chained_to_sound file bytes (type_of source file bytes) go (typed_none file bytes) sound).at _ answers
          (set_entries switches false (first_indicator line.indicators ∷ []) e (first_none line.indicators clear, tt) set);
    }
    on_chain_sound line file go Nothing clear sound = record { at = λ e answers set. (not_found_sound (first_indicator line.indicators) go (first_none line.indicators clear) sound).at e answers set }
    on_chain_sound line file go Done clear sound = record { at = λ e answers set. (not_found_sound (first_indicator line.indicators) go (first_none line.indicators clear) sound).at e answers set }
    on_chain_sound line file go (Refused code) clear sound =
        record { at = λ e answers set. (not_found_sound (first_indicator line.indicators) go (first_none line.indicators clear) sound).at e answers set }
    on_chain_sound line file go (Reply digit) clear sound =
        record { at = λ e answers set. (not_found_sound (first_indicator line.indicators) go (first_none line.indicators clear) sound).at e answers set }

    chained_sound : (line : CalculationLine Name) (name : Name) (o : Option FileLine) (go : Rest) → Each NoSwitch line.indicators → file_named source name ≡ o
        → ((file : FileLine) → o ≡ Some file → is_disk file.device ≡ true) → Sound P switches go → Sound P switches (chained source a line o go)
    unfolding chained
    chained_sound line name None go clear named disk sound = record { at = λ e answers set. sound.at e answers set }
    chained_sound line name (Some file) go clear named disk sound = record { at = λ e answers set. by e answers set (is_served e file) refl }
      where
        by : (e : Environment) (answers : List Answer) → AreSet switches e → (b : Bool) → is_served e file ≡ b
            → NamesOnly P ((if b then (λ e'. ask (Chain file.name file.record_length (sought_in source e line file)) (λ answer. on_chain source a line file.name go answer e')) else not_found a (first_indicator line.indicators) go)
            (forgotten source file.name e) answers)
        by e answers set true is =
            asked P _ _ answers (may_name name file e named set is (disk file refl))
            (λ answer later. (on_chain_sound line file.name go answer clear sound).at _ later (set_forgotten switches source file.name e right.types set))
        by e answers set false is =
            (not_found_sound (first_indicator line.indicators) go (first_none line.indicators clear) sound).at _ answers (set_forgotten switches source file.name e right.types set)

    -- ---- sections
    until_fits : (cs : List Calculation) → Each (FitsLine source) cs → Each (FitsLine source) (until_end cs)
    until_fits [] fits = tt
    until_fits (c ∷ cs) fits = by (ends c) (until_fits cs fits.1)
      where
        by : (b : Bool) → Each (FitsLine source) (until_end cs) → Each (FitsLine source) (if b then [] else c ∷ until_end cs)
        by true more = tt
        by false more = (fits.0, more)

    body_fits : (name : Name) (cs : List Calculation) → Each (FitsLine source) cs → Each (FitsLine source) (body_in name cs)
    body_fits name [] fits = tt
    body_fits name (c ∷ cs) fits = by (begins name c) (body_fits name cs fits.1)
      where
        by : (b : Bool) → Each (FitsLine source) (body_in name cs) → Each (FitsLine source) (if b then until_end cs else body_in name cs)
        by true more = until_fits cs fits.1
        by false more = more

    after_fits : (tag : Name) (cs : List Calculation) → Each (FitsLine source) cs → Each (FitsLine source) (after_tag tag cs)
    after_fits tag [] fits = tt
    after_fits tag (c ∷ cs) fits = by (is_tag tag c) (after_fits tag cs fits.1)
      where
        by : (b : Bool) → Each (FitsLine source) (after_tag tag cs) → Each (FitsLine source) (if b then cs else after_tag tag cs)
        by true more = fits.1
        by false more = more

    module _ (section : List Calculation) (whole : Each (FitsLine source) section) (go : Rest) (sound : Sound P switches go) where
      performed_sound : (lines : List Calculation) (below : Option Name → Rest) (c : Calculation) (operation : Option Operation) → c.line.operation ≡ operation → FitsLine source c
          → ((sought : Option Name) → Sound P switches (below sought)) → Sound P switches (performed source a section lines below go c.line operation)
      unfolding performed
      performed_sound lines below c (Some op.Divide) is fits later = record { at = λ e answers set. (divided_sound c.line (below None) fits.marks (later None)).at e answers set }
      performed_sound lines below c (Some op.GoTo) is fits later = record {
        at = λ e answers set. choice P (has_tag (name_in c.line.factor2) lines) _ _ e answers ((later (Some (name_in c.line.factor2))).at e answers set)
            (asked P _ _ answers tt (λ answer more. (anew.jump section (after_tag (name_in c.line.factor2) section) go whole (after_fits (name_in c.line.factor2) section whole) sound).at e more set));
      }
      performed_sound lines below c (Some op.ExecuteSubroutine) is fits later = record {
        at = λ e answers set.
            let named = name_in c.line.factor2 in
            let fit = body_fits named source.calculations right.calculations in
            asked P _ _ answers tt (λ answer more. (anew.jump (body source named) (body source named) (below None) fit fit (later None)).at e more set);
      }
      performed_sound lines below c (Some op.Except) is fits later = record {
        at = λ e answers set. asked P _ _ answers tt (λ answer more. (lines_put_sound is_exception false source.outputs (below None) right.outputs (later None)).at e more set);
      }
      performed_sound lines below c (Some op.Chain) is fits later = record {
        at = λ e answers set.
            (chained_sound c.line (name_in c.line.factor2) (file_named source (name_in c.line.factor2)) (below None) fits.marks refl (λ file named. fits.chains file is named) (later None)).at e answers set;
      }
      performed_sound lines below c None is fits later = record { at = λ e answers set. (later None).at e answers set }
      performed_sound lines below c (Some op.Add) is fits later = record { at = λ e answers set. (later None).at _ answers (set_changed switches source c.line op.Add e fits.marks set) }
      performed_sound lines below c (Some op.Subtract) is fits later = record { at = λ e answers set. (later None).at _ answers (set_changed switches source c.line op.Subtract e fits.marks set) }
      performed_sound lines below c (Some op.Multiply) is fits later = record { at = λ e answers set. (later None).at _ answers (set_changed switches source c.line op.Multiply e fits.marks set) }
      performed_sound lines below c (Some op.ZeroAdd) is fits later = record { at = λ e answers set. (later None).at _ answers (set_changed switches source c.line op.ZeroAdd e fits.marks set) }
      performed_sound lines below c (Some op.ZeroSubtract) is fits later = record { at = λ e answers set. (later None).at _ answers (set_changed switches source c.line op.ZeroSubtract e fits.marks set) }
      performed_sound lines below c (Some op.MoveRemainder) is fits later = record { at = λ e answers set. (later None).at _ answers (set_changed switches source c.line op.MoveRemainder e fits.marks set) }
      performed_sound lines below c (Some op.Compare) is fits later = record { at = λ e answers set. (later None).at _ answers (set_changed switches source c.line op.Compare e fits.marks set) }
      performed_sound lines below c (Some op.Move) is fits later = record { at = λ e answers set. (later None).at _ answers (set_changed switches source c.line op.Move e fits.marks set) }
      performed_sound lines below c (Some op.MoveLeft) is fits later = record { at = λ e answers set. (later None).at _ answers (set_changed switches source c.line op.MoveLeft e fits.marks set) }
      performed_sound lines below c (Some op.SetOn) is fits later = record { at = λ e answers set. (later None).at _ answers (set_changed switches source c.line op.SetOn e fits.marks set) }
      performed_sound lines below c (Some op.SetOff) is fits later = record { at = λ e answers set. (later None).at _ answers (set_changed switches source c.line op.SetOff e fits.marks set) }
      performed_sound lines below c (Some op.Tag) is fits later = record { at = λ e answers set. (later None).at _ answers (set_changed switches source c.line op.Tag e fits.marks set) }
      performed_sound lines below c (Some op.BeginSubroutine) is fits later = record { at = λ e answers set. (later None).at _ answers (set_changed switches source c.line op.BeginSubroutine e fits.marks set) }
      performed_sound lines below c (Some op.EndSubroutine) is fits later = record { at = λ e answers set. (later None).at _ answers (set_changed switches source c.line op.EndSubroutine e fits.marks set) }
      performed_sound lines below c (Some op.Unknown) is fits later = record { at = λ e answers set. (later None).at _ answers (set_changed switches source c.line op.Unknown e fits.marks set) }

      calculated_sound : (sought : Option Name) (lines : List Calculation) → Each (FitsLine source) lines → Sound P switches (calculated source a section go sought lines)
      unfolding calculated
      calculated_sound sought [] fits = record { at = λ e answers set. sound.at e answers set }
      calculated_sound (Some tag) (c ∷ cs) fits = record {
        at = λ e answers set. choice P (is_tag tag c) _ _ e answers ((calculated_sound None cs fits.1).at e answers set) ((calculated_sound (Some tag) cs fits.1).at e answers set);
      }
      calculated_sound None (c ∷ cs) fits = record {
        at = λ e answers set. choice P (calculation_holds e c) _ _ e answers
            ((performed_sound cs (λ sought. calculated source a section go sought cs) c c.line.operation refl fits.0 (λ sought. calculated_sound sought cs fits.1)).at e answers set)
            ((calculated_sound None cs fits.1).at _ answers (set_not_performed switches c.line.operation e set));
      }

    -- ---- headings
    halts_shown_sound : (ns : List ℕ) (go : Rest) → Sound P switches go → Sound P switches (halts_shown a ns go)
    unfolding halts_shown
    halts_shown_sound [] go sound = record { at = λ e answers set. sound.at e answers set }
    halts_shown_sound (n ∷ ns) go sound =
        let more : Sound P switches (halts_shown a ns go) = halts_shown_sound ns go sound in
        record {
          at = λ e answers set. choice P (e.on (Halt n)) _ _ e answers
              ((halted_sound (HaltIndicator n) _ (record { at = λ e' bs set'. more.at _ bs (set_turn switches (Halt n) false e' refl set') })).at e answers set) (more.at e answers set);
        }

    headings_sound : (go : Rest) → Sound P switches go → Sound P switches (headings source a go)
    unfolding headings
    headings_sound go sound =
        lines_put_sound is_heading_or_detail false source.outputs _ right.outputs
        (record { at = λ e answers set. (halts_shown_sound (1 ∷ 2 ∷ 3 ∷ 4 ∷ 5 ∷ 6 ∷ 7 ∷ 8 ∷ 9 ∷ []) go sound).at _ answers (set_turn switches FirstPage false e refl set) })

    cleared_sound : (go : Rest) → Sound P switches go → Sound P switches (cleared source go)
    unfolding cleared
    cleared_sound go sound = record {
      at = λ e answers set.
          let without = set_without switches source e right.types set in
          sound.at _ answers (record { as_set = λ n. without.as_set n });
    }

    -- ---- records that are read
    headed_sound : (input : InputFile) (head : Head) (go : InputFile → Rest) → file_named source input.file.name ≡ Some input.file → MayRead P input.file → SetsNone head.kind
        → ((next : InputFile) → Stays P source next → Sound P switches (go next)) → Sound P switches (headed a input head go)
    unfolding headed
    headed_sound input head go first may none goes = record {
      at = λ e answers set. choice P (in_sequence (head_key head) input.last_key) _ _ e answers ((goes _ (record { first = first; left = (may, none) })).at e answers set)
          ((halted_sound OutOfSequence _ (anew.read input go first may goes)).at e answers set);
    }

    typed_sound : (input : InputFile) (bytes : List ℕ) (o : Option RecordType) (go : InputFile → Rest) → file_named source input.file.name ≡ Some input.file → MayRead P input.file
        → ((kind : RecordType) → o ≡ Some kind → SetsNone kind) → ((next : InputFile) → Stays P source next → Sound P switches (go next)) → Sound P switches (typed a input bytes o go)
    unfolding typed
    typed_sound input bytes (Some kind) go first may none goes = record {
      at = λ e answers set. (headed_sound input (record { number = input.reads; bytes = bytes; kind = kind }) go first may (none kind refl) goes).at e answers set;
    }
    typed_sound input bytes None go first may none goes = record { at = λ e answers set. (halted_sound UnidentifiedRecord _ (anew.read input go first may goes)).at e answers set }

    on_read_sound : (input : InputFile) (go : InputFile → Rest) (answer : Answer) → file_named source input.file.name ≡ Some input.file → MayRead P input.file
        → ((next : InputFile) → Stays P source next → Sound P switches (go next)) → Sound P switches (on_read source a input go answer)
    unfolding on_read
    on_read_sound input go (Found bytes) first may goes = record {
      at = λ e answers set. (typed_sound (counted_read input) bytes (type_of source input.file.name bytes) go first may (typed_none input.file.name bytes) goes).at e answers set;
    }
    on_read_sound input go Nothing first may goes = record { at = λ e answers set. (goes _ (record { first = first; left = tt })).at e answers set }
    on_read_sound input go Done first may goes = record { at = λ e answers set. (goes _ (record { first = first; left = tt })).at e answers set }
    on_read_sound input go (Refused code) first may goes = record { at = λ e answers set. (goes _ (record { first = first; left = tt })).at e answers set }
    on_read_sound input go (Reply digit) first may goes = record { at = λ e answers set. (goes _ (record { first = first; left = tt })).at e answers set }

    read_named : (file : FileLine) → MayRead P file → NamesOnly P (read_request file)
    read_named file may = by (is_card_reader file.device) refl
      where
        by : (b : Bool) → is_card_reader file.device ≡ b → NamesOnly P (if b then Card else Read file.name file.record_length)
        by true is = tt
        by false is = may is

    file_read_sound : (input : InputFile) (go : InputFile → Rest) → file_named source input.file.name ≡ Some input.file → MayRead P input.file
        → ((next : InputFile) → Stays P source next → Sound P switches (go next)) → Sound P switches (file_read source a input go)
    unfolding file_read
    file_read_sound input go first may goes = record {
      at = λ e answers set. asked P _ _ answers (read_named input.file may) (λ answer later. (on_read_sound input go answer first may goes).at e later set);
    }

    -- the first file that is read, if it is to be, before the others
    with_first : (input : InputFile) (inputs : List InputFile) (go : List InputFile → Rest) → Stays P source input
        → ((one : InputFile) → Stays P source one → Sound P switches (files_read source a inputs (λ next. go (one ∷ next)))) → Sound P switches (files_read source a (input ∷ inputs) go)
    unfolding files_read
    with_first input inputs go stays later = record { at = λ e answers set. by e answers set input.standing refl }
      where
        goes_on : (e : Environment) (answers : List Answer) → AreSet switches e → is_unread input ≡ false
            → NamesOnly P ((if is_unread input then file_read source a input (λ one. files_read source a inputs (λ next. go (one ∷ next))) else files_read source a inputs (λ next. go (input ∷ next))) e answers)
        goes_on e answers set is = subst
            (λ (b : Bool). NamesOnly P ((if b then file_read source a input (λ one. files_read source a inputs (λ next. go (one ∷ next))) else files_read source a inputs (λ next. go (input ∷ next))) e answers))
            (sym is) ((later input stays).at e answers set)

        by : (e : Environment) (answers : List Answer) → AreSet switches e → (standing : Standing) → input.standing ≡ standing
            → NamesOnly P ((if is_unread input then file_read source a input (λ one. files_read source a inputs (λ next. go (one ∷ next))) else files_read source a inputs (λ next. go (input ∷ next))) e answers)
        by e answers set Unread is =
            let unread : is_unread input ≡ true = ap (λ (s : Standing). is_unread (record input { standing = s })) is in
            let may : MayRead P input.file = subst (λ (s : Standing). MayGoOn P s input.file) is stays.left in
            subst
            (λ (b : Bool). NamesOnly P ((if b then file_read source a input (λ one. files_read source a inputs (λ next. go (one ∷ next))) else files_read source a inputs (λ next. go (input ∷ next))) e answers))
            (sym unread) ((file_read_sound input _ stays.first may later).at e answers set)
        by e answers set (Stands head) is = goes_on e answers set (ap (λ (s : Standing). is_unread (record input { standing = s })) is)
        by e answers set Ended is = goes_on e answers set (ap (λ (s : Standing). is_unread (record input { standing = s })) is)

    files_read_sound : (inputs : List InputFile) (go : List InputFile → Rest) → Each (Stays P source) inputs → ((next : List InputFile) → Each (Stays P source) next → Sound P switches (go next))
        → Sound P switches (files_read source a inputs go)
    unfolding files_read
    files_read_sound [] go stay goes = record { at = λ e answers set. (goes [] tt).at e answers set }
    files_read_sound (input ∷ inputs) go stay goes =
        with_first input inputs go stay.0 (λ one stays. files_read_sound inputs (λ next. go (one ∷ next)) stay.1 (λ next stays'. goes (one ∷ next) (stays, stays')))

    -- ---- totals, overflow, detail time
    total_lines : Each (FitsLine source) (total_calculations source)
    total_lines = each_filtered (FitsLine source) (FitsLine source) _ source.calculations right.calculations (λ c fits is. fits)

    detail_lines : Each (FitsLine source) (detail_calculations source)
    detail_lines = each_filtered (FitsLine source) (FitsLine source) _ source.calculations right.calculations (λ c fits is. fits)

    totals_sound : (go : Rest) → Sound P switches go → Sound P switches (totals source a go)
    unfolding totals
    totals_sound go sound =
        calculated_sound (total_calculations source) total_lines _ (lines_put_sound is_total_line false source.outputs go right.outputs sound) None (total_calculations source) total_lines

    last_time_sound : Sound P switches (last_time source a)
    unfolding last_time
    last_time_sound = totals_sound (ended false) (ends_sound P switches false)

    total_time_sound : (go : Rest) → Sound P switches go → Sound P switches (total_time source a go)
    unfolding total_time
    total_time_sound go sound = record {
      at = λ e answers set. choice P e.totals_due _ _ e answers
          ((totals_sound _ (record { at = λ e' bs set'. choice P (e'.on LastRecord) _ _ e' bs ((ends_sound P switches false).at e' bs set') (sound.at e' bs set') })).at e answers set)
          (sound.at e answers set);
    }

    overflow_lines_sound : (go : Rest) → Sound P switches go → Sound P switches (overflow_lines source a go)
    unfolding overflow_lines
    overflow_lines_sound go sound = record {
      at = λ e answers set. choice P (has_overflowed source e) _ _ e answers
          ((lines_put_sound _ true source.outputs _ right.outputs (record { at = λ e' bs set'. sound.at _ bs (set_past_overflow switches source e' right.overflow set') })).at e answers set)
          (sound.at e answers set);
    }

    detail_time_sound : (selected : Selected) (go : Rest) → SetsNone selected.head.kind → Sound P switches go → Sound P switches (detail_time source a selected go)
    unfolding detail_time
    detail_time_sound selected go none sound =
        fields_moved_sound selected.head.kind.fields selected.head.bytes _ none.fields
        (calculated_sound (detail_calculations source) detail_lines _
        (record { at = λ e answers set. sound.at _ answers (set_same switches e (with_totals_due source selected e) refl set) }) None (detail_calculations source) detail_lines)

    -- ---- selection
    chosen_from : (inputs : List InputFile) → Each (Stays P source) inputs → Each (Chosen P source) (filter_map selectable inputs)
    chosen_from inputs stay = each_taken (Stays P source) (Chosen P source) selectable inputs stay (λ input selected stays is. by input selected stays input.standing refl is)
      where
        by : (input : InputFile) (selected : Selected) → Stays P source input → (standing : Standing) → input.standing ≡ standing → selectable input ≡ Some selected → Chosen P source selected
        by input selected stays (Stands head) stands is =
            let whole : Some (record { file = input.file; head = head }) ≡ Some selected = sym (ap (λ (s : Standing). selectable (record input { standing = s })) stands) ∙ is in
            let same : record { file = input.file; head = head } ≡ selected = cc in
            let left : MayRead P input.file × SetsNone head.kind = subst (λ (s : Standing). MayGoOn P s input.file) stands stays.left in
            subst (Chosen P source) same (record { first = stays.first; may = left.0; kind = left.1 })
        by input selected stays Unread stands is =
            let wrong : None ≡ Some selected = sym (ap (λ (s : Standing). selectable (record input { standing = s })) stands) ∙ is in absurd cc
        by input selected stays Ended stands is =
            let wrong : None ≡ Some selected = sym (ap (λ (s : Standing). selectable (record input { standing = s })) stands) ∙ is in absurd cc

    least_chosen : (heads : List Selected) (selected : Selected) → Each (Chosen P source) heads → least heads ≡ Some selected → Chosen P source selected
    least_chosen [] selected each is = absurd cc
    least_chosen (head ∷ heads) selected each is = by (least heads) refl is (λ other. least_chosen heads other each.1)
      where
        of_two : (other : Selected) (b : Bool) → Chosen P source other → Some (if b then other else head) ≡ Some selected → Chosen P source selected
        of_two other true chosen is = let same : other ≡ selected = cc in subst (Chosen P source) same chosen
        of_two other false chosen is = let same : head ≡ selected = cc in subst (Chosen P source) same each.0

        by : (o : Option Selected) → least heads ≡ o → Some (lesser head o) ≡ Some selected → ((other : Selected) → least heads ≡ Some other → Chosen P source other) → Chosen P source selected
        by None none is later = let same : head ≡ selected = cc in subst (Chosen P source) same each.0
        by (Some other) some is later = of_two other _ (later other some) is

    select_chosen : (reading : Reading) (selected : Selected) → Each (Stays P source) reading.files → select reading ≡ Some selected → Chosen P source selected
    select_chosen reading selected stay is = by (has_met_end reading.files) is
      where
        heads : List Selected
        heads = filter_map selectable reading.files

        each : Each (Chosen P source) heads
        each = chosen_from reading.files stay

        filtered : (test : Selected → Bool) → Each (Chosen P source) (filter test heads)
        filtered test = each_filtered (Chosen P source) (Chosen P source) test heads each (λ one chosen passes. chosen)

        at_end : (b : Bool) → (if b then None else least (filter (λ one. same_key (key_of one) reading.primary_key) heads)) ≡ Some selected → Chosen P source selected
        at_end true is = absurd cc
        at_end false is = least_chosen (filter (λ one. same_key (key_of one) reading.primary_key) heads) selected (filtered _) is

        first_or : (o : Option Selected) → find (λ one. not (is_some (key_of one))) heads ≡ o → option_or o (least (primary_first heads)) ≡ Some selected → Chosen P source selected
        first_or None none is = least_chosen (primary_first heads) selected (each_joined (Chosen P source) _ _ (filtered _) (filtered _)) is
        first_or (Some one) some is =
            let same : one ≡ selected = cc in
            subst (Chosen P source) same (found_one (Chosen P source) _ heads one each some).0

        by : (b : Bool) → (if b then select_at_end heads reading.primary_key else option_or (find (λ one. not (is_some (key_of one))) heads) (least (primary_first heads))) ≡ Some selected → Chosen P source selected
        by true is = at_end _ is
        by false is = first_or (find (λ one. not (is_some (key_of one))) heads) refl is

    -- the file whose head was taken is read again
    vacated_stays : (selected : Selected) (input : InputFile) → Chosen P source selected → Stays P source input → Stays P source (vacated selected.file.name input)
    vacated_stays selected input chosen stays = by (same_name input.file.name selected.file.name) refl
      where
        by : (b : Bool) → same_name input.file.name selected.file.name ≡ b → Stays P source (if b then record input { standing = Unread } else input)
        by false is = stays
        by true is =
            let both : Some selected.file ≡ Some input.file = sym chosen.first ∙ ap (file_named source) (sym (same_name-equal input.file.name selected.file.name is)) ∙ stays.first in
            let same : selected.file ≡ input.file = cc in
            record { first = stays.first; left = subst (MayRead P) same chosen.may }

    taken_stays : (reading : Reading) (selected : Selected) → Each (Stays P source) reading.files → Chosen P source selected → Each (Stays P source) (taken reading selected).files
    taken_stays reading selected stay chosen = each_mapped (Stays P source) (Stays P source) (vacated selected.file.name) reading.files stay (λ input stays. vacated_stays selected input chosen stays)

    -- ---- the cycle
    record_time_sound : (is_matching : Bool) (selected : Selected) (go : Rest) → SetsNone selected.head.kind → Sound P switches go → Sound P switches (record_time source a is_matching selected go)
    unfolding record_time
    record_time_sound is_matching selected go none sound =
        let details : Sound P switches (λ e. detail_time source a selected go (matched is_matching selected e)) = record {
          at = λ e answers set. (detail_time_sound selected go none sound).at _ answers
              (set_same switches (turn Matching is_matching e) (matched is_matching selected e) refl (set_turn switches Matching is_matching e refl set));
        } in
        record {
          at = λ e answers set.
              let turned = set_turn switches selected.head.kind.indicator true e none.itself set in
              (total_time_sound _ (overflow_lines_sound _ details)).at _ answers (record { as_set = λ n. turned.as_set n });
        }

    selected_or_last_sound : (reading : Reading) (o : Option Selected) → Each (Stays P source) reading.files → ((selected : Selected) → o ≡ Some selected → Chosen P source selected)
        → Sound P switches (selected_or_last source a reading o)
    unfolding selected_or_last
    selected_or_last_sound reading None stay chosen = record { at = λ e answers set. last_time_sound.at _ answers (record { as_set = λ n. set.as_set n }) }
    selected_or_last_sound reading (Some selected) stay chosen =
        let one : Chosen P source selected = chosen selected refl in record {
          at = λ e answers set. (record_time_sound (is_matched reading selected) selected _ one.kind (anew.cycle (taken reading selected) (taken_stays reading selected stay one))).at e answers set;
        }

    reading_time_sound : (reading : Reading) → Each (Stays P source) reading.files → Sound P switches (reading_time source a reading)
    unfolding reading_time
    reading_time_sound reading stay =
        files_read_sound reading.files _ stay
        (λ inputs stay'. let heads : Reading = record { files = inputs; primary_key = reading.primary_key } in
        selected_or_last_sound heads (select heads) stay' (λ selected is. select_chosen heads selected stay' is))

    one_cycle_sound : (reading : Reading) → Each (Stays P source) reading.files → Sound P switches (one_cycle source a reading)
    unfolding one_cycle
    one_cycle_sound reading stay =
        headings_sound _ (cleared_sound _ (record {
          at = λ e answers set. choice P (e.on LastRecord) _ _ e answers (last_time_sound.at e answers set) ((reading_time_sound reading stay).at e answers set);
        }))

    renewed_sound : SoundAnew P switches source (renewed source a)
    renewed_sound = record {
      jump = λ section lines go whole fits sound. calculated_sound section whole go sound None lines fits;
      read = λ input go first may goes. file_read_sound input go first may goes;
      last = last_time_sound;
      cycle = λ reading stay. one_cycle_sound reading stay;
    }

  within_sound : (n : ℕ) → SoundAnew P switches source (anew_within n source)
  unfolding anew_within
  within_sound zero = record {
    jump = λ section lines go whole fits sound. ends_sound P switches true;
    read = λ input go first may goes. ends_sound P switches true;
    last = ends_sound P switches true;
    cycle = λ reading stay. ends_sound P switches true;
  }
  within_sound (suc n) = renewed_sound (anew_within n source) (within_sound n)

  -- ---- the whole run
  first_stays : (e : Environment) → AreSet switches e → Each (Stays P source) (first_reading source e).files
  first_stays e set =
      each_mapped (λ (file : FileLine). FitsFile source file × (is_input file ≡ true)) (Stays P source) (first_standing e) (filter is_input source.files)
      (each_filtered (FitsFile source) (λ (file : FileLine). FitsFile source file × (is_input file ≡ true)) is_input source.files right.files (λ file fits is. (fits, is)))
      (λ file both. record { first = both.0.first; left = by file both.0 both.1 (is_served e file) refl })
    where
      by : (file : FileLine) → FitsFile source file → is_input file ≡ true → (b : Bool) → is_served e file ≡ b → MayGoOn P (if b then Unread else Ended) file
      by file fits input true is = λ not_cards. may_name file.name file e fits.first set is (fits.read input not_cards)
      by file fits input false is = tt

  pub requests_named : (date : List ℕ) (past : List Answer) → NamesOnly P (Req source switches date past)
  unfolding again
  requests_named date past =
      let set : AreSet switches (at_first source switches date) = record { as_set = λ n. refl } in
      ((within_sound (suc (suc (length past)))).cycle (first_reading source (at_first source switches date)) (first_stays (at_first source switches date) set)).at (at_first source switches date) past set
