-- Rows that are written one after another.
use Rattle.std.proofs.Common.{◌≡◌, ℕ, ◌+◌, ◌-◌, ◌<◌, sym, ◌∙◌, ap, ap₂, subst, arith, cond, true, false, ◌&&◌, List, [], ◌∷◌, ◌++◌, length, map, take, get_or, append_assoc}
use Rattle.std.specs.Prelude.{Some, slice_get, Result, Ok, Err, OnOk}
use Rattle.std.specs.Io.KnownBytes.{Keeps}
use Rattle.std.specs.List.{All, list_all}
use Rattle.std.proofs.lemmas.List.{append-nil, length-append, map-append, take_more}
use Rattle.std.proofs.lemmas.List.Elements.{All-get_or, filter-append}
use Rattle.std.proofs.lemmas.List.Folds.{list_all-append, list_all_at, list_all_more}
use Rattle.std.proofs.lemmas.Grind.{flat_map-append}
use Rattle.std.proofs.lemmas.Option.{get_or_from_slice_get}
use Rattle.csv.specs.Writing.{row_text, writer_pending, writer_under}
use Rattle.csv.specs.declared.writer.Writer.{Writer}
use Rattle.std.specs.Prelude.{Vec}
use Rattle.std.specs.declared.alloc.Global.{Global}
use Rattle.s3_cells.specs.Inner.Fields.{LiesIn, cell_of, is_shown}
use Rattle.s3_cells.specs.declared.field.Field.{Field}
use Rattle.s3_cells.specs.declared.fault.ShowFault.{ShowFault}
use Rattle.s3_cells.specs.declared.fault.ShowFault.TheVariants.{NoCharacter, NoNumber, NoDate, NoMemory}
use Rattle.s3_unload.specs.Inner.Tables.{AddsText, IsBetweenRows, IsHiddenIn, IsHiddenValue, are_shown, heading, name_text, row_of, rows_text, setup, table_text, text_in}
use Rattle.s3_unload.specs.Inner.Unloads.{IsRowRefusal, IsRowsRefusal}
use Rattle.s3_unload.specs.declared.fault.UnloadFault.{UnloadFault}
use Rattle.s3_unload.specs.declared.fault.UnloadFault.TheVariants.{Mount, NotFound, DamagedLabel, BadIndex, OtherLength, Hidden, NoCharacter as HasNoCharacter, NoMemory as NoMemoryToUnload, File}
use Rattle.s3_record_types.specs.Inner.Chosen.{chosen_of, is_chosen}
use Rattle.s3_record_types.specs.declared.chosen.ChosenRecords.{ChosenRecords}

pub field_lies : (fields : List Field) (n i : ℕ) (f : Field) → All (LiesIn n) fields → i < length fields → f ≡ get_or fields i f → LiesIn n f
field_lies fields n i f all h is = subst (LiesIn n) (sym is) (All-get_or (LiesIn n) fields i f h all)

pub one_more_shown : (fields : List Field) (bytes : List ℕ) (i : ℕ) (f : Field) → i < length fields → f ≡ get_or fields i f → list_all (λ field. is_shown field bytes) (take i fields) ≡ true → is_shown f bytes ≡ true
    → list_all (λ field. is_shown field bytes) (take (i + 1) fields) ≡ true
one_more_shown fields bytes i f h is before one =
    list_all_more (λ field. is_shown field bytes) fields i f h ∙ ap₂ (λ a b. a && b) before (sym (ap (λ field. is_shown field bytes) is) ∙ one)

not_shown : (fields : List Field) (bytes : List ℕ) (i : ℕ) (f : Field) → i < length fields → f ≡ get_or fields i f → is_shown f bytes ≡ false → are_shown fields bytes ≡ false
not_shown fields bytes i f h is one = list_all_at (λ field. is_shown field bytes) fields i f h (sym (ap (λ field. is_shown field bytes) is) ∙ one)

pub one_not_shown : (fields : List Field) (bytes : List ℕ) (i : ℕ) (f : Field) (fault : ShowFault) → i < length fields → f ≡ get_or fields i f → IsHiddenValue f bytes fault → IsHiddenIn fields bytes fault
one_not_shown fields bytes i f (NoCharacter position) h is one = not_shown fields bytes i f h is one
one_not_shown fields bytes i f NoNumber h is one = not_shown fields bytes i f h is one
one_not_shown fields bytes i f (NoDate date) h is one = not_shown fields bytes i f h is one
one_not_shown fields bytes i f NoMemory h is one = tt

pub one_more_cell : (fields : List Field) (bytes : List ℕ) (i : ℕ) (f : Field) → i < length fields → f ≡ get_or fields i f
    → map (λ field. cell_of field bytes) (take i fields) ++ cell_of f bytes ∷ [] ≡ map (λ field. cell_of field bytes) (take (i + 1) fields)
one_more_cell fields bytes i f h is =
    ap (λ g. map (λ field. cell_of field bytes) (take i fields) ++ cell_of g bytes ∷ []) is
    ∙ sym (ap (map (λ field. cell_of field bytes)) (take_more fields i f h) ∙ map-append (λ field. cell_of field bytes) (take i fields) (get_or fields i f ∷ []))

pub one_more_name : (fields : List Field) (i : ℕ) (f : Field) → i < length fields → f ≡ get_or fields i f
    → map (λ (field : Field). name_text field.name) (take i fields) ++ name_text f.name ∷ [] ≡ map (λ (field : Field). name_text field.name) (take (i + 1) fields)
one_more_name fields i f h is =
    ap (λ (g : Field). map (λ (field : Field). name_text field.name) (take i fields) ++ name_text g.name ∷ []) is
    ∙ sym (ap (map (λ (field : Field). name_text field.name)) (take_more fields i f h) ∙ map-append (λ (field : Field). name_text field.name) (take i fields) (get_or fields i f ∷ []))

-- ---- a writer that has written more
pub adds_none : (delimiter : ℕ) (writer : Writer (Vec ℕ Global)) → IsBetweenRows delimiter writer → AddsText delimiter writer writer []
adds_none delimiter writer between = record { added = sym (append-nil (text_in writer)); between = between }

pub adds_more : (delimiter : ℕ) (first middle last : Writer (Vec ℕ Global)) (one two : List ℕ) → AddsText delimiter first middle one → AddsText delimiter middle last two → AddsText delimiter first last (one ++ two)
adds_more delimiter first middle last one two a b =
    record { added = b.added ∙ ap (λ t. t ++ two) a.added ∙ append_assoc (text_in first) one two; between = b.between }

-- of one record more those that are chosen
pub chosen_more : (chosen : ChosenRecords) (records : List (List ℕ)) (n : ℕ) (bytes : List ℕ) → n < length records → slice_get records n ≡ Some bytes
    → chosen_of chosen (take (n + 1) records) ≡ chosen_of chosen (take n records) ++ chosen_of chosen (bytes ∷ [])
chosen_more chosen records n bytes h got =
    let one : take (n + 1) records ≡ take n records ++ bytes ∷ [] = take_more records n [] h ∙ ap (λ b. take n records ++ b ∷ []) (get_or_from_slice_get records n bytes [] got) in
    ap (chosen_of chosen) one ∙ filter-append (is_chosen chosen) (take n records) (bytes ∷ [])

pub rows_more : (delimiter : ℕ) (fields : List Field) (chosen : ChosenRecords) (records : List (List ℕ)) (n : ℕ) (bytes : List ℕ) → n < length records → slice_get records n ≡ Some bytes
    → rows_text delimiter fields (chosen_of chosen (take n records)) ++ rows_text delimiter fields (chosen_of chosen (bytes ∷ [])) ≡ rows_text delimiter fields (chosen_of chosen (take (n + 1) records))
rows_more delimiter fields chosen records n bytes h got =
    sym (ap (rows_text delimiter fields) (chosen_more chosen records n bytes h got)
    ∙ flat_map-append (λ b. row_text (setup delimiter) (row_of fields b)) (chosen_of chosen (take n records)) (chosen_of chosen (bytes ∷ [])))

pub shown_more : (fields : List Field) (chosen : ChosenRecords) (records : List (List ℕ)) (n : ℕ) (bytes : List ℕ) → n < length records → slice_get records n ≡ Some bytes → list_all (are_shown fields) (chosen_of chosen (take n records)) ≡ true
    → list_all (are_shown fields) (chosen_of chosen (bytes ∷ [])) ≡ true → list_all (are_shown fields) (chosen_of chosen (take (n + 1) records)) ≡ true
shown_more fields chosen records n bytes h got before one =
    ap (list_all (are_shown fields)) (chosen_more chosen records n bytes h got) ∙ list_all-append (are_shown fields) (chosen_of chosen (take n records)) (chosen_of chosen (bytes ∷ [])) ∙ ap₂ (λ a b. a && b) before one

pub counted_more : (chosen : ChosenRecords) (records : List (List ℕ)) (n others other : ℕ) (bytes : List ℕ) → n < length records → slice_get records n ≡ Some bytes → others + length (chosen_of chosen (take n records)) ≡ n
    → other + length (chosen_of chosen (bytes ∷ [])) ≡ 1 → others + other + length (chosen_of chosen (take (n + 1) records)) ≡ n + 1
counted_more chosen records n others other bytes h got before one =
    let long : length (chosen_of chosen (take (n + 1) records)) ≡ length (chosen_of chosen (take n records)) + length (chosen_of chosen (bytes ∷ [])) =
    ap length (chosen_more chosen records n bytes h got) ∙ length-append (chosen_of chosen (take n records)) (chosen_of chosen (bytes ∷ [])) in
    omega arith

-- ---- the row of one record
pub one_chosen : (chosen : ChosenRecords) (bytes : List ℕ) → is_chosen chosen bytes ≡ true → chosen_of chosen (bytes ∷ []) ≡ bytes ∷ []
one_chosen chosen bytes is = ap (λ b. cond b (bytes ∷ []) []) is

pub none_chosen : (chosen : ChosenRecords) (bytes : List ℕ) → is_chosen chosen bytes ≡ false → chosen_of chosen (bytes ∷ []) ≡ []
none_chosen chosen bytes is = ap (λ b. cond b (bytes ∷ []) []) is

pub chosen_row : (delimiter : ℕ) (fields : List Field) (chosen : ChosenRecords) (bytes : List ℕ) (old new : Writer (Vec ℕ Global)) → is_chosen chosen bytes ≡ true → AddsText delimiter old new (row_text (setup delimiter) (row_of fields bytes))
    → AddsText delimiter old new (rows_text delimiter fields (chosen_of chosen (bytes ∷ [])))
chosen_row delimiter fields chosen bytes old new is adds =
    subst (AddsText delimiter old new) (sym (ap (rows_text delimiter fields) (one_chosen chosen bytes is) ∙ append-nil (row_text (setup delimiter) (row_of fields bytes)))) adds

pub other_row : (delimiter : ℕ) (fields : List Field) (chosen : ChosenRecords) (bytes : List ℕ) (writer : Writer (Vec ℕ Global)) → is_chosen chosen bytes ≡ false → IsBetweenRows delimiter writer
    → AddsText delimiter writer writer (rows_text delimiter fields (chosen_of chosen (bytes ∷ [])))
other_row delimiter fields chosen bytes writer is between =
    subst (AddsText delimiter writer writer) (sym (ap (rows_text delimiter fields) (none_chosen chosen bytes is))) (adds_none delimiter writer between)

pub chosen_shown : (fields : List Field) (chosen : ChosenRecords) (bytes : List ℕ) → is_chosen chosen bytes ≡ true → are_shown fields bytes ≡ true → list_all (are_shown fields) (chosen_of chosen (bytes ∷ [])) ≡ true
chosen_shown fields chosen bytes is shown = ap (list_all (are_shown fields)) (one_chosen chosen bytes is) ∙ ap (λ b. b && true) shown

pub other_shown : (fields : List Field) (chosen : ChosenRecords) (bytes : List ℕ) → is_chosen chosen bytes ≡ false → list_all (are_shown fields) (chosen_of chosen (bytes ∷ [])) ≡ true
other_shown fields chosen bytes is = ap (list_all (are_shown fields)) (none_chosen chosen bytes is)

pub chosen_counted : (chosen : ChosenRecords) (bytes : List ℕ) → is_chosen chosen bytes ≡ true → 0 + length (chosen_of chosen (bytes ∷ [])) ≡ 1
chosen_counted chosen bytes is = ap (λ rs. 0 + length rs) (one_chosen chosen bytes is)

pub other_counted : (chosen : ChosenRecords) (bytes : List ℕ) → is_chosen chosen bytes ≡ false → 1 + length (chosen_of chosen (bytes ∷ [])) ≡ 1
other_counted chosen bytes is = ap (λ rs. 1 + length rs) (none_chosen chosen bytes is)

-- a row that isn't written
pub row_refused : (fields : List Field) (chosen : ChosenRecords) (records : List (List ℕ)) (n : ℕ) (bytes : List ℕ) (fault : UnloadFault) → slice_get records n ≡ Some bytes → is_chosen chosen bytes ≡ true → IsRowRefusal n fields bytes fault
    → IsRowsRefusal fields chosen records fault
row_refused fields chosen records n bytes (Hidden number field fault) got is refused =
    let at : number - 1 ≡ n = omega (arith, refused.0) in
    record { bytes = bytes; there = ap (slice_get records) at ∙ got; is_meant = is; hidden = refused.1 }
row_refused fields chosen records n bytes NoMemoryToUnload got is refused = tt
row_refused fields chosen records n bytes BadIndex got is refused = absurd refused
row_refused fields chosen records n bytes (Mount fault) got is refused = absurd refused
row_refused fields chosen records n bytes NotFound got is refused = absurd refused
row_refused fields chosen records n bytes DamagedLabel got is refused = absurd refused
row_refused fields chosen records n bytes (OtherLength long) got is refused = absurd refused
row_refused fields chosen records n bytes (HasNoCharacter number position) got is refused = absurd refused
row_refused fields chosen records n bytes File got is refused = absurd refused

-- ---- a table from its writer
pub begun : (writer : Writer (Vec ℕ Global)) (under : Vec ℕ Global) → writer_under writer ≡ under → under.items ≡ [] → writer_pending writer ≡ [] → text_in writer ≡ []
begun writer under is none pending = ap₂ (λ (v : Vec ℕ Global) p. v.items ++ p) is pending ∙ append-nil under.items ∙ none

some_text : (a b : List ℕ) → Keeps (Some b) (Some a) → a ≡ b
some_text a b h = cc

pub table_made : (delimiter : ℕ) (named shown fields : List Field) (records : List (List ℕ)) (first middle last : Writer (Vec ℕ Global)) (text : List ℕ) (r : Result ℕ UnloadFault) → named ≡ fields → shown ≡ fields → text_in first ≡ []
    → AddsText delimiter first middle (row_text (setup delimiter) (heading named)) → OnOk r (AddsText delimiter middle last (rows_text delimiter shown records)) → Keeps (Some (text_in last)) (Some text)
    → OnOk r (text ≡ table_text delimiter fields records)
table_made delimiter named shown fields records first middle last text (Err fault) n s none head rows kept = tt
table_made delimiter named shown fields records first middle last text (Ok done) n s none head rows kept =
    let made : text_in last ≡ row_text (setup delimiter) (heading named) ++ rows_text delimiter shown records =
    rows.added ∙ ap (λ t. t ++ rows_text delimiter shown records) (head.added ∙ ap (λ t. t ++ row_text (setup delimiter) (heading named)) none) in
    some_text text (text_in last) kept ∙ made ∙ ap₂ (λ f g. row_text (setup delimiter) (heading f) ++ rows_text delimiter g records) n s
