-- Tables that are read row by row.
use Rattle.std.proofs.Common.{◌≡◌, ℕ, ◌+◌, ◌<◌, refl, arith, sym, ◌∙◌, subst, true, false, List, [], ◌∷◌, ◌++◌, length, get_or, inl, inr}
use Rattle.std.specs.Prelude.{Option, Some, None}
use Rattle.std.specs.Option.{option_map}
use Rattle.std.proofs.lemmas.Bool.{cases_eq}
use Rattle.std.proofs.lemmas.List.{get_or_append_left, get_or_push, length-append}
use Rattle.csv.specs.Reading.{AreRecords, ReadRecord, Reached, Ready, reader_config, reader_state, reader_trim, source_of, strip_bom}
use Rattle.csv.specs.declared.parser.State.TheVariants as st
use Rattle.csv.specs.declared.reader.Reader.{Reader}
use Rattle.csv.specs.declared.reader.Trim.TheVariants as trim
use Rattle.csv.proofs.ReadFacts.{rows-end, rows-more}
use Rattle.s3_cells.specs.declared.field.Field.{Field}
use Rattle.s3_record_types.specs.declared.chosen.ChosenRecords.{ChosenRecords}
use Rattle.s3_load.specs.declared.rows.Row.{Row}
use Rattle.s3_load.specs.Inner.Records.{IsRecordOf}
use Rattle.s3_load.specs.Inner.Tables.{AddsRow, AreRecordsOf, AreRowsOf, FindsEnd, HasRead, HasRows, IsReading, table_config}

-- ---- a reader
none_read : {R : Type 0} (rem : R → Option (List ℕ)) (text : Option (List ℕ)) (delimiter : ℕ) (reader : Reader R) → source_of rem reader ≡ option_map strip_bom text → reader_state reader ≡ st.StartRecord → HasRead rem text delimiter [] reader
unfolding Reached
none_read rem None delimiter reader source state = tt
none_read rem (Some text) delimiter reader source state = (strip_bom text, source, (sym state, refl))

pub starts_reading : {R : Type 0} (rem : R → Option (List ℕ)) (text : Option (List ℕ)) (delimiter : ℕ) (reader : Reader R) → Ready reader → reader_trim reader ≡ trim.None → reader_config reader ≡ table_config delimiter
    → source_of rem reader ≡ option_map strip_bom text → reader_state reader ≡ st.StartRecord → IsReading rem text delimiter [] reader
starts_reading rem text delimiter reader ready untrimmed config source state =
    record { ready = ready; untrimmed = untrimmed; config = config; read = none_read rem text delimiter reader source state }

more_read : {R : Type 0} (rem : R → Option (List ℕ)) (text : Option (List ℕ)) (delimiter : ℕ) (rows : List (List (List ℕ))) (first last : Reader R) (cells : List (List ℕ)) → reader_config first ≡ table_config delimiter
    → HasRead rem text delimiter rows first → ReadRecord rem first last true cells → HasRead rem text delimiter (rows ++ cells ∷ []) last
more_read rem None delimiter rows first last cells config before read = tt
more_read rem (Some text) delimiter rows first last cells config before read =
    rows-more rem first last cells (table_config delimiter) st.StartRecord (strip_bom text) before.0 rows config before.1 before.2 read

pub reads_more : {R : Type 0} (rem : R → Option (List ℕ)) (text : Option (List ℕ)) (delimiter : ℕ) (rows : List (List (List ℕ))) (first last : Reader R) (cells : List (List ℕ)) → IsReading rem text delimiter rows first → Ready last
    → ReadRecord rem first last true cells → IsReading rem text delimiter (rows ++ cells ∷ []) last
reads_more rem text delimiter rows first last cells reading ready read =
    record {
      ready = ready;
      untrimmed = read.3 ∙ reading.untrimmed;
      config = read.2 ∙ reading.config;
      read = more_read rem text delimiter rows first last cells reading.config reading.read read;
    }

pub reads_all : {R : Type 0} (rem : R → Option (List ℕ)) (text : List ℕ) (delimiter : ℕ) (rows : List (List (List ℕ))) (first last : Reader R) (cells : List (List ℕ)) → IsReading rem (Some text) delimiter rows first → ReadRecord rem first last false cells
    → AreRecords (table_config delimiter) st.StartRecord (strip_bom text) rows
reads_all rem text delimiter rows first last cells reading read =
    let (rest, source, reached) = reading.read in
    (reader_state first, rest, reached, rows-end rem first last cells (table_config delimiter) rest reading.config source read)

-- ---- records of rows
none_made : (record_length : ℕ) (columns filled : List Field) (chosen : ChosenRecords) → AreRecordsOf record_length columns filled chosen [] []
none_made record_length columns filled chosen = record { counted = refl; each = λ k d h. absurd (omega arith) }

one_more_made : (record_length : ℕ) (columns filled : List Field) (chosen : ChosenRecords) (texts : List (List (List ℕ))) (rows : List Row) (cells : List (List ℕ)) (row : Row) → AreRecordsOf record_length columns filled chosen texts rows
    → IsRecordOf record_length columns filled chosen cells row.bytes.items → AreRecordsOf record_length columns filled chosen (texts ++ cells ∷ []) (rows ++ row ∷ [])
one_more_made record_length columns filled chosen texts rows cells row before made =
    let counted = before.counted in
    let long : length (texts ++ cells ∷ []) ≡ length texts + 1 = length-append texts (cells ∷ []) in
    let wide : length (rows ++ row ∷ []) ≡ length rows + 1 = length-append rows (row ∷ []) in
    record {
      counted = omega arith;
      each = λ k d h. elim (cases_eq k (length texts)) [
        | inl here ↦
            let text : get_or (texts ++ cells ∷ []) k [] ≡ cells = get_or_push texts cells [] k (sym here) in
            let last : get_or (rows ++ row ∷ []) k d ≡ row = get_or_push rows row d k (omega arith) in
            subst (λ cs. IsRecordOf record_length columns filled chosen cs (get_or (rows ++ row ∷ []) k d).bytes.items) (sym text) (subst (λ (r : Row). IsRecordOf record_length columns filled chosen cells r.bytes.items) (sym last) made)
        | inr other ↦
            let low : k < length texts = omega arith in
            let text : get_or (texts ++ cells ∷ []) k [] ≡ get_or texts k [] = get_or_append_left texts (cells ∷ []) [] k low in
            let same : get_or (rows ++ row ∷ []) k d ≡ get_or rows k d = get_or_append_left rows (row ∷ []) d k (omega arith) in
            subst (λ cs. IsRecordOf record_length columns filled chosen cs (get_or (rows ++ row ∷ []) k d).bytes.items) (sym text)
            (subst (λ (r : Row). IsRecordOf record_length columns filled chosen (get_or texts k []) r.bytes.items) (sym same) (before.each k d low))
      ];
    }

-- ---- rows, one after another
pub no_rows : {R : Type 0} (rem : R → Option (List ℕ)) (text : Option (List ℕ)) (delimiter : ℕ) (heading : List (List ℕ)) (record_length : ℕ) (columns filled : List Field) (chosen : ChosenRecords) (reader : Reader R) → IsReading rem text delimiter (heading ∷ []) reader
    → HasRows rem text delimiter heading record_length columns filled chosen reader []
no_rows rem text delimiter heading record_length columns filled chosen reader reading = record { cells = []; reading = reading; made = none_made record_length columns filled chosen }

pub one_more_row : {R : Type 0} (rem : R → Option (List ℕ)) (text : Option (List ℕ)) (delimiter : ℕ) (heading : List (List ℕ)) (record_length : ℕ) (columns filled : List Field) (chosen : ChosenRecords) (first last : Reader R) (old new : List Row)
    → HasRows rem text delimiter heading record_length columns filled chosen first old → Ready last → AddsRow rem record_length columns filled chosen first last old new → HasRows rem text delimiter heading record_length columns filled chosen last new
one_more_row rem text delimiter heading record_length columns filled chosen first last old new before ready adds =
    record {
      cells = before.cells ++ adds.cells ∷ [];
      reading = reads_more rem text delimiter (heading ∷ before.cells) first last adds.cells before.reading ready adds.read;
      made = subst (λ rows. AreRecordsOf record_length columns filled chosen (before.cells ++ adds.cells ∷ []) rows) (sym adds.added) (one_more_made record_length columns filled chosen before.cells old adds.cells adds.row before.made adds.made);
    }

pub all_rows : {R : Type 0} (rem : R → Option (List ℕ)) (text : List ℕ) (delimiter : ℕ) (heading : List (List ℕ)) (record_length : ℕ) (columns filled : List Field) (chosen : ChosenRecords) (first last : Reader R) (old new : List Row)
    → HasRows rem (Some text) delimiter heading record_length columns filled chosen first old → FindsEnd rem first last old new → AreRowsOf text delimiter heading record_length columns filled chosen new
all_rows rem text delimiter heading record_length columns filled chosen first last old new before end =
    record {
      cells = before.cells;
      are_records = reads_all rem text delimiter (heading ∷ before.cells) first last end.cells before.reading end.read;
      made = subst (λ rows. AreRecordsOf record_length columns filled chosen before.cells rows) (sym end.same) before.made;
    }
