-- Tables of records that are read again.
use Rattle.std.proofs.Common.{◌≡◌, ◌≢◌, ℕ, ◌<◌, refl, arith, sym, ◌∙◌, ap, subst, false, List, [], ◌∷◌, length, map, get_or}
use Rattle.std.specs.Prelude.{None, Option, Some}
use Rattle.std.specs.List.{All}
use Rattle.std.proofs.lemmas.List.{ext_get_or, get_or-map, length-map}
use Rattle.csv.specs.Machine.{Read, next_record}
use Rattle.csv.specs.Reading.{AreRecords, Reached, strip_bom}
use Rattle.csv.specs.declared.parser.Config.{Config}
use Rattle.csv.specs.declared.parser.State.{State}
use Rattle.csv.specs.declared.parser.State.TheVariants as st
use Rattle.s3_cells.specs.Inner.Fields.{LiesIn}
use Rattle.s3_cells.specs.declared.field.Field.{Field}
use Rattle.s3_unload.specs.Inner.Tables.{comma, heading, name_text, row_of, table_text}
use Rattle.s3_unload.proofs.TableLaws.{table_reads}
use Rattle.s3_record_types.specs.declared.chosen.ChosenRecords.{ChosenRecords}
use Rattle.s3_load.specs.declared.order.Order.{Order}
use Rattle.s3_load.specs.declared.rows.Row.{Row}
use Rattle.s3_load.specs.Inner.Columns.{AreNamed}
use Rattle.s3_load.specs.Inner.Filling.{records_of}
use Rattle.s3_load.specs.Inner.Loaded.{IsLoaded}
use Rattle.s3_load.specs.Inner.Records.{IsRecordOf}
use Rattle.s3_load.specs.Inner.Tables.{AreRecordsOf, table_config}
use Rattle.s3_load.proofs.RowLaws.{unloaded_loaded}
use Rattle.s3_load.proofs.LoadedFiles.{loaded_as, loaded_file, some_row}
use Rattle.s3_load.proofs.Marks.{table_unmarked}
use Rattle.s3_load.specs.Inner.RoundTrip.{AreToldApart, AreUnloaded, HasRecordsAgain, ReadsAsTable, SayAll}

-- ---- a text has the records of one table only
same_read : (p q : Read) (o : Option Read) → o ≡ Some p → o ≡ Some q → p ≡ q
same_read p q o h k = let e : Some p ≡ Some q = sym h ∙ k in cc

read_once : (cfg : Config) (s : State) (xs : List ℕ) (one other : List (List (List ℕ))) (s2 t2 : State) (ys zs : List ℕ) → Reached cfg s xs one s2 ys → Reached cfg s xs other t2 zs
    → next_record cfg s2 [] [] ys ≡ None → next_record cfg t2 [] [] zs ≡ None → one ≡ other
unfolding Reached
read_once cfg s xs [] [] s2 t2 ys zs a b end last = refl
read_once cfg s xs [] (r ∷ rs) s2 t2 ys zs a b end last =
    let none : next_record cfg s [] [] xs ≡ None = ap (λ t. next_record cfg t [] [] xs) a.0 ∙ ap (next_record cfg s2 [] []) a.1 ∙ end in
    let e : None ≡ Some b.0 = sym none ∙ b.1 in absurd cc
read_once cfg s xs (r ∷ rs) [] s2 t2 ys zs a b end last =
    let none : next_record cfg s [] [] xs ≡ None = ap (λ t. next_record cfg t [] [] xs) b.0 ∙ ap (next_record cfg t2 [] []) b.1 ∙ last in
    let e : None ≡ Some a.0 = sym none ∙ a.1 in absurd cc
read_once cfg s xs (r ∷ rs) (q ∷ qs) s2 t2 ys zs a b end last =
    let same : a.0 ≡ b.0 = same_read a.0 b.0 (next_record cfg s [] [] xs) a.1 b.1 in
    let state : a.0.1 ≡ b.0.1 = ap (λ (p : Read). p.1) same in
    let left : a.0.2 ≡ b.0.2 = ap (λ (p : Read). p.2) same in
    let head : r ≡ q = a.2 ∙ ap (λ (p : Read). p.0) same ∙ sym b.2 in
    let moved : Reached cfg a.0.1 a.0.2 qs t2 zs = subst (λ (p : Read). Reached cfg p.1 p.2 qs t2 zs) (sym same) b.3 in
    let rest = read_once cfg a.0.1 a.0.2 rs qs s2 t2 ys zs a.3 moved end last in
    ap (λ x. x ∷ rs) head ∙ ap (λ l. q ∷ l) rest

pub one_table : (cfg : Config) (s : State) (text : List ℕ) (one other : List (List (List ℕ))) → AreRecords cfg s text one → AreRecords cfg s text other → one ≡ other
one_table cfg s text one other (s2, ys, a, end) (t2, zs, b, last) = read_once cfg s text one other s2 t2 ys zs a b end last

-- ---- a heading of all fields
all_columns : (fields columns : List Field) → AreToldApart fields → AreNamed fields (heading fields) (length (heading fields)) columns → columns ≡ fields
all_columns [] [] apart named = refl
all_columns [] (c ∷ columns) apart named = let counted = named.counted in absurd (omega arith)
all_columns (f ∷ fields) columns apart named =
    let counted = named.counted in
    let wide = length-map (f ∷ fields) (λ (field : Field). name_text field.name) in
    let long : length columns ≡ length (f ∷ fields) = counted ∙ wide in
    ext_get_or f columns (f ∷ fields) long (λ k low. apart k f (get_or columns k f) (omega (arith, low, long)) (named.each k f (omega (arith, low, counted))))

-- ---- the records of rows that show records
records_again : (n : ℕ) (fields filled : List Field) (chosen : ChosenRecords) (records : List (List ℕ)) (rows : List Row) → All (LiesIn n) fields → SayAll n fields records → AreRecordsOf n fields filled chosen (map (row_of fields) records) rows → records_of rows ≡ records
records_again n fields filled chosen records rows lie all made =
    let counted = made.counted in
    let cells = length-map records (row_of fields) in
    let long = length-map rows (λ (row : Row). row.bytes.items) in
    ext_get_or [] (records_of rows) records (long ∙ counted ∙ cells) (λ k low.
    let low_row : k < length rows = omega (arith, low, long) in
    let low_record : k < length records = omega (arith, low_row, counted, cells) in
    let row = (some_row rows k low_row).0 in
    let is = subst (λ texts. IsRecordOf n fields filled chosen texts (get_or rows k row).bytes.items) (get_or-map (row_of fields) records k [] [] low_record) (made.each k row (omega (arith, low_row, counted))) in
    get_or-map (λ (row : Row). row.bytes.items) rows k row [] low_row
    ∙ unloaded_loaded n fields filled chosen (get_or records k []) (get_or rows k row).bytes.items lie (all.long k [] low_record) all.covered (all.shown k [] low_record) (all.written k [] low_record) is)

head_is : (a b : List (List ℕ)) (more rest : List (List (List ℕ))) → a ∷ more ≡ b ∷ rest → (a ≡ b) × (more ≡ rest)
head_is a b more rest h = (cc, cc)

pub unloaded_again : (order : Order) (records : List (List ℕ)) (text : List ℕ) (old new : List (List ℕ)) → order.appends ≡ false → AreToldApart order.layout.now.fields.items → SayAll order.layout.now.record_length order.layout.now.fields.items records
    → ReadsAsTable text order.delimiter order.layout.now.fields.items records → IsLoaded order (Some text) old new → HasRecordsAgain order records new
unloaded_again order records text old new anew apart all reads is =
    let fields = order.layout.now.fields.items in
    let n = order.layout.now.record_length in
    let table = is.table text refl in
    let columns = table.columns.fields.items in
    let filled = table.columns.filled.items in
    let chosen = order.chosen.now in
    let both = head_is table.heading (heading fields) table.are_rows.cells (map (row_of fields) records)
    (one_table (table_config order.delimiter) st.StartRecord (strip_bom text) (table.heading ∷ table.are_rows.cells) (heading fields ∷ map (row_of fields) records) table.are_rows.are_records reads) in
    let named : AreNamed fields (heading fields) (length (heading fields)) columns = subst (λ cells. AreNamed fields cells (length cells) columns) both.0 table.named.named in
    let whole : columns ≡ fields = all_columns fields columns apart named in
    let made : AreRecordsOf n fields filled chosen (map (row_of fields) records) table.made =
    subst (λ cells. AreRecordsOf n fields filled chosen cells table.made) both.1 (subst (λ cs. AreRecordsOf n cs filled chosen table.are_rows.cells table.made) whole table.are_rows.made) in
    let back : records_of table.made ≡ records = records_again n fields filled chosen records table.made order.layout.now.within all made in
    record {
      label = is.filled.label;
      file = loaded_file order (records_of is.rows) is.header old new is.filled;
      unloaded = subst (AreUnloaded order is.filled.label new) back (loaded_as order text old new anew is);
    }

-- ---- what is written
pub written_reads : (fields : List Field) (records : List (List ℕ)) → fields ≢ [] → ReadsAsTable (table_text comma fields records) comma fields records
written_reads [] records some = absurd (some refl)
written_reads (field ∷ fields) records some =
    subst (λ text. AreRecords (table_config comma) st.StartRecord text (heading (field ∷ fields) ∷ map (row_of (field ∷ fields)) records)) (sym (table_unmarked field fields records)) (table_reads field fields records)
