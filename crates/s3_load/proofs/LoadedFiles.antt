-- Files that tables were loaded into.
use Rattle.std.proofs.Common.{◌≡◌, ℕ, ◌<◌, refl, arith, sym, ◌∙◌, ap, subst, inl, inr, true, false, List, [], ◌++◌, length, get_or, eqb-true}
use Rattle.std.specs.Prelude.{None, Option, Some, IsPermutation, ◌==◌}
use Rattle.std.specs.Cmp.Lexicographic.{slice_cmp}
use Rattle.std.specs.Ordering.{nat_cmp}
use Rattle.std.specs.declared.cmp.Ordering.TheVariants.{Less}
use Rattle.std.proofs.lemmas.Bool.{and_parts}
use Rattle.std.proofs.lemmas.List.Sorted.{All-permutation, IsPermutation-map}
use Rattle.s3_lines.specs.declared.sheet.KeyField.{KeyField}
use Rattle.std.specs.List.{All}
use Rattle.std.proofs.lemmas.List.{get_or-map, length-map}
use Rattle.std.proofs.lemmas.Option.{slice_get_cases}
use Rattle.s3_slots.specs.Labels.{is_indexed}
use Rattle.s3_slots.specs.declared.header.Header.{Header}
use Rattle.s3_slots.specs.declared.label.FileLabel.{FileLabel}
use Rattle.s3_slots.specs.declared.label.Organization.{Organization}
use Rattle.s3_slots.specs.declared.label.Organization.TheVariants.{Direct, Indexed, Sequential}
use Rattle.s3_cells.specs.Inner.Fields.{LiesIn}
use Rattle.s3_cells.specs.declared.field.Field.{Field}
use Rattle.s3_keyed.specs.Index.{layout_of}
use Rattle.s3_unload.specs.Inner.Ordered.{by_key, in_order, ordered}
use Rattle.s3_unload.proofs.Opening.{ordered_keyed, ordered_plain}
use Rattle.s3_record_types.specs.declared.chosen.ChosenRecords.{ChosenRecords}
use Rattle.s3_load.specs.declared.order.Order.{Order}
use Rattle.s3_load.specs.declared.rows.Row.{Row}
use Rattle.s3_load.specs.Inner.Filling.{records_of}
use Rattle.s3_load.specs.Inner.KeyOrder.{AreInKeyOrder, key_in}
use Rattle.s3_load.specs.Inner.Loaded.{HasFile, IsLoaded, has_key_by, records_before}
use Rattle.s3_load.specs.Inner.Tables.{AreRecordsOf}
use Rattle.s3_load.proofs.RecordLemmas.{named_lie}
use Rattle.s3_load.proofs.RowLaws.{loaded_shown, loaded_values}
use Rattle.s3_load.proofs.Bytes.{AreBytes, record_bytes}
use Rattle.s3_load.proofs.KeyedAlike.{as_they_stood}
use Rattle.s3_load.proofs.KeyOrders.{in_place, numbers_ascend}
use Rattle.s3_load.specs.Inner.RoundTrip.{AreByKey, AreUnloaded, HasFileAsked, ShowRows, ShowsRow, UnloadsTable}

-- ---- records of rows
pub some_row : (rows : List Row) (k : ℕ) → k < length rows → (row : Row) × (get_or rows k row ≡ row)
some_row rows k low = elim (slice_get_cases rows k).1 [ inl there ↦ (there.0, there.3) | inr past ↦ absurd (omega (arith, low, past.0)) ]

pub records_show : (n : ℕ) (columns filled : List Field) (chosen : ChosenRecords) (cells : List (List (List ℕ))) (rows : List Row) → All (LiesIn n) columns → AreRecordsOf n columns filled chosen cells rows → ShowRows columns cells (records_of rows)
records_show n columns filled chosen cells rows lie made = record {
  counted = length-map rows (λ (row : Row). row.bytes.items) ∙ made.counted;
  each = λ k low. shows k low;
}
  where
    shows : (k : ℕ) → k < length cells → ShowsRow columns (get_or cells k []) (get_or (records_of rows) k [])
    shows k low =
        let counted = made.counted in
        let row = (some_row rows k (omega (arith, low, counted))).0 in
        let is = made.each k row low in
        let at : get_or (records_of rows) k [] ≡ (get_or rows k row).bytes.items = get_or-map (λ (row : Row). row.bytes.items) rows k row [] (omega (arith, low, counted)) in
        subst (ShowsRow columns (get_or cells k [])) (sym at)
        (record {
          counted = is.counted;
          shown = loaded_shown n columns filled chosen (get_or cells k []) (get_or rows k row).bytes.items lie is;
          values = loaded_values n columns filled chosen (get_or cells k []) (get_or rows k row).bytes.items lie is;
        })

-- ---- a new file
in_order_unkeyed : (kind : Organization) (key_length key_start : ℕ) → has_key_by None kind key_length key_start ≡ true → is_indexed kind ≡ false
in_order_unkeyed Sequential key_length key_start h = refl
in_order_unkeyed Direct key_length key_start h = refl
in_order_unkeyed Indexed key_length key_start h = absurd cc

pub begins_empty : (order : Order) (header : Header) (contents : List (List ℕ)) → order.appends ≡ false → records_before order header contents ≡ []
begins_empty order header contents anew = rw anew refl

pub new_records : (order : Order) (added : List (List ℕ)) (header : Header) (old new : List (List ℕ)) (file : HasFile order added header old new) → order.appends ≡ false → in_order file.label new ≡ added
new_records order added header old new file anew = file.records ∙ ap (λ front. front ++ added) (begins_empty order header old anew)

-- ---- in the order of keys
pairs_of : (key : KeyField) (rows : List Row) → AreInKeyOrder (Some key) rows → AreByKey (Some key) (records_of rows)
pairs_of key rows pairs = λ i j d less within.
    let counted = length-map rows (λ (row : Row). row.bytes.items) in
    let low_j : j < length rows = omega (arith, within, counted) in
    let low_i : i < length rows = omega (arith, low_j, less) in
    let row = (some_row rows j low_j).0 in
    let before = pairs i j row less low_j in
    subst (λ b. slice_cmp nat_cmp (key_in key (get_or (records_of rows) i d)) (key_in key b) ≡ Less) (sym (get_or-map (λ (row : Row). row.bytes.items) rows j row d low_j))
    (subst (λ b. slice_cmp nat_cmp (key_in key b) (key_in key (get_or rows j row).bytes.items) ≡ Less) (sym (get_or-map (λ (row : Row). row.bytes.items) rows i row d low_i)) before)

by_keys : (key : Option KeyField) (rows : List Row) → AreInKeyOrder key rows → AreByKey key (records_of rows)
by_keys None rows pairs = tt
by_keys (Some key) rows pairs = pairs_of key rows pairs

record KeyedBy (key : KeyField) (kind : Organization) (key_length key_start : ℕ) : Type 0 where
  indexed : is_indexed kind ≡ true
  wide : key_length ≡ key.length
  starts : key_start ≡ key.start

keyed_by : (key : KeyField) (kind : Organization) (key_length key_start : ℕ) → has_key_by (Some key) kind key_length key_start ≡ true → KeyedBy key kind key_length key_start
keyed_by key Sequential key_length key_start h = absurd cc
keyed_by key Direct key_length key_start h = absurd cc
keyed_by key Indexed key_length key_start h =
    let both = and_parts (key_length == key.length) (key_start == key.start) h in
    record { indexed = refl; wide = eqb-true key_length key.length both.0; starts = eqb-true key_start key.start both.1 }

-- records of one length, of bytes
pub record AreWhole (n : ℕ) (records : List (List ℕ)) : Type 0 where
  pub long : All (λ bytes. length bytes ≡ n) records
  pub bytes : All AreBytes records

whole_records : (n : ℕ) (columns filled : List Field) (chosen : ChosenRecords) (cells : List (List (List ℕ))) (rows : List Row) → AreRecordsOf n columns filled chosen cells rows → AreWhole n (records_of rows)
whole_records n columns filled chosen cells rows made = record { long = λ k d low. (whole k d low).0; bytes = λ k d low. (whole k d low).1 }
  where
    whole : (k : ℕ) (d : List ℕ) → k < length (records_of rows) → (length (get_or (records_of rows) k d) ≡ n) × AreBytes (get_or (records_of rows) k d)
    whole k d low =
        let counted = made.counted in
        let low_row : k < length rows = omega (arith, low, length-map rows (λ (row : Row). row.bytes.items)) in
        let row = (some_row rows k low_row).0 in
        let is = made.each k row (omega (arith, low_row, counted)) in
        let at = get_or-map (λ (row : Row). row.bytes.items) rows k row d low_row in
        (ap length at ∙ is.long, subst AreBytes (sym at) (record_bytes n columns filled chosen (get_or cells k []) (get_or rows k row).bytes.items is))

ordered_as_loaded : (key : Option KeyField) (label : FileLabel) (contents : List (List ℕ)) (n : ℕ) (rows : List Row) → has_key_by key label.organization label.key_length label.key_start ≡ true → in_order label contents ≡ records_of rows
    → AreWhole n (records_of rows) → AreInKeyOrder key rows → ordered label contents ≡ records_of rows
ordered_as_loaded None label contents n rows has is whole pairs = ordered_plain label contents (in_order_unkeyed label.organization label.key_length label.key_start has) ∙ is
ordered_as_loaded (Some key) label contents n rows has is whole pairs =
    let by = keyed_by key label.organization label.key_length label.key_start has in
    let place = (layout_of label).key in
    let up = numbers_ascend key place n (records_of rows) by.starts by.wide whole.long whole.bytes (pairs_of key rows pairs) in
    ordered_keyed label contents by.indexed ∙ ap (by_key place) is ∙ in_place place (records_of rows) up

-- ---- a table that was loaded
pub loaded_file : (order : Order) (added : List (List ℕ)) (header : Header) (old new : List (List ℕ)) (file : HasFile order added header old new) → HasFileAsked order new file.label
loaded_file order added header old new file = record { header = header; mounts = file.mounts; slot = file.slot; slot_in = file.slot_in; there = file.there; asked = file.asked }

-- rows that were put into a new file, in the order of their keys if it has one
pub unloaded_rows : (order : Order) (made rows : List Row) (header : Header) (old new : List (List ℕ)) → order.appends ≡ false → (file : HasFile order (records_of rows) header old new) → IsPermutation made rows → (order.key ≡ None → rows ≡ made)
    → AreInKeyOrder order.key rows → AreWhole order.layout.now.record_length (records_of made) → AreUnloaded order file.label new (records_of made)
unloaded_rows order made rows header old new anew file moves unsorted pairs begun =
    let label = file.label in
    let n = order.layout.now.record_length in
    let moved : IsPermutation (records_of made) (records_of rows) = IsPermutation-map (λ (row : Row). row.bytes.items) made rows moves in
    let whole : AreWhole n (records_of rows) =
    record { long = All-permutation (λ bytes. length bytes ≡ n) (records_of made) (records_of rows) moved begun.long; bytes = All-permutation AreBytes (records_of made) (records_of rows) moved begun.bytes } in
    let all : ordered label new ≡ records_of rows = ordered_as_loaded order.key label new n rows file.asked.keyed (new_records order (records_of rows) header old new file anew) whole pairs in
    let same : IsPermutation (records_of made) (ordered label new) = subst (IsPermutation (records_of made)) (sym all) moved in
    let unkeyed : order.key ≡ None → ordered label new ≡ records_of made = λ none. all ∙ ap records_of (unsorted none) in
    let keyed : AreByKey order.key (ordered label new) = subst (AreByKey order.key) (sym all) (by_keys order.key rows pairs) in
    record { same = same; unkeyed = unkeyed; keyed = keyed; in_order = λ stand. as_they_stood order.key (records_of made) (ordered label new) same unkeyed keyed stand }

pub loaded_as : (order : Order) (text : List ℕ) (old new : List (List ℕ)) → order.appends ≡ false → (is : IsLoaded order (Some text) old new) → AreUnloaded order is.filled.label new (records_of (is.table text refl).made)
loaded_as order text old new anew is =
    let table = is.table text refl in
    unloaded_rows order table.made is.rows is.header old new anew is.filled table.same table.unkeyed table.keyed
    (whole_records order.layout.now.record_length table.columns.fields.items table.columns.filled.items order.chosen.now table.are_rows.cells table.made table.are_rows.made)

pub loaded_unloaded : (order : Order) (text : List ℕ) (old new : List (List ℕ)) → order.appends ≡ false → IsLoaded order (Some text) old new → UnloadsTable order text new
loaded_unloaded order text old new anew is =
    let table = is.table text refl in
    let n = order.layout.now.record_length in
    let columns = table.columns.fields.items in
    let lie = named_lie order.layout.now.fields.items table.heading n (length table.heading) columns order.layout.now.within table.named.named in
    record {
      columns = columns;
      rows = table.are_rows.cells;
      table = record { heading = table.heading; are_records = table.are_rows.are_records; named = table.named.named };
      label = is.filled.label;
      file = loaded_file order (records_of is.rows) is.header old new is.filled;
      records = records_of table.made;
      shows = records_show n columns table.columns.filled.items order.chosen.now table.are_rows.cells table.made lie table.are_rows.made;
      unloaded = loaded_as order text old new anew is;
    }
