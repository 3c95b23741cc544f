-- What loading and unloading make of each other's records.
use Rattle.std.proofs.Common.{◌≡◌, ℕ, ◌+◌, ◌-◌, ◌<◌, ◌≤◌, refl, arith, sym, ◌∙◌, ap, ap₂, subst, Bool, true, ◌&&◌, List, [], ◌∷◌, length, suc, zero, drop, get_or, nat_le, nat_lt}
use Rattle.std.specs.Prelude.{Some}
use Rattle.std.specs.List.{All, list_all}
use Rattle.std.proofs.lemmas.List.{ext_get_or, get_or-drop, get_or-map, get_or-take}
use Rattle.std.proofs.lemmas.List.Folds.{Any-from_list_any}
use Rattle.std.proofs.lemmas.Bool.{and_parts, leb-true, ltb-true}
use Rattle.s3_store.specs.Bytes.{part}
use Rattle.s3_files.proofs.PartLemmas.{length-part}
use Rattle.s3_cells.specs.Inner.Fields.{LiesIn, cell_of, field_bytes, is_shown}
use Rattle.s3_cells.specs.Inner.Values.{GetsValue, IsAsWritten, IsTidy, Value, bytes_of, cell_text, is_kind_of, is_shown_in, value_in, value_read}
use Rattle.s3_cells.specs.declared.field.Field.{Field}
use Rattle.s3_cells.specs.declared.kind.FieldKind.{FieldKind}
use Rattle.s3_cells.specs.declared.kind.FieldKind.TheVariants.{Text as TextKind, Zoned, Packed, Date}
use Rattle.s3_cells.proofs.CellLaws.{cell_back, read_tidy, shown_again, shown_held, taken_back, taken_shown}
use Rattle.s3_cells.proofs.DateLaws.{date_in_tidy}
use Rattle.s3_cells.proofs.TextLemmas.{trimmed_twice}
use Rattle.s3_unload.specs.Inner.Tables.{are_shown, row_of}
use Rattle.s3_record_types.specs.declared.chosen.ChosenRecords.{ChosenRecords}
use Rattle.s3_load.specs.Inner.Columns.{has_byte, is_inside}
use Rattle.s3_load.specs.Inner.Records.{AreAsWritten, IsRecordOf}

-- ---- loaded, then unloaded
value_back : (kind : FieldKind) (width : ℕ) (cell bytes : List ℕ) → is_kind_of kind width ≡ true → GetsValue kind cell width bytes → value_read kind cell ≡ Some (value_in kind bytes)
value_back kind width cell bytes k got =
    got.said ∙ ap Some (sym (ap (value_in kind) got.written ∙ taken_back kind width got.value k got.held (read_tidy kind cell got.value got.said)))

value_shown : (kind : FieldKind) (width : ℕ) (cell bytes : List ℕ) → is_kind_of kind width ≡ true → GetsValue kind cell width bytes → is_shown_in kind bytes ≡ true
value_shown kind width cell bytes k got = ap (is_shown_in kind) got.written ∙ taken_shown kind width got.value k got.held

all_by_index : (p : Field → Bool) (xs : List Field) → ((k : ℕ) (d : Field) → k < length xs → p (get_or xs k d) ≡ true) → list_all p xs ≡ true
all_by_index p [] h = refl
all_by_index p (x ∷ xs) h = ap₂ (λ a b. a && b) (h 0 x (omega arith)) (all_by_index p xs (λ k d low. h (suc k) d (omega arith)))

pub loaded_shown : (record_length : ℕ) (columns filled : List Field) (chosen : ChosenRecords) (cells : List (List ℕ)) (bytes : List ℕ) → All (LiesIn record_length) columns → IsRecordOf record_length columns filled chosen cells bytes → are_shown columns bytes ≡ true
loaded_shown n columns filled chosen cells bytes lie is =
    all_by_index (λ field. is_shown field bytes) columns (λ k d low. value_shown (get_or columns k d).kind (get_or columns k d).width (get_or cells k []) (field_bytes (get_or columns k d) bytes) (get_or columns k d).suits (is.said k d low))

pub loaded_values : (record_length : ℕ) (columns filled : List Field) (chosen : ChosenRecords) (cells : List (List ℕ)) (bytes : List ℕ) → All (LiesIn record_length) columns → IsRecordOf record_length columns filled chosen cells bytes → (k : ℕ) (d : Field) → k < length columns
    → value_read (get_or columns k d).kind (get_or cells k []) ≡ Some (value_in (get_or columns k d).kind (field_bytes (get_or columns k d) bytes))
loaded_values n columns filled chosen cells bytes lie is k d low =
    value_back (get_or columns k d).kind (get_or columns k d).width (get_or cells k []) (field_bytes (get_or columns k d) bytes) (get_or columns k d).suits (is.said k d low)

-- ---- unloaded, then loaded
tidy_in : (kind : FieldKind) (bytes : List ℕ) → is_shown_in kind bytes ≡ true → IsTidy (value_in kind bytes)
tidy_in (TextKind cells) bytes h = trimmed_twice _
tidy_in (Zoned d cells) bytes h = tt
tidy_in (Packed d cells) bytes h = tt
tidy_in (Date form) bytes h = date_in_tidy form bytes h

some_same : (a b : Value) → Some a ≡ Some b → a ≡ b
some_same a b h = cc

bytes_back : (kind : FieldKind) (width : ℕ) (old new : List ℕ) → length old ≡ width → is_kind_of kind width ≡ true → is_shown_in kind old ≡ true → IsAsWritten kind old → GetsValue kind (cell_text kind (value_in kind old)) width new → new ≡ old
bytes_back kind width old new long k shown written got =
    let kl : is_kind_of kind (length old) ≡ true = ap (is_kind_of kind) long ∙ k in
    let cell : value_read kind (cell_text kind (value_in kind old)) ≡ Some (value_in kind old) = cell_back kind (length old) (value_in kind old) kl (shown_held kind old kl shown) (tidy_in kind old shown) in
    let same : got.value ≡ value_in kind old = some_same got.value (value_in kind old) (sym got.said ∙ cell) in
    got.written ∙ ap (bytes_of kind width) same ∙ ap (λ w. bytes_of kind w (value_in kind old)) (sym long) ∙ shown_again kind old kl shown written

shown_at : (columns : List Field) (bytes : List ℕ) (k : ℕ) (d : Field) → k < length columns → are_shown columns bytes ≡ true → is_shown (get_or columns k d) bytes ≡ true
shown_at [] bytes k d low h = absurd (omega arith)
shown_at (x ∷ xs) bytes zero d low h = (and_parts (is_shown x bytes) (are_shown xs bytes) h).0
shown_at (x ∷ xs) bytes (suc k) d low h = shown_at xs bytes k d (omega arith) (and_parts (is_shown x bytes) (are_shown xs bytes) h).1

byte_in : (bytes : List ℕ) (start width place : ℕ) → start ≤ place → place < start + width → get_or (part bytes start width) (place - start) 0 ≡ get_or bytes place 0
byte_in bytes start width place low high =
    let at : start + (place - start) ≡ place = omega arith in
    get_or-take width (drop start bytes) (place - start) 0 (omega arith) ∙ get_or-drop start bytes (place - start) 0 ∙ ap (λ i. get_or bytes i 0) at

same_field : (record_length : ℕ) (columns filled : List Field) (chosen : ChosenRecords) (old new : List ℕ) → All (LiesIn record_length) columns → length old ≡ record_length → are_shown columns old ≡ true → AreAsWritten columns old
    → IsRecordOf record_length columns filled chosen (row_of columns old) new → (k : ℕ) (d : Field) → k < length columns → field_bytes (get_or columns k d) new ≡ field_bytes (get_or columns k d) old
same_field n columns filled chosen old new lie long shown written is k d low =
    let lies : LiesIn n (get_or columns k d) = lie k d low in
    let cell : get_or (row_of columns old) k [] ≡ cell_of (get_or columns k d) old = get_or-map (λ field. cell_of field old) columns k d [] low in
    let got = subst (λ c. GetsValue (get_or columns k d).kind c (get_or columns k d).width (field_bytes (get_or columns k d) new)) cell (is.said k d low) in
    let wide : length (field_bytes (get_or columns k d) old) ≡ (get_or columns k d).width = length-part (get_or columns k d).start (get_or columns k d).width old (omega arith) in
    bytes_back (get_or columns k d).kind (get_or columns k d).width (field_bytes (get_or columns k d) old) (field_bytes (get_or columns k d) new) wide (get_or columns k d).suits (shown_at columns old k d low shown) (written k d low) got

byte_same : (f : Field) (old new : List ℕ) (place : ℕ) → has_byte place f ≡ true → field_bytes f new ≡ field_bytes f old → get_or new place 0 ≡ get_or old place 0
byte_same f old new place has same =
    let both = and_parts (nat_le f.start place) (nat_lt place (f.start + f.width)) has in
    let low : f.start ≤ place = leb-true f.start place both.0 in
    let high : place < f.start + f.width = ltb-true place (f.start + f.width) both.1 in
    sym (byte_in new f.start f.width place low high) ∙ ap (λ b. get_or b (place - f.start) 0) same ∙ byte_in old f.start f.width place low high

pub unloaded_loaded : (record_length : ℕ) (columns filled : List Field) (chosen : ChosenRecords) (old new : List ℕ) → All (LiesIn record_length) columns → length old ≡ record_length → ((place : ℕ) → place < record_length → is_inside columns place ≡ true)
    → are_shown columns old ≡ true → AreAsWritten columns old → IsRecordOf record_length columns filled chosen (row_of columns old) new → new ≡ old
unloaded_loaded n columns filled chosen old new lie long covers shown written is =
    let length_is = is.long in
    ext_get_or 0 new old (omega arith) (λ place low.
    let there = Any-from_list_any (has_byte place) columns (covers place (omega arith)) in
    let f : Field = there.1 in
    let same : field_bytes (get_or columns there.0 f) new ≡ field_bytes (get_or columns there.0 f) old = same_field n columns filled chosen old new lie long shown written is there.0 f there.2 in
    byte_same f old new place there.4 (sym (ap (λ (g : Field). field_bytes g new) there.3) ∙ same ∙ ap (λ (g : Field). field_bytes g old) there.3))
