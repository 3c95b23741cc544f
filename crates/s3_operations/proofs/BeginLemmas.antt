-- The values at the start of a job: a zero or blanks in each field, the constants, and the date.
use Rattle.std.proofs.Common.{◌≡◌, ℕ, ◌+◌, ◌*◌, ◌^◌, ◌<◌, ◌≤◌, List, [], ◌∷◌, ◌++◌, true, map, take, drop, length, subst, refl, sym, ◌∙◌, ap, arith, zero, suc, get_or, inl, inr}
use Rattle.std.specs.Prelude.{ℤ, pos, unsigned_abs, Option, Some, None, is_some, replicate, slice_get, slice_index, unwrap_or, option_map, nat_lt, ◌%◌}
use Rattle.std.specs.List.{list_all}
use Rattle.std.specs.Map.{keys_of}
use Rattle.std.specs.Cmp.Lexicographic.{pointwise}
use Rattle.std.proofs.Math.Path.{fun_ext}
use Rattle.std.proofs.lemmas.Bool.{and_parts, cases_lt, true≢false}
use Rattle.std.proofs.lemmas.Bool.Decides.{nat_tests}
use Rattle.std.proofs.lemmas.List.{map-append, take_more, take_all, length-replicate, length-append, length-map, replicate-append-replicate, drop-append-le, drop_all}
use Rattle.std.proofs.lemmas.List.Sums.{prefix_len-le-length}
use Rattle.std.proofs.lemmas.Option.{slice_get-map, slice_get-get_or, slice_get_within}
use Rattle.std.proofs.lemmas.Simd.{map-map}
use Rattle.s3_decimal.specs.declared.number.Form.{Form}
use Rattle.s3_cards.specs.declared.ebcdic.TheConstants.{BLANK}
use Rattle.s3_cards.specs.declared.name.Name.{Name}
use Rattle.s3_cards.specs.Names.{same_name}
use Rattle.s3_cards.proofs.NameLemmas.{same_name-equal}
use Rattle.s3_lines.specs.declared.indicator.Indicator.{Indicator}
use Rattle.s3_lines.specs.declared.sheet.Shape.{Shape}
use Rattle.s3_lines.specs.declared.sheet.Shape.TheVariants.{Alphanumeric, Numeric}
use Rattle.s3_lines.specs.Ranges.{shape_in_range}
use Rattle.s3_lines.specs.Reserved.{page, udate, umonth, uday, uyear}
use Rattle.s3_meaning.specs.Source.{Source, shape_of, digits_of, decimals_of, reserved_shapes}
use Rattle.s3_meaning.specs.Source.{length_of as length_in_source}
use Rattle.s3_meaning.specs.Environment.{put_number, date_part, on_at_first}
use Rattle.s3_program.specs.declared.program.Program.{Program}
use Rattle.s3_program.specs.declared.program.Defined.{Defined}
use Rattle.s3_program.specs.declared.program.Reference.TheVariants.{Field as FieldSlot}
use Rattle.s3_program.specs.declared.program.Meaning.TheVariants as meaning
use Rattle.s3_program.specs.Inner.Tables.{slot_in, name_of, meaning_at}
use Rattle.s3_program.specs.Tables.{or_undefined, found_in}
use Rattle.s3_program.specs.Inner.Valid.{entry_of, named, is_shaped}
use Rattle.s3_program.specs.Inner.Stands.{parts_of, source_named}
use Rattle.s3_program.proofs.SlotLemmas.{Kept, kept, no_shape}
use Rattle.s3_program.proofs.TableLemmas.{place, slot_entry, slot_is}
use Rattle.s3_operations.specs.Inner.Fits.{tables, is_number_field, is_numeric_shape}
use Rattle.s3_operations.specs.Inner.Constants.{Constant, constants, factors_of}
use Rattle.s3_operations.specs.Inner.Indicators.{on_in}
use Rattle.s3_operations.specs.Inner.Texts.{blank_texts, length_of, text_at, texts_of}
use Rattle.s3_operations.specs.Inner.Held.{digits_and_decimals, form_in, form_in_shape, length_in, number_at, remainder_in, held, HasTexts, IsSound, Changes, Fits, behind_fields}
use Rattle.s3_operations.specs.Inner.Beginning.{IsDate, IsZeros, are_digits, are_fields_in_range, with_date, Begins}
use Rattle.s3_operations.specs.declared.values.Values.{Values}
use Rattle.s3_operations.proofs.ValueLemmas.{FieldAt, field_entry, digits_when, decimals_when, get_left, get_behind}
use Rattle.s3_operations.proofs.ConstantLemmas.{AllFit, constants_fit}

some_same : {X : Type 0} (x y : X) → Some x ≡ Some y → x ≡ y
some_same x y h = ap (λ o. unwrap_or o x) h

-- ---- zeros
pub power_some : (n : ℕ) → 0 < 10 ^ n
power_some zero = omega arith
power_some (suc n) = omega (arith, power_some n)

pub zeros_more : (fields : List (Defined Shape)) (k : ℕ) (d : Defined Shape) (zeros zeros' : List ℤ) (of of' : List Form) (form : Form) → k < length fields → IsZeros (take k fields) zeros of
    → digits_and_decimals form ≡ form_in_shape (get_or fields k d).meaning → zeros' ≡ zeros ++ pos 0 ∷ [] → of' ≡ of ++ form ∷ [] → IsZeros (take (k + 1) fields) zeros' of'
zeros_more fields k d zeros zeros' of of' form within before is more_zeros more_forms =
    let field : Defined Shape = get_or fields k d in
    let more : take (k + 1) fields ≡ take k fields ++ field ∷ [] = take_more fields k d within in
    let count : length (take k fields) + 1 ≡ length (take (k + 1) fields) = omega (arith, ap length more, length-append (take k fields) (field ∷ [])) in
    record {
      numbers =
          more_zeros
          ∙ (ap (λ zs. zs ++ pos 0 ∷ []) before.numbers ∙ (replicate-append-replicate (length (take k fields)) 1 (pos 0) ∙ ap (λ n. replicate n (pos 0)) count));
      forms =
          ap (map digits_and_decimals) more_forms
          ∙ (map-append digits_and_decimals of (form ∷ [])
          ∙ ((λ i. before.forms i ++ is i ∷ [])
          ∙ (sym (map-append (λ (f : Defined Shape). form_in_shape f.meaning) (take k fields) (field ∷ [])) ∙ ap (map (λ (f : Defined Shape). form_in_shape f.meaning)) (sym more))));
    }

pub zeros_all : (fields : List (Defined Shape)) (k : ℕ) (zeros : List ℤ) (of : List Form) → length fields ≤ k → IsZeros (take k fields) zeros of → IsZeros fields zeros of
zeros_all fields k zeros of past before =
    let all : take k fields ≡ fields = take_all k fields past in
    record { numbers = before.numbers ∙ ap (λ (fs : List (Defined Shape)). replicate (length fs) (pos 0)) all; forms = before.forms ∙ ap (map (λ (f : Defined Shape). form_in_shape f.meaning)) all }

-- the numbers of all fields, and the number after them, are zero
zero_at : (n k : ℕ) (rest : List ℤ) → k ≤ n → number_at (replicate n (pos 0) ++ pos 0 ∷ rest) k ≡ pos 0
zero_at zero zero rest within = refl
zero_at zero (suc k) rest within = absurd (omega (arith, within))
zero_at (suc n) zero rest within = refl
zero_at (suc n) (suc k) rest within = zero_at n k rest (omega (arith, within))

-- ---- all numbers fit
zeros_fit : (n : ℕ) (forms : List (ℕ × ℕ)) → AllFit (replicate n (pos 0)) forms
zeros_fit zero forms = tt
zeros_fit (suc n) [] = tt
zeros_fit (suc n) (form ∷ forms) = (power_some form.0, zeros_fit n forms)

both_fit : (ns ms : List ℤ) (fs gs : List (ℕ × ℕ)) → length ns ≡ length fs → AllFit ns fs → AllFit ms gs → AllFit (ns ++ ms) (fs ++ gs)
both_fit [] ms [] gs same first second = second
both_fit [] ms (f ∷ fs) gs same first second = absurd (omega (arith, same))
both_fit (n ∷ ns) ms [] gs same first second = absurd (omega (arith, same))
both_fit (n ∷ ns) ms (f ∷ fs) gs same first second = (first.0, both_fit ns ms fs gs (omega (arith, same)) first.1 second)

fit_more : (n : ℤ) (ns : List ℤ) (f : Form) (fs : List Form) → unsigned_abs n < 10 ^ f.digits → Fits ns fs → Fits (n ∷ ns) (f ∷ fs)
fit_more n ns f fs first rest = λ slot. at slot
  where
    at : (slot : ℕ) (form : Form) → slice_get (f ∷ fs) slot ≡ Some form → unsigned_abs (number_at (n ∷ ns) slot) < 10 ^ form.digits
    at zero form there = let of : Form → Type 0 = λ x. unsigned_abs n < 10 ^ x.digits in subst of (some_same f form there) first
    at (suc slot) form there = rest slot form there

fit_at : (numbers : List ℤ) (forms : List Form) → AllFit numbers (map digits_and_decimals forms) → Fits numbers forms
fit_at [] forms all = λ slot form there. power_some form.digits
fit_at (n ∷ ns) [] all = λ slot form there. cc
fit_at (n ∷ ns) (f ∷ fs) all = fit_more n ns f fs all.0 (fit_at ns fs all.1)

pub range_at : (fields : List (Defined Shape)) (k : ℕ) (d : Defined Shape) → are_fields_in_range fields ≡ true → k < length fields → shape_in_range (get_or fields k d).meaning ≡ true
range_at [] k d all within = absurd (omega (arith, within))
range_at (f ∷ fs) zero d all within = (and_parts (shape_in_range f.meaning) (are_fields_in_range fs) all).0
range_at (f ∷ fs) (suc k) d all within = range_at fs k d (and_parts (shape_in_range f.meaning) (are_fields_in_range fs) all).1 (omega (arith, within))

-- ---- every field is in range
pub fields_in_range : (p : Program) → are_fields_in_range p.fields.items ≡ true
fields_in_range p = all p.fields.items (kept (parts_of p) p.valid).shaped
  where
    all : (fields : List (Defined Shape)) → list_all (is_shaped (source_named p)) (map entry_of fields) ≡ true → are_fields_in_range fields ≡ true
    all [] h = refl
    all (f ∷ fs) h =
        let parts = and_parts (is_shaped (source_named p) (entry_of f)) (list_all (is_shaped (source_named p)) (map entry_of fs)) h in
        rw ((and_parts (shape_in_range f.meaning) _ parts.0).0, all fs parts.1) refl

-- ---- the reserved fields
key_at : (keys names : List Name) (n k : ℕ) (name : Name) → pointwise same_name (take n keys) names ≡ true → slice_get names k ≡ Some name → slice_get keys k ≡ Some name
key_at keys [] n k name same there = cc
key_at [] (m ∷ ms) zero k name same there = absurd (true≢false (sym same))
key_at [] (m ∷ ms) (suc n) k name same there = absurd (true≢false (sym same))
key_at (x ∷ xs) (m ∷ ms) zero k name same there = absurd (true≢false (sym same))
key_at (x ∷ xs) (m ∷ ms) (suc n) zero name same there = ap (λ y. Some y) (same_name-equal x m (and_parts (same_name x m) (pointwise same_name (take n xs) ms) same).0) ∙ there
key_at (x ∷ xs) (m ∷ ms) (suc n) (suc k) name same there = key_at xs ms n k name (and_parts (same_name x m) (pointwise same_name (take n xs) ms) same).1 there

entry_at : (fields : List (Name × Shape)) (k : ℕ) (name : Name) → slice_get (keys_of fields) k ≡ Some name → (shape : Shape) × (slice_get fields k ≡ Some (name, shape))
entry_at [] k name there = cc
entry_at (e ∷ es) zero name there = (e.1, λ i. Some (some_same e.0 name there i, e.1))
entry_at (e ∷ es) (suc k) name there = entry_at es k name there

pub record ReservedAt (p : Program) (slot digits : ℕ) (name : Name) : Type 0 where
  pub named : name_of (tables p) (FieldSlot slot) ≡ name
  pub number : is_number_field (Some (meaning_at (tables p) (FieldSlot slot))) ≡ true
  pub digits_is : digits_of (source_named p) (name_of (tables p) (FieldSlot slot)) ≡ digits
  pub decimals_is : decimals_of (source_named p) (name_of (tables p) (FieldSlot slot)) ≡ 0

reserved_at : (p : Program) (slot digits : ℕ) (name : Name) → slice_get (keys_of reserved_shapes) slot ≡ Some name → shape_of (source_named p) name ≡ Numeric digits 0 → ReservedAt p slot digits name
reserved_at p slot digits name there shape_is =
    let k : Kept (parts_of p) = kept (parts_of p) p.valid in
    let entry = entry_at (tables p).fields slot name (key_at (keys_of (tables p).fields) (keys_of reserved_shapes) (length reserved_shapes) slot name k.reserved there) in
    let f : FieldAt p slot name entry.0 = field_entry p slot name entry.0 p.valid entry.1 in
    record {
      named = f.named;
      number = ap (λ (o : Option (Name × Shape)). is_number_field (Some (or_undefined (λ (e : Name × Shape). meaning.Field (record { name = e.0; meaning = e.1 })) o))) entry.1 ∙ ap is_numeric_shape (sym f.shaped ∙ shape_is);
      digits_is = ap (digits_of (source_named p)) f.named ∙ digits_when (source_named p) name digits 0 shape_is;
      decimals_is = ap (decimals_of (source_named p)) f.named ∙ decimals_when (source_named p) name digits 0 shape_is;
    }

pub page_at : (p : Program) → ReservedAt p 0 4 page
unfolding named
page_at p = reserved_at p 0 4 page refl refl

pub date_at : (p : Program) → ReservedAt p 1 6 udate
unfolding named
date_at p = reserved_at p 1 6 udate refl refl

pub month_at : (p : Program) → ReservedAt p 2 2 umonth
unfolding named
month_at p = reserved_at p 2 2 umonth refl refl

pub day_at : (p : Program) → ReservedAt p 3 2 uday
unfolding named
day_at p = reserved_at p 3 2 uday refl refl

pub year_at : (p : Program) → ReservedAt p 4 2 uyear
unfolding named
year_at p = reserved_at p 4 2 uyear refl refl

-- ---- slots of names
slot_most : (table : List (Name × Shape)) (name : Name) → slot_in table name ≤ length table
slot_most table name =
    let within : place table name ≤ length (keys_of table) = prefix_len-le-length _ (keys_of table) in
    omega (arith, within, slot_is table name, length-map table (λ (e : Name × Shape). e.0))

-- a missing name has the slot after the last
missing : (table : List (Name × Shape)) (name : Name) → found_in table name ≡ None → slot_in table name ≡ length table
missing table name none = elim (cases_lt (slot_in table name) (length table)) [
  | inl below ↦
      let some = slice_get-get_or table (slot_in table name) (name, Alphanumeric 0) below in
      let nothing : slice_get table (slot_in table name) ≡ None = slot_entry table name ∙ ap (option_map (λ x. (name, x))) none in
      absurd (true≢false (ap is_some (sym some ∙ nothing)))
  | inr past ↦ omega (arith, past, slot_most table name)
]

-- ---- the whole
-- the values before the date is set
pub record AreFirst (p : Program) (switches : ℕ) (s : Values) (zeros : List ℤ) (of : List Form) : Type 0 where
  pub zero : IsZeros p.fields.items zeros of
  pub numbers : s.numbers.items ≡ zeros ++ map (λ (constant : Constant). constant.number) (constants p)
  pub forms : map digits_and_decimals s.forms.items ≡ map digits_and_decimals of ++ map (λ (constant : Constant). (constant.digits, constant.decimals)) (constants p)
  pub texts : texts_of s.texts ≡ blank_texts p.fields.items ++ map (λ (constant : Constant). constant.text) (constants p)
  pub area : HasTexts p s.texts
  pub on : (other : Indicator) → on_in s.indicators other ≡ on_at_first switches other
  pub division : s.division ≡ None

zero_forms : (p : Program) (s : Values) (switches : ℕ) (zeros : List ℤ) (of : List Form) → AreFirst p switches s zeros of
    → map digits_and_decimals s.forms.items ≡ map form_in (tables p).fields ++ map (λ (constant : Constant). (constant.digits, constant.decimals)) (constants p)
zero_forms p s switches zeros of first =
    first.forms ∙ ap (λ xs. xs ++ map (λ (constant : Constant). (constant.digits, constant.decimals)) (constants p)) (first.zero.forms ∙ sym (map-map form_in entry_of p.fields.items))

pub first_sound : (p : Program) (switches : ℕ) (s : Values) (zeros : List ℤ) (of : List Form) → AreFirst p switches s zeros of → IsSound p s
first_sound p switches s zeros of first =
    let cs : List Constant = constants p in
    let values : Constant → ℤ = λ constant. constant.number in
    let shapes : Constant → ℕ × ℕ = λ constant. (constant.digits, constant.decimals) in
    let texts : Constant → List ℕ = λ constant. constant.text in
    let forms = zero_forms p s switches zeros of first in
    let fields : length (map form_in (tables p).fields) ≡ length p.fields.items = length-map (tables p).fields form_in ∙ length-map p.fields.items entry_of in
    let count : length zeros ≡ length p.fields.items = ap length first.zero.numbers ∙ length-replicate (length p.fields.items) (pos 0) in
    let all : s.numbers.items ≡ replicate (length p.fields.items) (pos 0) ++ map values cs = first.numbers ∙ ap (λ zs. zs ++ map values cs) first.zero.numbers in
    let fitting : AllFit (replicate (length p.fields.items) (pos 0) ++ map values cs) (map form_in (tables p).fields ++ map shapes cs) =
    both_fit (replicate (length p.fields.items) (pos 0)) (map values cs) (map form_in (tables p).fields) (map shapes cs) (length-replicate (length p.fields.items) (pos 0) ∙ sym fields)
    (zeros_fit (length p.fields.items) (map form_in (tables p).fields)) (constants_fit p) in
    record {
      forms = forms;
      texts = first.area;
      count =
          omega (
            arith,
            ap length first.numbers,
            length-append zeros (map values cs),
            count,
            length-map cs values,
            sym (length-map s.forms.items digits_and_decimals),
            ap length forms,
            length-append (map form_in (tables p).fields) (map shapes cs),
            fields,
            length-map cs shapes,
          );
      fit = fit_at s.numbers.items s.forms.items (carried (sym all) (sym forms) fitting);
      numbers = ap (behind_fields p) first.numbers ∙ behind zeros (map values cs) (count ∙ sym (length-map p.fields.items entry_of));
      literals = ap (behind_fields p) first.texts ∙ behind (blank_texts p.fields.items) (map texts cs) (length-map p.fields.items (λ (f : Defined Shape). replicate (length_of f.meaning) BLANK) ∙ sym (length-map p.fields.items entry_of));
    }
  where
    carried : {ns ms : List ℤ} {fs gs : List (ℕ × ℕ)} → ns ≡ ms → fs ≡ gs → AllFit ns fs → AllFit ms gs
    carried {ns} {ms} {fs} {gs} e f all =
        let first : List ℤ → Type 0 = λ xs. AllFit xs fs in
        let second : List (ℕ × ℕ) → Type 0 = λ xs. AllFit ms xs in
        subst second f (subst first e all)

    behind : {X : Type 0} (xs ys : List X) → length xs ≡ length (tables p).fields → behind_fields p (xs ++ ys) ≡ ys
    behind xs ys same = ap (λ n. drop n (xs ++ ys)) (sym same) ∙ (drop-append-le (length xs) xs ys (omega arith) ∙ ap (λ zs. zs ++ ys) (drop_all (length xs) xs (omega arith)))

pub dated : (date : List ℕ) (p : Program) (old year day month new : Values) (y d m u : ℤ) (ny nd nm nu : Name) → ny ≡ uyear → nd ≡ uday → nm ≡ umonth → nu ≡ udate
    → y ≡ pos (date_part date 4) → d ≡ pos (date_part date 2) → m ≡ pos (date_part date 0) → u ≡ pos (date_part date 0 * 10000 + date_part date 2 * 100 + date_part date 4)
    → Changes p old year (λ source. put_number ny y) → Changes p year day (λ source. put_number nd d) → Changes p day month (λ source. put_number nm m) → Changes p month new (λ source. put_number nu u)
    → Changes p old new (λ source. with_date date)
dated date p old year day month new y d m u ny nd nm nu is_ny is_nd is_nm is_nu is_y is_d is_m is_u first second third fourth = record {
  sound = fourth.sound;
  held = λ rest.
      fourth.held rest
      ∙ (ap (put_number nu u) (third.held rest ∙ ap (put_number nm m) (second.held rest ∙ ap (put_number nd d) (first.held rest)))
      ∙ (λ i. put_number (is_nu i) (is_u i) (put_number (is_nm i) (is_m i) (put_number (is_nd i) (is_d i) (put_number (is_ny i) (is_y i) (held p old rest))))));
}

-- ---- texts by name
abbrev blank_entry : Name × Shape → List ℕ
blank_entry entry = replicate (length_in entry) BLANK

pub blank_entries : (fields : List (Defined Shape)) → blank_texts fields ≡ map blank_entry (map entry_of fields)
blank_entries [] = refl
blank_entries (f ∷ fs) = λ i. one f.name f.meaning i ∷ blank_entries fs i
  where
    one : (name : Name) (shape : Shape) → replicate (length_of shape) BLANK ≡ blank_entry (name, shape)
    one name (Alphanumeric size) = refl
    one name (Numeric digits decimals) = refl

length_by : (source : Source) (name : Name) (shape : Shape) → shape_of source name ≡ shape → blank_entry (name, shape) ≡ replicate (length_in_source source name) BLANK
length_by source name (Alphanumeric size) h = rw h refl
length_by source name (Numeric digits decimals) h = rw h refl

-- a name without a slot has no text
blank_sizes : (p : Program) → length (blank_texts p.fields.items) ≡ length (tables p).fields
blank_sizes p = length-map p.fields.items (λ (f : Defined Shape). replicate (length_of f.meaning) BLANK) ∙ sym (length-map p.fields.items entry_of)

blank_found : (p : Program) (name : Name) (rest : List (List ℕ)) (o : Option Shape) → found_in (tables p).fields name ≡ o
    → text_at (blank_texts p.fields.items ++ [] ∷ rest) (slot_in (tables p).fields name) ≡ replicate (length_in_source (source_named p) name) BLANK
blank_found p name rest None found =
    ap (λ (o : Option (List ℕ)). unwrap_or o []) (get_behind (blank_texts p.fields.items) rest [] (slot_in (tables p).fields name) (missing (tables p).fields name found ∙ sym (blank_sizes p)))
    ∙ length_by (source_named p) name (Alphanumeric 0) (no_shape (parts_of p) name p.valid found)
blank_found p name rest (Some shape) found =
    let table : List (Name × Shape) = (tables p).fields in
    let slot : ℕ = slot_in table name in
    let there : slice_get table slot ≡ Some (name, shape) = slot_entry table name ∙ ap (option_map (λ (x : Shape). (name, x))) found in
    let within : slot < length (blank_texts p.fields.items) = omega (arith, slice_get_within table slot (name, shape) there, blank_sizes p) in
    ap (λ (o : Option (List ℕ)). unwrap_or o [])
    (get_left (blank_texts p.fields.items) ([] ∷ rest) slot within
    ∙ (ap (λ (texts : List (List ℕ)). slice_get texts slot) (blank_entries p.fields.items) ∙ (slice_get-map blank_entry table slot ∙ ap (option_map blank_entry) there)))
    ∙ length_by (source_named p) name shape (field_entry p slot name shape p.valid there).shaped

blank_held : (p : Program) (name : Name) (rest : List (List ℕ)) → text_at (blank_texts p.fields.items ++ [] ∷ rest) (slot_in (tables p).fields name) ≡ replicate (length_in_source (source_named p) name) BLANK
blank_held p name rest = blank_found p name rest (found_in (tables p).fields name) refl

-- the values of a started job, by name
pub begun : (p : Program) (switches : ℕ) (date : List ℕ) (s new : Values) (zeros : List ℤ) (of : List Form) → AreFirst p switches s zeros of → Changes p s new (λ source. with_date date) → Begins p switches date new
unfolding held
begun p switches date s new zeros of first change = record {
  sound = change.sound;
  held = λ rest.
      change.held rest ∙ (λ i. with_date date (record rest {
        numbers = fun_ext by_number i;
        texts = fun_ext by_text i;
        on = fun_ext first.on i;
        remainder = remainder_in (first.division i);
      }));
}
  where
    by_number : (name : Name) → number_at s.numbers.items (slot_in (tables p).fields name) ≡ pos 0
    by_number name =
        ap (λ (ns : List ℤ). number_at ns (slot_in (tables p).fields name)) (first.numbers ∙ ap (λ zs. zs ++ map (λ (constant : Constant). constant.number) (constants p)) first.zero.numbers)
        ∙ zero_at (length p.fields.items) (slot_in (tables p).fields name) (map (λ (constant : Constant). constant.number) (factors_of p.calculations.items))
        (omega (arith, slot_most (tables p).fields name, length-map p.fields.items entry_of))

    by_text : (name : Name) → text_at (texts_of s.texts) (slot_in (tables p).fields name) ≡ replicate (length_in_source (source_named p) name) BLANK
    by_text name =
        ap (λ (ts : List (List ℕ)). text_at ts (slot_in (tables p).fields name)) first.texts
        ∙ blank_held p name (map (λ (constant : Constant). constant.text) (factors_of p.calculations.items))

-- ---- six digits are a date
digit_at : (date : List ℕ) (k : ℕ) → are_digits date ≡ true → slice_index date k % 16 < 10
digit_at [] k all = omega arith
digit_at (byte ∷ bytes) zero all = below (byte % 16) (and_parts (nat_lt (byte % 16) 10) (are_digits bytes) all).0
  where
    below : (n : ℕ) → nat_lt n 10 ≡ true → n < 10
    below n h = grind (arith, nat_tests, h)
digit_at (byte ∷ bytes) (suc k) all = digit_at bytes k (and_parts (nat_lt (byte % 16) 10) (are_digits bytes) all).1

pub date_of_digits : (date : List ℕ) → are_digits date ≡ true → IsDate date
date_of_digits date all = record { month = part 0; day = part 2; year = part 4 }
  where
    two : (a b : ℕ) → a < 10 → b < 10 → a * 10 + b < 100
    two a b above below = omega (arith, above, below)

    part : (k : ℕ) → date_part date k < 100
    part k = two (slice_index date k % 16) (slice_index date (k + 1) % 16) (digit_at date k all) (digit_at date (k + 1) all)
