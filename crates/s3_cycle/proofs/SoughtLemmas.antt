-- The key or record number that a CHAIN seeks: a key has the file's key length, and a record number is a number.
use Rattle.std.proofs.Common.{◌≡◌, ℕ, ◌<◌, ◌≤◌, ◌==◌, ℤ, List, [], Bool, true, false, not, length, refl, sym, ap, ◌∙◌, subst, arith, inl, inr, unsigned_abs}
use Rattle.std.specs.Prelude.{Option, Some, None, is_some, slice_get, option_map, nat_le, unwrap_or}
use Rattle.std.proofs.lemmas.Bool.{and_parts, true≢false, cases_Bool}
use Rattle.std.proofs.lemmas.Bool.Decides.{nat_tests}
use Rattle.std.proofs.lemmas.Option.{slice_get_within, slice_get-get_or}
use Rattle.s3_cards.specs.declared.name.Name.{Name}
use Rattle.s3_decimal.specs.declared.number.Dec.{Dec}
use Rattle.s3_decimal.specs.Exact.{Fraction, is_negative}
use Rattle.s3_decimal.proofs.DigitsWritten.{length-zoned_bytes}
use Rattle.s3_lines.specs.declared.sheet.CalculationLine.{CalculationLine}
use Rattle.s3_lines.specs.declared.sheet.Factor.{Factor}
use Rattle.s3_lines.specs.declared.sheet.Factor.TheVariants.{Named, Number as NumberFactor, Text as TextFactor}
use Rattle.s3_lines.specs.declared.sheet.FileLine.{FileLine}
use Rattle.s3_lines.specs.declared.sheet.KeyField.{KeyField}
use Rattle.s3_lines.specs.declared.sheet.Operation.TheVariants as op
use Rattle.s3_lines.specs.declared.sheet.Shape.{Shape}
use Rattle.s3_lines.specs.declared.sheet.Shape.TheVariants.{Alphanumeric, Numeric}
use Rattle.s3_lines.specs.Inner.Ranges.{file_in_range, key_in_range}
use Rattle.s3_lines.specs.Ranges.{if_given}
use Rattle.s3_meaning.specs.Calculating.{bytes_in, is_number, zoned}
use Rattle.s3_meaning.specs.Environment.{Environment}
use Rattle.s3_program.specs.declared.program.Meaning.{Meaning}
use Rattle.s3_program.specs.declared.program.Meaning.TheVariants as meaning
use Rattle.s3_program.specs.declared.program.Program.{Program}
use Rattle.s3_program.specs.declared.program.Reference.{Reference}
use Rattle.s3_program.specs.declared.program.Reference.TheVariants.{File as FileSlot, Field as FieldSlot, Tag as TagSlot, Subroutine as SubroutineSlot}
use Rattle.s3_program.specs.Operands.{is_no_key, shape_of_factor}
use Rattle.s3_program.specs.Inner.Positions.{are_in_range}
use Rattle.s3_program.specs.Inner.Stands.{parts_of, source_named}
use Rattle.s3_program.specs.Inner.Tables.{name_of, item_in}
use Rattle.s3_program.specs.Tables.{or_undefined}
use Rattle.s3_program.proofs.SlotLemmas.{Kept, kept}
use Rattle.s3_operations.specs.declared.texts.Span.{Span}
use Rattle.s3_operations.specs.declared.values.Values.{Values}
use Rattle.s3_operations.specs.Inner.Fits.{IsLineOf, is_value, meant_factor, named_factor, named_line, tables}
use Rattle.s3_operations.specs.Inner.Held.{HasTexts, IsSound, IsSpanOf, digits_and_decimals, held, lengths_of, number_at}
use Rattle.s3_operations.specs.Inner.Texts.{Area, text_at, texts_of}
use Rattle.s3_operations.proofs.FitLemmas.{some_same}
use Rattle.s3_operations.proofs.SpanLemmas.{span_is, span_lies, span_size, spans_count, text_there}
use Rattle.s3_operations.proofs.TextLemmas.{range_length}
use Rattle.s3_operations.proofs.TextPutLemmas.{field_length}
use Rattle.s3_operations.proofs.ValueLemmas.{FieldAt, all_at, digits_when, field_entry, numeric_when, text_when}
use Rattle.s3_instructions.specs.declared.calculation.chained.Chained.{Chained}
use Rattle.s3_instructions.specs.declared.calculation.chained.Sought.{Sought as SoughtBy}
use Rattle.s3_instructions.specs.declared.calculation.chained.Sought.TheVariants as sought
use Rattle.s3_instructions.specs.Inner.Chains.{IsChained, IsSought}
use Rattle.s3_instructions.specs.Inner.Operands.{IsTextSlot}
use Rattle.s3_instructions.proofs.ChainLemmas.{Chains, chain_value, chains}
use Rattle.s3_instructions.proofs.FitLemmas.{slot_within}
use Rattle.s3_instructions.proofs.MeaningLemmas.{slot_form}
use Rattle.s3_instructions.proofs.OperandLemmas.{text_within}
use Rattle.s3_match.specs.Inner.Heads.{file_at, no_file}
use Rattle.s3_cycle.specs.declared.request.Sought.TheVariants as by
use Rattle.s3_cycle.specs.declared.stepper.Stepper.{Stepper}
use Rattle.s3_cycle.specs.Inner.Chaining.{Seeks}
use Rattle.s3_cycle.specs.Inner.Environment.{environment, others}
use Rattle.s3_cycle.specs.Inner.Going.{IsRunning, held_by, own}
use Rattle.s3_cycle.specs.Inner.Requests.{IsSoughtBy}
use Rattle.s3_cycle.proofs.ChainingLemmas.{seeks_key, seeks_number}

-- ---- the length of a key
few_of_key : (file : FileLine) (key : KeyField) → file_in_range file ≡ true → file.key ≡ Some key → key.length ≤ 29
few_of_key file key ranged is =
    let parts = and_parts _ _ (and_parts _ _ (and_parts _ _ (and_parts _ _ ranged).0).0).0 in
    let here : key_in_range file.record_length key ≡ true = sym (ap (if_given (key_in_range file.record_length)) is) ∙ parts.1 in
    at_most key.length (and_parts _ _ (and_parts _ _ (and_parts _ _ here).0).0).1
  where
    at_most : (n : ℕ) → nat_le n 29 ≡ true → n ≤ 29
    at_most n h = grind (arith, nat_tests, h)

pub key_few : (p : Program) (file : FileLine) (slot : ℕ) (key : KeyField) → slice_get p.files.items slot ≡ Some file → file.key ≡ Some key → key.length ≤ 29
unfolding are_in_range
key_few p file slot key there is =
    let keeps : Kept (parts_of p) = kept (parts_of p) p.valid in
    few_of_key file key (all_at file_in_range p.files.items slot file (and_parts _ _ (and_parts _ _ (and_parts _ _ keeps.ranged).0).0).0 there) is

same_length : (n m : ℕ) → not (not (n == m)) ≡ true → n ≡ m
same_length n m h = elim (cases_Bool (n == m)) [
  | inl is ↦ grind (arith, nat_tests, is)
  | inr other ↦ absurd (true≢false (sym h ∙ ap (λ (b : Bool). not (not b)) other))
]

-- ---- a text as long as its slot
slot_long : (p : Program) (area : Area) (slot size : ℕ) → HasTexts p area → slice_get (lengths_of p) slot ≡ Some size → length (text_at (texts_of area) slot) ≡ size
slot_long p area slot size has long = step (slice_get area.spans slot) refl
  where
    inside : slot < length area.spans
    inside = omega (arith, spans_count p area has, slice_get_within (lengths_of p) slot size long)

    step : (o : Option Span) → slice_get area.spans slot ≡ o → length (text_at (texts_of area) slot) ≡ size
    step None at = absurd (true≢false (sym (ap (λ (o : Option Span). is_some o) (sym at ∙ slice_get-get_or area.spans slot (record { from = 0; to = 0 }) inside))))
    step (Some span) at =
        let is : IsSpanOf p slot span = span_is p area slot span has at in
        let lies = span_lies p area slot span has is in
        ap (λ (xs : List ℕ). length xs) (text_there p area slot span has is) ∙ (range_length area.bytes span.from span.to lies.some lies.below ∙ span_size p slot span size is long)

text_length : (p : Program) (values : Values) (slot size : ℕ) (name : Name) (rest : Environment) → IsSound p values → FieldAt p slot name (Alphanumeric size) → length ((held p values rest).texts name) ≡ size
unfolding held
text_length p values slot size name rest sound f =
    ap (λ k. length (text_at (texts_of values.texts) k)) f.own ∙ slot_long p values.texts slot size sound.texts (field_length p slot name (Alphanumeric size) f)

zoned_length : (digits : ℕ) (value : ℤ) → length (zoned digits value) ≡ digits
zoned_length digits value = length-zoned_bytes (is_negative value) digits (unsigned_abs value)

-- ---- factor 1 of a CHAIN to a keyed file
abbrev is_key : Option KeyField → Option (Factor Meaning) → Bool
is_key key None = false
is_key key (Some one) = not (is_no_key key (shape_of_factor one))

abbrev IsKey : KeyField → Option (Factor Meaning) → Type 0
IsKey key one = is_key (Some key) one ≡ true

no_value : {X : Type 0} (known : X → Meaning) → ((x : X) → is_value (Some (Named (known x))) ≡ false) → (o : Option X) → is_value (Some (Named (or_undefined known o))) ≡ true → ⊥
no_value known never None value = true≢false (sym value)
no_value known never (Some x) value = true≢false (sym value ∙ never x)

abbrev no_literal : Option (Factor Reference) → Bool
no_literal (Some (TextFactor literal)) = false
no_literal _ = true

bytes_long : (p : Program) (values : Values) (rest : Environment) (one : Option (Factor Reference)) (key : KeyField) → IsSound p values → is_value (meant_factor p one) ≡ true → IsKey key (meant_factor p one)
    → no_literal one ≡ true → length (bytes_in (source_named p) (held p values rest) (named_factor p one)) ≡ key.length
bytes_long p values rest None key sound value fits plain = absurd (true≢false (sym value))
bytes_long p values rest (Some (NumberFactor literal)) key sound value fits plain = omega (arith, zoned_length literal.digits literal.value, same_length literal.digits key.length fits)
bytes_long p values rest (Some (TextFactor literal)) key sound value fits plain = absurd (true≢false (sym plain))
bytes_long p values rest (Some (Named (FileSlot k))) key sound value fits plain = absurd (no_value (λ x. meaning.File x) (λ x. refl) (item_in (tables p).files k) value)
bytes_long p values rest (Some (Named (TagSlot k))) key sound value fits plain = absurd (no_value (λ x. meaning.Tag x) (λ x. refl) (item_in (tables p).tags k) value)
bytes_long p values rest (Some (Named (SubroutineSlot k))) key sound value fits plain = absurd (no_value (λ x. meaning.Subroutine x) (λ x. refl) (item_in (tables p).subroutines k) value)
bytes_long p values rest (Some (Named (FieldSlot k))) key sound value fits plain = step (slice_get (tables p).fields k) refl value fits
  where
    shaped : (name : Name) (shape : Shape) → slice_get (tables p).fields k ≡ Some (name, shape) → IsKey key (Some (Named (meaning.Field (record { name = name; meaning = shape }))))
        → length (bytes_in (source_named p) (held p values rest) (Some (Named (name_of (tables p) (FieldSlot k))))) ≡ key.length
    shaped name (Alphanumeric size) at fits =
        let f : FieldAt p k name (Alphanumeric size) = field_entry p k name (Alphanumeric size) p.valid at in
        rw (f.named, text_when (source_named p) name size f.shaped) (omega (arith, text_length p values k size name rest sound f, same_length size key.length fits))
    shaped name (Numeric digits decimals) at fits =
        let f : FieldAt p k name (Numeric digits decimals) = field_entry p k name (Numeric digits decimals) p.valid at in
        rw (f.named, numeric_when (source_named p) name digits decimals f.shaped, digits_when (source_named p) name digits decimals f.shaped)
        (omega (arith, zoned_length digits ((held p values rest).numbers name), same_length digits key.length fits))

    step : (o : Option (Name × Shape)) → slice_get (tables p).fields k ≡ o
        → is_value (Some (Named (or_undefined (λ (e : Name × Shape). meaning.Field (record { name = e.0; meaning = e.1 })) o))) ≡ true
        → IsKey key (Some (Named (or_undefined (λ (e : Name × Shape). meaning.Field (record { name = e.0; meaning = e.1 })) o)))
        → length (bytes_in (source_named p) (held p values rest) (Some (Named (name_of (tables p) (FieldSlot k))))) ≡ key.length
    step None at value fits = absurd (true≢false (sym value))
    step (Some e) at value fits = shaped e.0 e.1 at fits

-- a number isn't a text literal
number_bytes_long : (p : Program) (values : Values) (rest : Environment) (one : Option (Factor Reference)) (key : KeyField) → IsSound p values → is_value (meant_factor p one) ≡ true → IsKey key (meant_factor p one)
    → is_number (source_named p) (named_factor p one) ≡ true → length (bytes_in (source_named p) (held p values rest) (named_factor p one)) ≡ key.length
number_bytes_long p values rest None key sound value fits numeric = absurd (true≢false (sym numeric))
number_bytes_long p values rest (Some (TextFactor literal)) key sound value fits numeric = absurd (true≢false (sym numeric))
number_bytes_long p values rest (Some (NumberFactor literal)) key sound value fits numeric = bytes_long p values rest (Some (NumberFactor literal)) key sound value fits refl
number_bytes_long p values rest (Some (Named name)) key sound value fits numeric = bytes_long p values rest (Some (Named name)) key sound value fits refl

-- the slot of a text factor, field or literal
slot_bytes_long : (p : Program) (values : Values) (rest : Environment) (one : Option (Factor Reference)) (slot : ℕ) (key : KeyField) → IsSound p values → is_value (meant_factor p one) ≡ true → IsKey key (meant_factor p one)
    → IsTextSlot p one slot → length (text_at (texts_of values.texts) slot) ≡ key.length
slot_bytes_long p values rest (Some (TextFactor literal)) slot key sound value fits is =
    slot_long p values.texts slot is.size sound.texts is.long ∙ (is.literal literal refl ∙ same_length literal.length key.length fits)
slot_bytes_long p values rest None slot key sound value fits is = absurd (true≢false (sym fits))
slot_bytes_long p values rest (Some (NumberFactor literal)) slot key sound value fits is =
    ap (λ (xs : List ℕ). length xs) (sym (is.means values rest sound)) ∙ bytes_long p values rest (Some (NumberFactor literal)) key sound value fits refl
slot_bytes_long p values rest (Some (Named name)) slot key sound value fits is =
    ap (λ (xs : List ℕ). length xs) (sym (is.means values rest sound)) ∙ bytes_long p values rest (Some (Named name)) key sound value fits refl

-- ---- the file of a CHAIN
abbrev slot_of : Option (Factor Reference) → ℕ
slot_of (Some (Named (FileSlot slot))) = slot
slot_of _ = 0

key_fits : (p : Program) (line : CalculationLine Reference) (chain : Chained) (key : KeyField) → IsLineOf p line op.Chain → (is : IsChained p line chain) → is.file.key ≡ Some key → IsKey key (meant_factor p line.factor1)
key_fits p line chain key of_program is keyed =
    let c : Chains p line.factor1 line.factor2 = chains p line of_program in
    let slot : c.slot ≡ chain.file = ap slot_of (sym c.names ∙ is.names) in
    let same : c.file ≡ is.file = some_same c.file is.file (sym c.there ∙ (ap (slice_get p.files.items) slot ∙ is.there)) in
    sym (ap (λ (k : Option KeyField). is_key k (meant_factor p line.factor1)) (ap (λ (f : FileLine). f.key) same ∙ keyed)) ∙ c.fits

pub file_as : (p : Program) (line : CalculationLine Reference) (chain : Chained) → (is : IsChained p line chain) → file_at p chain.file ≡ is.file
file_as p line chain is = ap (λ (o : Option FileLine). unwrap_or o no_file) is.there

-- ---- a key
record HasKey (f : FileLine) : Type 0 where
  key : KeyField
  is : f.key ≡ Some key

has_key : (f : FileLine) → is_some f.key ≡ true → HasKey f
has_key f some = step f.key refl
  where
    step : (o : Option KeyField) → f.key ≡ o → HasKey f
    step None same = absurd (true≢false (sym some ∙ ap (λ (o : Option KeyField). is_some o) same))
    step (Some key) same = record { key = key; is = same }

by_key : (c : Stepper) (line : CalculationLine Reference) (chain : Chained) (found : List ℕ) (is : IsChained c.program line chain) (key : KeyField) → is.file.key ≡ Some key → length found ≡ key.length
    → found ≡ bytes_in (own c) (held_by c) (named_factor c.program line.factor1) → Seeks c line chain.file (by.Key (record { items = found }))
by_key c line chain found is key keyed long same = record {
  by = subst (λ (k : Option KeyField). IsSoughtBy k (by.Key (record { items = found }))) (sym there) long;
  value = seeks_key (own c) (held_by c) (named_line c.program line) (file_at c.program chain.file) key found there same;
}
  where
    there : (file_at c.program chain.file).key ≡ Some key
    there = ap (λ (f : FileLine). f.key) (file_as c.program line chain is) ∙ keyed

few : (n m : ℕ) → n ≡ m → m ≤ 29 → n ≤ 29
few n m same less = omega (arith, same, less)

-- ---- a key from the text in a slot
text_sought : (c : Stepper) (line : CalculationLine Reference) (chain : Chained) (slot : ℕ) → (is : IsChained c.program line chain) → chain.sought ≡ sought.Text slot → (is_some is.file.key ≡ true) × IsTextSlot c.program line.factor1 slot
text_sought c line chain slot is same = subst (λ (s : SoughtBy). IsSought c.program line is.file.key s) same is.seeks

pub text_inside : (c : Stepper) (line : CalculationLine Reference) (chain : Chained) (slot : ℕ) → IsRunning c → IsChained c.program line chain → chain.sought ≡ sought.Text slot → slot < length c.state.values.texts.spans
text_inside c line chain slot running is same = text_within c.program c.state.values.texts line.factor1 slot running.state.values.texts (text_sought c line chain slot is same).1

text_found : (values : Values) (slot : ℕ) (text : List ℕ) → slice_get (texts_of values.texts) slot ≡ Some text → text_at (texts_of values.texts) slot ≡ text
text_found values slot text there = ap (λ (o : Option (List ℕ)). unwrap_or o []) there

text_key : (c : Stepper) (line : CalculationLine Reference) (chain : Chained) (slot : ℕ) (text : List ℕ) (key : KeyField) → IsRunning c → IsLineOf c.program line op.Chain → (is : IsChained c.program line chain)
    → chain.sought ≡ sought.Text slot → slice_get (texts_of c.state.values.texts) slot ≡ Some text → is.file.key ≡ Some key → length text ≡ key.length
text_key c line chain slot text key running of_program is same there keyed =
    ap (λ (xs : List ℕ). length xs) (sym (text_found c.state.values slot text there))
    ∙ slot_bytes_long c.program c.state.values (others c.program c.state) line.factor1 slot key running.state.values (chain_value c.program line of_program) (key_fits c.program line chain key of_program is keyed)
    (text_sought c line chain slot is same).1

pub text_few : (c : Stepper) (line : CalculationLine Reference) (chain : Chained) (slot : ℕ) (text : List ℕ) → IsRunning c → IsLineOf c.program line op.Chain → IsChained c.program line chain
    → chain.sought ≡ sought.Text slot → slice_get (texts_of c.state.values.texts) slot ≡ Some text → length text ≤ 29
text_few c line chain slot text running of_program is same there =
    let k : HasKey is.file = has_key is.file (text_sought c line chain slot is same).0 in
    few (length text) k.key.length (text_key c line chain slot text k.key running of_program is same there k.is) (key_few c.program is.file chain.file k.key is.there k.is)

pub seeks_text : (c : Stepper) (line : CalculationLine Reference) (chain : Chained) (slot : ℕ) (text found : List ℕ) → IsRunning c → IsLineOf c.program line op.Chain → IsChained c.program line chain
    → chain.sought ≡ sought.Text slot → slice_get (texts_of c.state.values.texts) slot ≡ Some text → found ≡ text → Seeks c line chain.file (by.Key (record { items = found }))
unfolding environment
seeks_text c line chain slot text found running of_program is same there found_as =
    let k : HasKey is.file = has_key is.file (text_sought c line chain slot is same).0 in
    by_key c line chain found is k.key k.is (ap (λ (xs : List ℕ). length xs) found_as ∙ text_key c line chain slot text k.key running of_program is same there k.is)
    (found_as ∙ (sym (text_found c.state.values slot text there) ∙ sym ((text_sought c line chain slot is same).1.means c.state.values (others c.program c.state) running.state.values)))

-- ---- a key from the zoned digits of the number in a slot
number_sought : (c : Stepper) (line : CalculationLine Reference) (chain : Chained) (slot : ℕ) → (is : IsChained c.program line chain) → chain.sought ≡ sought.Number slot
    → IsSought c.program line is.file.key (sought.Number slot)
number_sought c line chain slot is same = subst (λ (s : SoughtBy). IsSought c.program line is.file.key s) same is.seeks

pub number_inside : (c : Stepper) (line : CalculationLine Reference) (chain : Chained) (slot : ℕ) → IsRunning c → IsChained c.program line chain → chain.sought ≡ sought.Number slot → slot < length c.state.values.numbers.items
number_inside c line chain slot running is same =
    let it = number_sought c line chain slot is same in
    slot_within c.program c.state.values it.1.0 slot running.state.values it.1.2.form (sym it.1.1)

pub seeks_zoned : (c : Stepper) (line : CalculationLine Reference) (chain : Chained) (slot : ℕ) (number : Dec) (found : List ℕ) → IsRunning c → IsLineOf c.program line op.Chain → IsChained c.program line chain
    → chain.sought ≡ sought.Number slot → number.value ≡ number_at c.state.values.numbers.items slot → option_map digits_and_decimals (slice_get c.state.values.forms.items slot) ≡ Some (number.digits, number.decimals)
    → found ≡ zoned number.digits number.value → Seeks c line chain.file (by.Key (record { items = found }))
unfolding environment
seeks_zoned c line chain slot number found running of_program is same value form found_as =
    let it = number_sought c line chain slot is same in
    let k : HasKey is.file = has_key is.file it.0 in
    let forms : (number.digits, number.decimals) ≡ (it.1.0.digits, it.1.0.decimals) =
    some_same (number.digits, number.decimals) (it.1.0.digits, it.1.0.decimals)
    (sym form ∙ (ap (λ (n : ℕ). option_map digits_and_decimals (slice_get c.state.values.forms.items n)) (sym it.1.1) ∙ slot_form c.program c.state.values it.1.0 running.state.values it.1.2.form)) in
    let digits : number.digits ≡ it.1.0.digits = ap (λ (two : ℕ × ℕ). two.0) forms in
    let at : number.value ≡ number_at c.state.values.numbers.items it.1.0.slot = value ∙ ap (number_at c.state.values.numbers.items) (sym it.1.1) in
    let bytes : found ≡ bytes_in (own c) (held_by c) (named_factor c.program line.factor1) =
    found_as ∙ ((λ i. zoned (digits i) (at i)) ∙ sym (it.1.2.bytes c.state.values (others c.program c.state) running.state.values)) in
    by_key c line chain found is k.key k.is
    (ap (λ (xs : List ℕ). length xs) bytes ∙ number_bytes_long c.program c.state.values (others c.program c.state) line.factor1 k.key running.state.values (chain_value c.program line of_program) (key_fits c.program line chain k.key of_program is k.is) it.1.2.numeric)
    bytes

-- ---- a record number from the number in a slot
record_sought : (c : Stepper) (line : CalculationLine Reference) (chain : Chained) (slot : ℕ) → (is : IsChained c.program line chain) → chain.sought ≡ sought.RecordNumber slot
    → IsSought c.program line is.file.key (sought.RecordNumber slot)
record_sought c line chain slot is same = subst (λ (s : SoughtBy). IsSought c.program line is.file.key s) same is.seeks

pub record_inside : (c : Stepper) (line : CalculationLine Reference) (chain : Chained) (slot : ℕ) → IsRunning c → IsChained c.program line chain → chain.sought ≡ sought.RecordNumber slot → slot < length c.state.values.numbers.items
record_inside c line chain slot running is same =
    let it = record_sought c line chain slot is same in
    slot_within c.program c.state.values it.1.0 slot running.state.values it.1.2.form (sym it.1.1)

no_key : (o : Option KeyField) → is_some o ≡ false → o ≡ None
no_key None none = refl
no_key (Some key) none = absurd (true≢false none)

pub seeks_number_of : (c : Stepper) (line : CalculationLine Reference) (chain : Chained) (slot : ℕ) (number : ℤ) → IsRunning c → IsChained c.program line chain → chain.sought ≡ sought.RecordNumber slot
    → number ≡ number_at c.state.values.numbers.items slot → Seeks c line chain.file (by.RecordNumber number)
unfolding environment
seeks_number_of c line chain slot number running is same value =
    let it = record_sought c line chain slot is same in
    let there : (file_at c.program chain.file).key ≡ None = ap (λ (f : FileLine). f.key) (file_as c.program line chain is) ∙ no_key is.file.key it.0 in
    record {
      by = subst (λ (k : Option KeyField). IsSoughtBy k (by.RecordNumber number)) (sym there) tt;
      value =
          seeks_number (own c) (held_by c) (named_line c.program line) (file_at c.program chain.file) number there
          (value ∙ (ap (number_at c.state.values.numbers.items) (sym it.1.1) ∙ ap (λ (x : Fraction). x.numerator) (sym (it.1.2.means c.state.values (others c.program c.state) running.state.values))));
    }
