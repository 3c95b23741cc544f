-- What cells of numbers are taken as.
use Rattle.std.proofs.Common.{◌≡◌, ℕ, ℤ, ◌+◌, ◌-◌, ◌*◌, ◌^◌, ◌<◌, ◌≤◌, ◌∙◌, sym, ap, subst, arith, false, zero, suc, List, [], ◌∷◌, ◌++◌, length, take, drop, append_assoc, unsigned_abs}
use Rattle.std.proofs.lemmas.List.{drop_all, length-drop, length-take-le}
use Rattle.s3_cells.specs.Inner.Fields.{Takes}
use Rattle.s3_cells.specs.declared.field.Field.{Field}
use Rattle.std.specs.Prelude.{Some, Result, Ok, Err, OnOk}
use Rattle.std.specs.Option.{option_map}
use Rattle.std.proofs.lemmas.Bool.{lt-ltb}
use Rattle.s3_decimal.specs.Exact.{is_negative}
use Rattle.s3_decimal.specs.Records.{packed_bytes, zoned_bytes}
use Rattle.s3_cells.specs.Inner.Numbers.{number_read}
use Rattle.s3_cells.specs.Inner.Values.{Characters, GetsText, GetsValue, Number, SaysNone, Value, is_held, is_text_of}
use Rattle.s3_cells.specs.declared.kind.FieldKind.TheVariants.{Text as TextKind, Zoned, Packed}
use Rattle.s3_cells.specs.declared.marks.NumberCells.{NumberCells}
use Rattle.s3_cells.specs.declared.marks.TextCells.{TextCells}
use Rattle.s3_cells.specs.declared.fault.CellFault.{CellFault}
use Rattle.s3_cells.specs.declared.fault.CellFault.TheVariants.{NoNumber, TooManyDecimals, TooLarge, TooLong, NoCharacter, NoDate, NoMemory}
use Rattle.s3_cells.specs.Inner.Marks.{cased, plain_number, unguarded}
use Rattle.s3_cells.specs.Inner.Refusals.{IsRefusal}
use Rattle.s3_cells.specs.Inner.Texts.{trimmed}

pub got_zoned : (decimals width : ℕ) (cells : NumberCells) (cell bytes : List ℕ) (value : ℤ) → number_read decimals (plain_number cells cell) ≡ Some value → unsigned_abs value < 10 ^ width → bytes ≡ zoned_bytes (is_negative value) width (unsigned_abs value)
    → GetsValue (Zoned decimals cells) cell width bytes
got_zoned decimals width cells cell bytes value read small written =
    record { value = Number value; said = ap (option_map Number) read; held = lt-ltb (unsigned_abs value) (10 ^ width) small; written = written }

pub got_packed : (decimals width : ℕ) (cells : NumberCells) (cell bytes : List ℕ) (value : ℤ) → number_read decimals (plain_number cells cell) ≡ Some value → unsigned_abs value < 10 ^ (2 * width - 1) → bytes ≡ packed_bytes (is_negative value) width (unsigned_abs value)
    → GetsValue (Packed decimals cells) cell width bytes
got_packed decimals width cells cell bytes value read small written =
    record { value = Number value; said = ap (option_map Number) read; held = lt-ltb (unsigned_abs value) (10 ^ (2 * width - 1)) small; written = written }

pub got_text : (cells : TextCells) (width : ℕ) (cell text bytes : List ℕ) → text ≡ cased cells (unguarded cells cell) → GetsText (trimmed text) width bytes → GetsValue (TextKind cells) cell width bytes
got_text cells width cell text bytes is got =
    record { value = Characters (trimmed text); said = ap (λ t. Some (Characters (trimmed t))) (sym is); held = got.held; written = got.written }

some_value : (a b : Value) → Some a ≡ Some b → a ≡ b
some_value a b h = cc

no_text : (cells : TextCells) (width : ℕ) (cell text : List ℕ) → text ≡ cased cells (unguarded cells cell) → is_text_of width (trimmed text) ≡ false → SaysNone (TextKind cells) cell width
no_text cells width cell text is none = λ value said. subst (λ v. is_held (TextKind cells) width v ≡ false) (some_value (Characters (trimmed text)) value (ap (λ t. Some (Characters (trimmed t))) is ∙ said)) none

pub refused_so : {P Q : Type 0} (fault : CellFault) → (P → Q) → IsRefusal P fault → IsRefusal Q fault
refused_so NoNumber f h = f h
refused_so TooManyDecimals f h = f h
refused_so TooLarge f h = f h
refused_so TooLong f h = f h
refused_so NoCharacter f h = f h
refused_so NoDate f h = f h
refused_so NoMemory f h = tt

pub refused_text : (cells : TextCells) (width : ℕ) (cell text : List ℕ) (fault : CellFault) → text ≡ cased cells (unguarded cells cell) → IsRefusal (is_text_of width (trimmed text) ≡ false) fault → IsRefusal (SaysNone (TextKind cells) cell width) fault
refused_text cells width cell text fault is h = refused_so fault (no_text cells width cell text is) h

pub on_ok : {T E : Type 0} (r : Result T E) (P Q : Type 0) → OnOk r P → (P → Q) → OnOk r Q
on_ok (Ok v) P Q h f = f h
on_ok (Err e) P Q h f = tt

drop_more : (s k : ℕ) (xs : List ℕ) → drop k (drop s xs) ≡ drop (s + k) xs
drop_more zero k xs = let e : k ≡ zero + k = omega arith in ap (λ i. drop i xs) e
drop_more (suc s) k [] = drop_all k [] (omega arith) ∙ sym (drop_all (suc s + k) [] (omega arith))
drop_more (suc s) k (x ∷ xs) = let e : suc (s + k) ≡ suc s + k = omega arith in drop_more s k xs ∙ ap (λ i. drop i (x ∷ xs)) e

-- bytes that are written over those of a field in its record
pub takes : (field : Field) (cell bytes new : List ℕ) (s w : ℕ) → s ≡ field.start → w ≡ field.width → field.start + field.width ≤ length bytes
    → length new ≡ length (take (s + w - s) (drop s bytes)) → GetsValue field.kind cell (length (take (s + w - s) (drop s bytes))) new → Takes field cell bytes (take s bytes ++ (new ++ drop (s + w - s) (drop s bytes)))
takes field cell bytes new s w start wide fits long got =
    let room : s + w - s ≤ length (drop s bytes) = omega (arith, length-drop s bytes) in
    let all : length (take (s + w - s) (drop s bytes)) ≡ field.width = length-take-le (s + w - s) (drop s bytes) room ∙ omega arith in
    let behind : s + (s + w - s) ≡ field.start + length new = omega arith in
    let tail : drop (s + w - s) (drop s bytes) ≡ drop (field.start + length new) bytes = drop_more s (s + w - s) bytes ∙ ap (λ i. drop i bytes) behind in
    record {
      bytes = new;
      long = long ∙ all;
      got = subst (λ n. GetsValue field.kind cell n new) all got;
      new_record = ap (λ t. take s bytes ++ (new ++ t)) tail ∙ ap (λ i. take i bytes ++ (new ++ drop (field.start + length new) bytes)) start
          ∙ sym (append_assoc (take field.start bytes) new (drop (field.start + length new) bytes));
    }
