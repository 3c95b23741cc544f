-- Records that are looked for by their keys.
use Rattle.std.proofs.Common.{◌≡◌, ◌≢◌, ℕ, ◌+◌, ◌-◌, ◌<◌, ◌≤◌, ◌&&◌, ◌==◌, refl, arith, sym, ◌∙◌, ap, subst, true, List, [], length, take, drop, inl, inr}
use Rattle.std.specs.Prelude.{Option, Some, find, slice_get, nat_le}
use Rattle.std.proofs.lemmas.List.{take_all}
use Rattle.std.proofs.lemmas.Bool.{and_parts, cases_eq, eqb-true, leb-true}
use Rattle.s3_slots.specs.Inner.Kept.{IsOfPack}
use Rattle.s3_slots.specs.Slots.{is_key_of}
use Rattle.s3_slots.specs.declared.label.FileLabel.{FileLabel}
use Rattle.s3_slots.specs.declared.label.Organization.{Organization}
use Rattle.s3_slots.specs.declared.label.Organization.TheVariants.{Sequential, Indexed, Direct}
use Rattle.s3_slots.proofs.Keeping.{formed_parts}
use Rattle.s3_cells.specs.Inner.Fields.{LiesIn, Takes, field_bytes}
use Rattle.s3_cells.specs.Inner.Values.{GetsValue}
use Rattle.s3_cells.specs.declared.field.Field.{Field}
use Rattle.s3_load.proofs.RecordLemmas.{takes_well}
use Rattle.s3_amend.specs.Inner.Meant.{IsFirstOf, IsFirstWith, IsKeyBy, is_key, key_of}

-- the key of a file's records lies in them
ends_within : (o : Organization) (r k s : ℕ) → is_key_of o r k s ≡ true → s - 1 + k ≤ r
ends_within Sequential r k s h = let e = and_parts (k == 0) (s == 0) h in omega (arith, eqb-true k 0 e.0, eqb-true s 0 e.1)
ends_within Direct r k s h = let e = and_parts (k == 0) (s == 0) h in omega (arith, eqb-true k 0 e.0, eqb-true s 0 e.1)
ends_within Indexed r k s h =
    let end = and_parts (nat_le 1 k && nat_le k 29 && nat_le 1 s) (nat_le (s + k) (r + 1)) h in
    let start = and_parts (nat_le 1 k && nat_le k 29) (nat_le 1 s) end.0 in
    omega (arith, leb-true (s + k) (r + 1) end.1, leb-true 1 s start.1)

pub key_within : (sectors : ℕ) (label : FileLabel) → IsOfPack sectors label → label.key_start - 1 + label.key_length ≤ label.record_length
key_within sectors label is = ends_within label.organization label.record_length label.key_length label.key_start (formed_parts is.region label is.formed).key

-- none of the first so many records has the key
pub record NoneHas (label : FileLabel) (key : List ℕ) (records : List (List ℕ)) (count : ℕ) : Type 0 where
  pub none : (k : ℕ) (bytes : List ℕ) → k < count → slice_get records k ≡ Some bytes → key_of label bytes ≢ key

pub none_before : (label : FileLabel) (key : List ℕ) (records : List (List ℕ)) → NoneHas label key records 0
none_before label key records = record { none = λ k bytes h got. absurd (omega arith) }

same_bytes : (records : List (List ℕ)) (k place : ℕ) (one other : List ℕ) → k ≡ place → slice_get records k ≡ Some one → slice_get records place ≡ Some other → one ≡ other
same_bytes records k place one other here first second = cc

pub one_more_before : (label : FileLabel) (key : List ℕ) (records : List (List ℕ)) (place : ℕ) (bytes : List ℕ) → NoneHas label key records place → slice_get records place ≡ Some bytes → key_of label bytes ≢ key → NoneHas label key records (place + 1)
one_more_before label key records place bytes before there other = record {
  none = λ k one h got. elim (cases_eq k place) [
    | inl here ↦ subst (λ b. key_of label b ≢ key) (sym (same_bytes records k place one bytes here got there)) other
    | inr apart ↦ before.none k one (omega arith) got
  ];
}

pub first_here : (label : FileLabel) (key : List ℕ) (records : List (List ℕ)) (place : ℕ) (bytes : List ℕ) → NoneHas label key records place → slice_get records place ≡ Some bytes → key_of label bytes ≡ key → IsFirstOf label key records place
first_here label key records place bytes before there is = record {
  has = λ one got. subst (λ b. key_of label b ≡ key) (sym (same_bytes records place place one bytes refl got there)) is;
  first = before.none;
}

pub first_with : (fields : List Field) (label : FileLabel) (text key : List ℕ) (records : List (List ℕ)) (place : ℕ) → IsKeyBy (find (is_key label) fields) label text key → IsFirstOf label key records place → IsFirstWith fields label text records place
first_with fields label text key records place said found = record { key = key; said = said; found = found }

-- bytes that a field has all of
pub value_got : (field : Field) (text old new : List ℕ) → field.start ≡ 0 → length old ≡ field.width → Takes field text old new → GetsValue field.kind text field.width new
value_got field text old new first long takes =
    let lies : LiesIn (length old) field = omega (arith, first, long) in
    let well = takes_well field text old new lies takes in
    let all : field_bytes field new ≡ new = ap (λ n. take field.width (drop n new)) first ∙ take_all field.width new (omega (arith, well.long, long)) in
    subst (λ b. GetsValue field.kind text field.width b) all well.got
