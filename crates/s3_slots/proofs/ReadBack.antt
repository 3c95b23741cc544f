-- A label that is written reads back.
use Rattle.std.proofs.Common.{◌≡◌, ℕ, ◌+◌, ◌^◌, ◌<◌, ◌≤◌, true, false, List, [], ◌∷◌, ◌++◌, length, drop, replicate, slice_index, Some, refl, sym, ap, ◌∙◌, subst, arith}
use Rattle.byteorder.specs.Endian.{big_number, big_bytes}
use Rattle.byteorder.specs.Numbers.{big_number-reads_back}
use Rattle.s3_cards.specs.declared.name.Name.{Name}
use Rattle.s3_cards.specs.declared.retention.Retention.{Retention}
use Rattle.s3_cards.specs.declared.retention.Retention.TheVariants.{Permanent, Scratch, Temporary}
use Rattle.s3_cards.specs.Names.{is_name}
use Rattle.s3_store.specs.Bytes.{part}
use Rattle.s3_store.specs.declared.stretch.Stretch.{Stretch}
use Rattle.s3_slots.specs.Header.{stretch_at}
use Rattle.s3_slots.specs.Inner.Labels.{label_bytes, organization_code, retention_code, extent_bytes, extent_at, IsWritable}
use Rattle.s3_slots.specs.Labels.{label_in, label_with, name_by, organization_by, retention_by, is_unused, used}
use Rattle.s3_slots.specs.declared.header.Format.TheVariants.{First, Second}
use Rattle.s3_slots.specs.declared.label.FileLabel.{FileLabel}
use Rattle.s3_slots.specs.declared.label.Organization.{Organization}
use Rattle.s3_slots.specs.declared.label.Organization.TheVariants.{Direct, Indexed, Sequential}

-- ---- lists of a known length

record IsEight (xs : List ℕ) : Type 0 where
  a : ℕ
  b : ℕ
  c : ℕ
  d : ℕ
  e : ℕ
  f : ℕ
  g : ℕ
  h : ℕ
  is : xs ≡ a ∷ b ∷ c ∷ d ∷ e ∷ f ∷ g ∷ h ∷ []

eight : (xs : List ℕ) → length xs ≡ 8 → IsEight xs
eight [] long = absurd (omega (arith, long))
eight (a ∷ []) long = absurd (omega (arith, long))
eight (a ∷ b ∷ []) long = absurd (omega (arith, long))
eight (a ∷ b ∷ c ∷ []) long = absurd (omega (arith, long))
eight (a ∷ b ∷ c ∷ d ∷ []) long = absurd (omega (arith, long))
eight (a ∷ b ∷ c ∷ d ∷ e ∷ []) long = absurd (omega (arith, long))
eight (a ∷ b ∷ c ∷ d ∷ e ∷ f ∷ []) long = absurd (omega (arith, long))
eight (a ∷ b ∷ c ∷ d ∷ e ∷ f ∷ g ∷ []) long = absurd (omega (arith, long))
eight (a ∷ b ∷ c ∷ d ∷ e ∷ f ∷ g ∷ h ∷ []) long = record { a = a; b = b; c = c; d = d; e = e; f = f; g = g; h = h; is = refl }
eight (a ∷ b ∷ c ∷ d ∷ e ∷ f ∷ g ∷ h ∷ i ∷ more) long = absurd (omega (arith, long))

record IsSix (xs : List ℕ) : Type 0 where
  a : ℕ
  b : ℕ
  c : ℕ
  d : ℕ
  e : ℕ
  f : ℕ
  is : xs ≡ a ∷ b ∷ c ∷ d ∷ e ∷ f ∷ []

six : (xs : List ℕ) → length xs ≡ 6 → IsSix xs
six [] long = absurd (omega (arith, long))
six (a ∷ []) long = absurd (omega (arith, long))
six (a ∷ b ∷ []) long = absurd (omega (arith, long))
six (a ∷ b ∷ c ∷ []) long = absurd (omega (arith, long))
six (a ∷ b ∷ c ∷ d ∷ []) long = absurd (omega (arith, long))
six (a ∷ b ∷ c ∷ d ∷ e ∷ []) long = absurd (omega (arith, long))
six (a ∷ b ∷ c ∷ d ∷ e ∷ f ∷ []) long = record { a = a; b = b; c = c; d = d; e = e; f = f; is = refl }
six (a ∷ b ∷ c ∷ d ∷ e ∷ f ∷ g ∷ more) long = absurd (omega (arith, long))

-- ---- the extents

one_used : (e x y z : Stretch) → is_unused e ≡ false → is_unused x ≡ true → is_unused y ≡ true → is_unused z ≡ true → used (e ∷ x ∷ y ∷ z ∷ []) ≡ e ∷ []
one_used e x y z a b c d = rw d (rw c (rw b (rw a refl)))

two_used : (e x y z : Stretch) → is_unused x ≡ false → is_unused y ≡ true → is_unused z ≡ true → used (e ∷ x ∷ y ∷ z ∷ []) ≡ e ∷ x ∷ []
two_used e x y z b c d = rw d (rw c (rw b refl))

three_used : (e x y z : Stretch) → is_unused y ≡ false → is_unused z ≡ true → used (e ∷ x ∷ y ∷ z ∷ []) ≡ e ∷ x ∷ y ∷ []
three_used e x y z c d = rw d (rw c refl)

four_used : (e x y z : Stretch) → is_unused z ≡ false → used (e ∷ x ∷ y ∷ z ∷ []) ≡ e ∷ x ∷ y ∷ z ∷ []
four_used e x y z d = rw d refl

all_used : (es : List Stretch) → 1 ≤ length es → length es ≤ 4 → ((i : ℕ) → i < length es → is_unused (extent_at es i) ≡ false)
    → used (extent_at es 0 ∷ extent_at es 1 ∷ extent_at es 2 ∷ extent_at es 3 ∷ []) ≡ es
all_used [] some few each = absurd (omega (arith, some))
all_used (e ∷ []) some few each = one_used e (record { start = 0; sectors = 0 }) (record { start = 0; sectors = 0 }) (record { start = 0; sectors = 0 }) (each 0 (omega arith)) refl refl refl
all_used (e ∷ x ∷ []) some few each = two_used e x (record { start = 0; sectors = 0 }) (record { start = 0; sectors = 0 }) (each 1 (omega arith)) refl refl
all_used (e ∷ x ∷ y ∷ []) some few each = three_used e x y (record { start = 0; sectors = 0 }) (each 2 (omega arith)) refl
all_used (e ∷ x ∷ y ∷ z ∷ []) some few each = four_used e x y z (each 3 (omega arith))
all_used (e ∷ x ∷ y ∷ z ∷ w ∷ more) some few each = absurd (omega (arith, few))

first_used : (es : List Stretch) → length es ≡ 1 → is_unused (extent_at es 0) ≡ false → used (extent_at es 0 ∷ []) ≡ es
first_used [] long h = absurd (omega (arith, long))
first_used (e ∷ []) long h = rw h refl
first_used (e ∷ x ∷ more) long h = absurd (omega (arith, long))

same_four : (a b c d x y z w : Stretch) → a ≡ x → b ≡ y → c ≡ z → d ≡ w → used (a ∷ b ∷ c ∷ d ∷ []) ≡ used (x ∷ y ∷ z ∷ w ∷ [])
same_four a b c d x y z w p q r s = rw (p, q, r, s) refl

same_one : (a x : Stretch) → a ≡ x → used (a ∷ []) ≡ used (x ∷ [])
same_one a x p = rw p refl

-- ---- the fields

-- the bytes of a label of these fields
abbrev bytes_of : List ℕ → Organization → Retention → (long key start : ℕ) → (e0 e1 e2 e3 : Stretch) → (capacity count : ℕ) → List ℕ → List ℕ
bytes_of codes o r long key start e0 e1 e2 e3 capacity count date =
    (1 ∷ []) ++ codes ++ (organization_code o ∷ retention_code r ∷ [])
    ++ big_bytes 2 long ++ (key ∷ []) ++ big_bytes 2 start
    ++ extent_bytes e0
    ++ big_bytes 4 capacity ++ big_bytes 4 count ++ date
    ++ extent_bytes e1 ++ extent_bytes e2 ++ extent_bytes e3
    ++ replicate 18 0

-- what is read of them
record IsRead (codes : List ℕ) (o : Organization) (r : Retention) (long key start : ℕ) (e0 e1 e2 e3 : Stretch) (capacity count : ℕ) (date bytes : List ℕ) : Type 0 where
  marked : slice_index bytes 0 ≡ 1
  named : part bytes 1 8 ≡ codes
  organization : slice_index bytes 9 ≡ organization_code o
  retention : slice_index bytes 10 ≡ retention_code r
  lengths : big_number 2 (drop 11 bytes) ≡ long
  keyed : slice_index bytes 13 ≡ key
  started : big_number 2 (drop 14 bytes) ≡ start
  first : stretch_at 16 bytes ≡ e0
  second : stretch_at 34 bytes ≡ e1
  third : stretch_at 38 bytes ≡ e2
  fourth : stretch_at 42 bytes ≡ e3
  roomed : big_number 4 (drop 20 bytes) ≡ capacity
  counted : big_number 4 (drop 24 bytes) ≡ count
  dated : part bytes 28 6 ≡ date

record IsSmall (e : Stretch) : Type 0 where
  start : e.start < 65536
  sectors : e.sectors < 65536

stretch_from : (a b : ℕ) (e : Stretch) → a ≡ e.start → b ≡ e.sectors → (record { start = a; sectors = b }) ≡ e
stretch_from a b e p q = rw (p, q) refl

two : (n : ℕ) → n < 65536 → big_number 2 (big_bytes 2 n) ≡ n
two n small = big_number-reads_back 2 n [] small

four : (n : ℕ) → n < 2 ^ 32 → big_number 4 (big_bytes 4 n) ≡ n
four n small = big_number-reads_back 4 n [] small

module _ (o : Organization) (r : Retention) (long key start : ℕ) (e0 e1 e2 e3 : Stretch) (capacity count : ℕ)
    (a : long < 65536) (b : start < 65536) (s0 : IsSmall e0) (s1 : IsSmall e1) (s2 : IsSmall e2) (s3 : IsSmall e3) (c : capacity < 2 ^ 32) (d : count < 2 ^ 32) where
  read_plain : (n1 n2 n3 n4 n5 n6 n7 n8 d1 d2 d3 d4 d5 d6 : ℕ)
      → IsRead (n1 ∷ n2 ∷ n3 ∷ n4 ∷ n5 ∷ n6 ∷ n7 ∷ n8 ∷ []) o r long key start e0 e1 e2 e3 capacity count (d1 ∷ d2 ∷ d3 ∷ d4 ∷ d5 ∷ d6 ∷ [])
      (bytes_of (n1 ∷ n2 ∷ n3 ∷ n4 ∷ n5 ∷ n6 ∷ n7 ∷ n8 ∷ []) o r long key start e0 e1 e2 e3 capacity count (d1 ∷ d2 ∷ d3 ∷ d4 ∷ d5 ∷ d6 ∷ []))
  read_plain n1 n2 n3 n4 n5 n6 n7 n8 d1 d2 d3 d4 d5 d6 = record {
    marked = refl;
    named = refl;
    organization = refl;
    retention = refl;
    lengths = two long a;
    keyed = refl;
    started = two start b;
    first = stretch_from _ _ e0 (two e0.start s0.start) (two e0.sectors s0.sectors);
    second = stretch_from _ _ e1 (two e1.start s1.start) (two e1.sectors s1.sectors);
    third = stretch_from _ _ e2 (two e2.start s2.start) (two e2.sectors s2.sectors);
    fourth = stretch_from _ _ e3 (two e3.start s3.start) (two e3.sectors s3.sectors);
    roomed = four capacity c;
    counted = four count d;
    dated = refl;
  }

  read_of : (codes date : List ℕ) → IsEight codes → IsSix date → IsRead codes o r long key start e0 e1 e2 e3 capacity count date (bytes_of codes o r long key start e0 e1 e2 e3 capacity count date)
  read_of codes date n m =
      let plain = read_plain n.a n.b n.c n.d n.e n.f n.g n.h m.a m.b m.c m.d m.e m.f in
      let named = subst (λ l. IsRead l o r long key start e0 e1 e2 e3 capacity count (m.a ∷ m.b ∷ m.c ∷ m.d ∷ m.e ∷ m.f ∷ []) (bytes_of l o r long key start e0 e1 e2 e3 capacity count (m.a ∷ m.b ∷ m.c ∷ m.d ∷ m.e ∷ m.f ∷ []))) (sym n.is) plain in
      subst (λ l. IsRead codes o r long key start e0 e1 e2 e3 capacity count l (bytes_of codes o r long key start e0 e1 e2 e3 capacity count l)) (sym m.is) named

-- ---- a label

organization_back : (o : Organization) → organization_by (organization_code o) ≡ Some o
organization_back Sequential = refl
organization_back Indexed = refl
organization_back Direct = refl

retention_back : (r : Retention) → retention_by (retention_code r) ≡ Some r
retention_back Temporary = refl
retention_back Scratch = refl
retention_back Permanent = refl

name_back : (name : Name) → is_name name.codes ≡ true → name_by name.codes ≡ Some name
name_back name is = rw is refl

-- a label of fields that are those of another
label_of : (label : FileLabel) (long key start : ℕ) (extents : List Stretch) (capacity count : ℕ) (date : List ℕ) → long ≡ label.record_length → key ≡ label.key_length → start ≡ label.key_start → extents ≡ label.extents
    → capacity ≡ label.capacity → count ≡ label.count → date ≡ label.date
    → record { name = label.name; organization = label.organization; retention = label.retention; record_length = long; key_length = key; key_start = start; extents = extents; capacity = capacity; count = count; date = date } ≡ label
label_of label long key start extents capacity count date a b c d e f g = rw (a, b, c, d, e, f, g) refl

small_at : (es : List Stretch) (i : ℕ) → ((i : ℕ) → (((extent_at es i).start < 65536) × ((extent_at es i).sectors < 65536))) → IsSmall (extent_at es i)
small_at es i each = record { start = (each i).0; sectors = (each i).1 }

read_label : (label : FileLabel) → IsWritable label
    → IsRead label.name.codes label.organization label.retention label.record_length label.key_length label.key_start (extent_at label.extents 0) (extent_at label.extents 1) (extent_at label.extents 2) (extent_at label.extents 3)
    label.capacity label.count label.date (label_bytes label)
unfolding label_bytes
read_label label is =
    read_of label.organization label.retention label.record_length label.key_length label.key_start (extent_at label.extents 0) (extent_at label.extents 1) (extent_at label.extents 2) (extent_at label.extents 3) label.capacity label.count
    is.record_length is.key_start (small_at label.extents 0 is.small) (small_at label.extents 1 is.small) (small_at label.extents 2 is.small) (small_at label.extents 3 is.small) is.capacity is.count
    label.name.codes label.date (eight label.name.codes is.codes) (six label.date is.date)

module _ (label : FileLabel) (is : IsWritable label) where
  pub reads_back : label_in Second (label_bytes label) ≡ Some label
  reads_back =
      let so = read_label label is in
      let extents : used (stretch_at 16 (label_bytes label) ∷ stretch_at 34 (label_bytes label) ∷ stretch_at 38 (label_bytes label) ∷ stretch_at 42 (label_bytes label) ∷ []) ≡ label.extents =
      same_four _ _ _ _ _ _ _ _ so.first so.second so.third so.fourth ∙ all_used label.extents is.some is.few is.used in
      ap (λ l. label_with Second (label_bytes label) (name_by l) (organization_by (slice_index (label_bytes label) 9)) (retention_by (slice_index (label_bytes label) 10))) so.named
      ∙ ap (λ name. label_with Second (label_bytes label) name (organization_by (slice_index (label_bytes label) 9)) (retention_by (slice_index (label_bytes label) 10))) (name_back label.name is.named)
      ∙ ap (λ code. label_with Second (label_bytes label) (Some label.name) (organization_by code) (retention_by (slice_index (label_bytes label) 10))) so.organization
      ∙ ap (λ o. label_with Second (label_bytes label) (Some label.name) o (retention_by (slice_index (label_bytes label) 10))) (organization_back label.organization)
      ∙ ap (λ code. label_with Second (label_bytes label) (Some label.name) (Some label.organization) (retention_by code)) so.retention
      ∙ ap (λ r. label_with Second (label_bytes label) (Some label.name) (Some label.organization) r) (retention_back label.retention)
      ∙ ap Some (label_of label _ _ _ _ _ _ _ so.lengths so.keyed so.started extents so.roomed so.counted so.dated)

  pub reads_back_first : length label.extents ≡ 1 → label_in First (label_bytes label) ≡ Some label
  reads_back_first one =
      let so = read_label label is in
      let extents : used (stretch_at 16 (label_bytes label) ∷ []) ≡ label.extents = same_one _ _ so.first ∙ first_used label.extents one (is.used 0 (omega (arith, one))) in
      ap (λ l. label_with First (label_bytes label) (name_by l) (organization_by (slice_index (label_bytes label) 9)) (retention_by (slice_index (label_bytes label) 10))) so.named
      ∙ ap (λ name. label_with First (label_bytes label) name (organization_by (slice_index (label_bytes label) 9)) (retention_by (slice_index (label_bytes label) 10))) (name_back label.name is.named)
      ∙ ap (λ code. label_with First (label_bytes label) (Some label.name) (organization_by code) (retention_by (slice_index (label_bytes label) 10))) so.organization
      ∙ ap (λ o. label_with First (label_bytes label) (Some label.name) o (retention_by (slice_index (label_bytes label) 10))) (organization_back label.organization)
      ∙ ap (λ code. label_with First (label_bytes label) (Some label.name) (Some label.organization) (retention_by code)) so.retention
      ∙ ap (λ r. label_with First (label_bytes label) (Some label.name) (Some label.organization) r) (retention_back label.retention)
      ∙ ap Some (label_of label _ _ _ _ _ _ _ so.lengths so.keyed so.started extents so.roomed so.counted so.dated)
