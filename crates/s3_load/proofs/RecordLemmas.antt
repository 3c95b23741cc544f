-- Records that get the values of cells, one after another.
use Rattle.std.proofs.Common.{◌≡◌, ℕ, ◌+◌, ◌-◌, ◌<◌, ◌≤◌, ◌⊎◌, refl, arith, sym, ◌∙◌, ap, ap₂, subst, Bool, true, false, ◌||◌, ◌&&◌, not, suc, zero, nat_le, nat_lt, List, [], length, take, get_or, inl, inr}
use Rattle.std.specs.List.{All}
use Rattle.std.proofs.lemmas.List.{get_or-drop, get_or-take, get_or_default, take_all}
use Rattle.std.proofs.lemmas.List.Elements.{All-contains, All-filter, All-get_or}
use Rattle.std.proofs.lemmas.List.Folds.{list_any_more}
use Rattle.std.proofs.lemmas.List.Sums.{fold_more}
use Rattle.std.proofs.lemmas.Bool.{cases_Bool, cases_eq, ltb-false, leb-false}
use Rattle.s3_store.specs.Bytes.{part}
use Rattle.s3_store.specs.Inner.Bytes.{SameOutside, with_part}
use Rattle.s3_store.proofs.SectorParts.{length-with_part, outside-with_part, part-with_part}
use Rattle.s3_files.proofs.PartLemmas.{part-after, part-before}
use Rattle.s3_cells.specs.Inner.Fields.{IsNotTaken, LiesIn, Takes, field_bytes, zeroed}
use Rattle.s3_cells.specs.Inner.Values.{GetsValue}
use Rattle.s3_cells.specs.declared.field.Field.{Field}
use Rattle.s3_record_types.specs.Inner.Chosen.{is_chosen}
use Rattle.s3_record_types.specs.declared.chosen.ChosenRecords.{ChosenRecords}
use Rattle.s3_load.specs.Inner.Columns.{AreNamed, LieApart, has_byte, is_covered, is_inside, left_out, overlap}
use Rattle.s3_load.specs.Inner.Reasons.{HasTried, Tries}
use Rattle.s3_load.specs.Inner.Records.{HasTaken, IsRecordOf, empty_record, with_zeros}

pub field_lies : (fields : List Field) (n i : ℕ) (f : Field) → All (LiesIn n) fields → i < length fields → f ≡ get_or fields i f → LiesIn n f
field_lies fields n i f all h is = subst (LiesIn n) (sym is) (All-get_or (LiesIn n) fields i f h all)

-- ---- where the columns of a heading lie
pub named_lie : (fields : List Field) (cells : List (List ℕ)) (n count : ℕ) (columns : List Field) → All (LiesIn n) fields → AreNamed fields cells count columns → All (LiesIn n) columns
named_lie fields cells n count columns all named k d h =
    let counted = named.counted in
    All-contains (LiesIn n) fields (get_or columns k d) all (named.each k d (omega arith)).there

pub left_out_lie : (fields columns : List Field) (n : ℕ) → All (LiesIn n) fields → All (LiesIn n) (left_out columns fields)
left_out_lie fields columns n all = All-filter (λ field. not (is_covered columns field)) (LiesIn n) fields all

-- ---- a field that gets bytes, and the others
apart_ways : (one other : Field) → overlap one other ≡ false → (other.start + other.width ≤ one.start) ⊎ (one.start + one.width ≤ other.start)
apart_ways one other h = elim (cases_Bool (nat_lt one.start (other.start + other.width))) [
  | inl first ↦ elim (cases_Bool (nat_lt other.start (one.start + one.width))) [
    | inl second ↦ absurd (cc (sym (ap₂ (λ a b. a && b) first second)))
    | inr over ↦ inr (ltb-false _ _ over)
  ]
  | inr over ↦ inl (ltb-false _ _ over)
]

outside_ways : (place : ℕ) (field : Field) → has_byte place field ≡ false → (place < field.start) ⊎ (field.start + field.width ≤ place)
outside_ways place field h = elim (cases_Bool (nat_le field.start place)) [
  | inl first ↦ elim (cases_Bool (nat_lt place (field.start + field.width))) [
    | inl second ↦ absurd (cc (sym (ap₂ (λ a b. a && b) first second)))
    | inr over ↦ inr (ltb-false _ _ over)
  ]
  | inr over ↦ inl (leb-false _ _ over)
]

same_before : (at width place : ℕ) (s t : List ℕ) → place < at → SameOutside at width s t → get_or t place 0 ≡ get_or s place 0
same_before at width place s t h same = sym (get_or-take at t place 0 h) ∙ ap (λ l. get_or l place 0) same.before ∙ get_or-take at s place 0 h

same_after : (at width place : ℕ) (s t : List ℕ) → at + width ≤ place → SameOutside at width s t → get_or t place 0 ≡ get_or s place 0
same_after at width place s t h same =
    let rest : at + width + (place - (at + width)) ≡ place = omega arith in
    ap (λ i. get_or t i 0) (sym rest) ∙ sym (get_or-drop (at + width) t (place - (at + width)) 0) ∙ ap (λ l. get_or l (place - (at + width)) 0) same.after
    ∙ get_or-drop (at + width) s (place - (at + width)) 0 ∙ ap (λ i. get_or s i 0) rest

-- what a field that takes a cell has then, and what stays
pub record TakesWell (field : Field) (cell old new : List ℕ) : Type 0 where
  pub long : length new ≡ length old
  pub got : GetsValue field.kind cell field.width (field_bytes field new)
  pub outside : SameOutside field.start field.width old new

pub takes_well : (field : Field) (cell old new : List ℕ) → LiesIn (length old) field → Takes field cell old new → TakesWell field cell old new
takes_well field cell old new lies takes =
    let wide = takes.long in
    let fits : field.start + length takes.bytes ≤ length old = omega arith in
    let same : SameOutside field.start field.width old (with_part old field.start takes.bytes) =
    subst (λ n. SameOutside field.start n old (with_part old field.start takes.bytes)) wide (outside-with_part old field.start takes.bytes fits) in
    let there : part (with_part old field.start takes.bytes) field.start field.width ≡ takes.bytes =
    ap (part (with_part old field.start takes.bytes) field.start) (sym wide) ∙ part-with_part old field.start takes.bytes fits in
    record {
      long = ap length takes.new_record ∙ length-with_part old field.start takes.bytes fits;
      got = subst (λ t. GetsValue field.kind cell field.width (field_bytes field t)) (sym takes.new_record) (subst (λ b. GetsValue field.kind cell field.width b) (sym there) takes.got);
      outside = subst (λ t. SameOutside field.start field.width old t) (sym takes.new_record) same;
    }

part_kept : (one other : Field) (old new : List ℕ) → overlap one other ≡ false → SameOutside other.start other.width old new → field_bytes one new ≡ field_bytes one old
part_kept one other old new apart same = elim (apart_ways one other apart) [
  | inl after ↦ part-after other.start other.width one.start one.width old new after same
  | inr before ↦ part-before other.start other.width one.start one.width old new before same
]

byte_kept : (place : ℕ) (field : Field) (old new : List ℕ) → has_byte place field ≡ false → SameOutside field.start field.width old new → get_or new place 0 ≡ get_or old place 0
byte_kept place field old new out same = elim (outside_ways place field out) [
  | inl before ↦ same_before field.start field.width place old new before same
  | inr after ↦ same_after field.start field.width place old new after same
]

or_left : (a b : Bool) → (a || b) ≡ false → a ≡ false
or_left true b h = absurd cc
or_left false b h = refl

or_right : (a b : Bool) → (a || b) ≡ false → b ≡ false
or_right true b h = absurd cc
or_right false b h = h

-- ---- the fields of columns, one after another
pub none_taken : (columns : List Field) (cells : List (List ℕ)) (bytes : List ℕ) → HasTaken columns cells bytes 0 bytes
none_taken columns cells bytes = record { long = refl; said = λ k d h. absurd (omega arith); rest = λ place h. refl }

pub one_more_taken : (columns : List Field) (cells : List (List ℕ)) (start old new : List ℕ) (i : ℕ) (f : Field) → i < length columns → f ≡ get_or columns i f → LieApart columns → LiesIn (length old) f
    → HasTaken columns cells start i old → Takes f (get_or cells i []) old new → HasTaken columns cells start (i + 1) new
one_more_taken columns cells start old new i f h is apart lies before takes =
    let well = takes_well f (get_or cells i []) old new lies takes in
    record {
      long = well.long ∙ before.long;
      said = λ k d low. elim (cases_eq k i) [
        | inl here ↦
            let one : get_or columns k d ≡ f = ap (λ n. get_or columns n d) here ∙ get_or_default columns i d f h ∙ sym is in
            let cell : get_or cells i [] ≡ get_or cells k [] = ap (λ n. get_or cells n []) (sym here) in
            subst (λ (g : Field). GetsValue g.kind (get_or cells k []) g.width (field_bytes g new)) (sym one) (subst (λ c. GetsValue f.kind c f.width (field_bytes f new)) cell well.got)
        | inr other ↦
            let less : k < i = omega arith in
            let beside : overlap (get_or columns k d) f ≡ false = ap (overlap (get_or columns k d)) (is ∙ get_or_default columns i f d h) ∙ apart k i d less h in
            subst (λ b. GetsValue (get_or columns k d).kind (get_or cells k []) (get_or columns k d).width b) (sym (part_kept (get_or columns k d) f old new beside well.outside)) (before.said k d less)
      ];
      rest = λ place out.
          let both : (is_inside (take i columns) place || has_byte place (get_or columns i f)) ≡ false = sym (list_any_more (has_byte place) columns i f h) ∙ out in
          let last : has_byte place f ≡ false = ap (has_byte place) is ∙ or_right (is_inside (take i columns) place) (has_byte place (get_or columns i f)) both in
          byte_kept place f old new last well.outside ∙ before.rest place (or_left (is_inside (take i columns) place) (has_byte place (get_or columns i f)) both);
    }

-- ---- .. and those whose cells aren't taken
pub none_tried : (columns : List Field) (cells : List (List ℕ)) (bytes : List ℕ) → HasTried columns cells bytes 0 bytes
none_tried columns cells bytes = record { long = refl; each = λ k d h. absurd (omega arith); rest = λ place h. refl }

not_both : (field : Field) (cell bytes : List ℕ) → GetsValue field.kind cell field.width bytes → IsNotTaken field cell → ⊥
not_both field cell bytes got not_taken = let held = got.held in let refused = not_taken got.value got.said in absurd (cc (sym held ∙ refused))

one_more_taken_of : (columns : List Field) (cells : List (List ℕ)) (start old new : List ℕ) (i : ℕ) (f : Field) → i < length columns → f ≡ get_or columns i f → LieApart columns → LiesIn (length old) f
    → HasTried columns cells start i old → Takes f (get_or cells i []) old new → HasTried columns cells start (i + 1) new
one_more_taken_of columns cells start old new i f h is apart lies before takes =
    let well = takes_well f (get_or cells i []) old new lies takes in
    record {
      long = well.long ∙ before.long;
      each = λ k d low. elim (cases_eq k i) [
        | inl here ↦
            let one : get_or columns k d ≡ f = ap (λ n. get_or columns n d) here ∙ get_or_default columns i d f h ∙ sym is in
            let cell : get_or cells i [] ≡ get_or cells k [] = ap (λ n. get_or cells n []) (sym here) in
            inl (subst (λ (g : Field). GetsValue g.kind (get_or cells k []) g.width (field_bytes g new)) (sym one) (subst (λ c. GetsValue f.kind c f.width (field_bytes f new)) cell well.got))
        | inr other ↦
            let less : k < i = omega arith in
            let beside : overlap (get_or columns k d) f ≡ false = ap (overlap (get_or columns k d)) (is ∙ get_or_default columns i f d h) ∙ apart k i d less h in
            elim (before.each k d less) [
              | inl got ↦ inl (subst (λ b. GetsValue (get_or columns k d).kind (get_or cells k []) (get_or columns k d).width b) (sym (part_kept (get_or columns k d) f old new beside well.outside)) got)
              | inr refused ↦ inr refused
            ]
      ];
      rest = λ place stays. elim (cases_Bool (has_byte place f)) [
        | inl has ↦
            let refused : IsNotTaken (get_or columns i f) (get_or cells i []) = stays i f (omega arith) (ap (has_byte place) (sym is) ∙ has) in
            absurd (not_both f (get_or cells i []) (field_bytes f new) well.got (subst (λ (g : Field). IsNotTaken g (get_or cells i [])) (sym is) refused))
        | inr out ↦ byte_kept place f old new out well.outside ∙ before.rest place (λ k d low. stays k d (omega arith))
      ];
    }

one_more_refused : (columns : List Field) (cells : List (List ℕ)) (start old : List ℕ) (i : ℕ) (f : Field) → i < length columns → f ≡ get_or columns i f → HasTried columns cells start i old
    → IsNotTaken f (get_or cells i []) → HasTried columns cells start (i + 1) old
one_more_refused columns cells start old i f h is before refused = record {
  long = before.long;
  each = λ k d low. elim (cases_eq k i) [
    | inl here ↦
        let one : get_or columns k d ≡ f = ap (λ n. get_or columns n d) here ∙ get_or_default columns i d f h ∙ sym is in
        let cell : get_or cells i [] ≡ get_or cells k [] = ap (λ n. get_or cells n []) (sym here) in
        inr (subst (λ (g : Field). IsNotTaken g (get_or cells k [])) (sym one) (subst (λ c. IsNotTaken f c) cell refused))
    | inr other ↦ before.each k d (omega arith)
  ];
  rest = λ place stays. before.rest place (λ k d low. stays k d (omega arith));
}

pub one_more_tried : (columns : List Field) (cells : List (List ℕ)) (start old new : List ℕ) (i : ℕ) (f : Field) → i < length columns → f ≡ get_or columns i f → LieApart columns → LiesIn (length old) f
    → HasTried columns cells start i old → Tries f (get_or cells i []) old new → HasTried columns cells start (i + 1) new
one_more_tried columns cells start old new i f h is apart lies before tries = elim tries [
  | inl takes ↦ one_more_taken_of columns cells start old new i f h is apart lies before takes
  | inr refused ↦ subst (λ bytes. HasTried columns cells start (i + 1) bytes) (sym refused.1) (one_more_refused columns cells start old i f h is before refused.0)
]

-- a reported fault stays reported
pub still_told : (old new : ℕ) → (new ≡ 0 → old ≡ 0) → 0 < old → 0 < new
still_told old zero before told = let none : old ≡ 0 = before refl in omega arith
still_told old (suc new) before told = omega arith

pub is_record : (n : ℕ) (columns filled : List Field) (chosen : ChosenRecords) (cells : List (List ℕ)) (start bytes : List ℕ) → start ≡ empty_record n filled chosen → length start ≡ n → length cells ≡ length columns
    → HasTaken columns cells start (length columns) bytes → is_chosen chosen bytes ≡ true → IsRecordOf n columns filled chosen cells bytes
is_record n columns filled chosen cells start bytes is long counted taken is_meant =
    record {
      long = taken.long ∙ long;
      counted = counted;
      said = taken.said;
      rest = λ place out.
          taken.rest place (ap (λ cs. is_inside cs place) (take_all (length columns) columns (omega arith)) ∙ out) ∙ ap (λ b. get_or b place 0) is;
      is_meant = is_meant;
    }

-- a row whose key is taken, or with a reported fault; more may be reported
pub key_or_told : (has_key : Bool) (old new : ℕ) → (has_key ≡ true) ⊎ (0 < old) → (new ≡ 0 → old ≡ 0) → (has_key ≡ true) ⊎ (0 < new)
key_or_told has_key old new (inl it) before = inl it
key_or_told has_key old new (inr told) before = inr (still_told old new before told)

-- ---- numbers that are filled
pub one_more_zero : (bytes : List ℕ) (fields : List Field) (i : ℕ) (f : Field) → i < length fields → f ≡ get_or fields i f → zeroed (with_zeros bytes (take i fields)) f ≡ with_zeros bytes (take (i + 1) fields)
one_more_zero bytes fields i f h is = sym (fold_more zeroed bytes fields i f h ∙ ap (zeroed (with_zeros bytes (take i fields))) (sym is))
