-- The values at the start of another job of the same program. The constants stay; the texts of fields come before them.
use Rattle.std.proofs.Common.{◌≡◌, ℕ, ◌+◌, ◌-◌, ◌<◌, ◌≤◌, List, [], ◌∷◌, ◌++◌, map, take, drop, length, refl, sym, ◌∙◌, ap, subst, arith, get_or, Vec}
use Rattle.std.specs.Prelude.{ℤ, pos, Some, None, sum, replicate, slice_get, slice_range, unwrap_or}
use Rattle.std.proofs.lemmas.List.{take-append-drop, take-append-le, drop-append-le, drop_all, drop-drop, drop-map, take-map, take_all, length-append, length-drop, length-take-le, length-map, length-replicate, replicate-append-replicate}
use Rattle.std.proofs.lemmas.List.Sums.{sum_by-cons}
use Rattle.std.proofs.lemmas.List.{with_items_is}
use Rattle.std.specs.Vec.{with_items}
use borrow.Rule.Slice.PartMut.{put_mid}
use Rattle.std.proofs.lemmas.Option.{slice_get-get_or}
use Rattle.std.proofs.lemmas.Simd.{map-map}
use Rattle.s3_cards.specs.declared.ebcdic.TheConstants.{BLANK}
use Rattle.s3_lines.specs.declared.indicator.Indicator.{Indicator}
use Rattle.s3_meaning.specs.Environment.{on_at_first}
use Rattle.s3_program.specs.declared.program.Program.{Program}
use Rattle.s3_program.specs.Inner.Valid.{entry_of}
use Rattle.s3_operations.specs.Inner.Fits.{tables}
use Rattle.s3_operations.specs.Inner.Constants.{Constant, constants}
use Rattle.s3_operations.specs.Inner.Indicators.{on_in}
use Rattle.s3_operations.specs.Inner.Texts.{Area, blank_texts, spans_from, text_on, texts_on, texts_of, with_part}
use Rattle.s3_operations.specs.Inner.Held.{digits_and_decimals, form_in, length_in, spans_of, HasTexts, IsSound, behind_fields}
use Rattle.s3_operations.specs.declared.texts.Span.{Span}
use Rattle.s3_operations.specs.declared.values.Values.{Values}
use Rattle.s3_operations.proofs.BeginLemmas.{AreFirst, blank_entries}
use Rattle.s3_operations.proofs.SpanLemmas.{slot_within}
use Rattle.s3_operations.proofs.ValueLemmas.{field_count}

sum_cons : (n : ℕ) (ns : List ℕ) → sum (n ∷ ns) ≡ n + sum ns
sum_cons n ns = sum_by-cons (λ x. x) n ns

some_same : {X : Type 0} (x y : X) → Some x ≡ Some y → x ≡ y
some_same x y h = ap (λ o. unwrap_or o x) h

-- ---- spans one after another
spans_behind : (at : ℕ) (ns ms : List ℕ) → drop (length ns) (spans_from at (ns ++ ms)) ≡ spans_from (at + sum ns) ms
spans_behind at [] ms = ap (λ n. spans_from n ms) (omega arith)
spans_behind at (n ∷ ns) ms = spans_behind (at + n) ns ms ∙ ap (λ k. spans_from k ms) (omega (arith, sum_cons n ns))

spans_before : (at : ℕ) (ns ms : List ℕ) → take (length ns) (spans_from at (ns ++ ms)) ≡ spans_from at ns
spans_before at [] ms = refl
spans_before at (n ∷ ns) ms = λ i. record { from = at; to = at + n } ∷ spans_before (at + n) ns ms i

span_behind : (at : ℕ) (ns : List ℕ) (m : ℕ) (ms : List ℕ) (span : Span) → slice_get (spans_from at (ns ++ m ∷ ms)) (length ns) ≡ Some span → span.from ≡ at + sum ns
span_behind at [] m ms span there =
    let first : record { from = at; to = at + m } ≡ span = some_same (record { from = at; to = at + m }) span there in
    sym (ap (λ (s : Span). s.from) first) ∙ omega arith
span_behind at (n ∷ ns) m ms span there = span_behind (at + n) ns m ms span there ∙ omega (arith, sum_cons n ns)

sum_before : (ns ms : List ℕ) → sum ns ≤ sum (ns ++ ms)
sum_before [] ms = omega arith
sum_before (n ∷ ns) ms = omega (arith, sum_cons n ns, sum_cons n (ns ++ ms), sum_before ns ms)

-- ---- the texts in an area whose first bytes are blank
blank_range : (x : ℕ) (rest : List ℕ) (end from to : ℕ) → from ≤ to → to ≤ end → slice_range (replicate end x ++ rest) from to ≡ replicate (to - from) x
blank_range x rest end from to some below =
    let whole : replicate end x ≡ replicate from x ++ (replicate (to - from) x ++ replicate (end - to) x) =
    ap (λ n. replicate n x) (omega (arith, some, below)) ∙ sym (replicate-append-replicate from (to - from + (end - to)) x)
    ∙ ap (λ xs. replicate from x ++ xs) (sym (replicate-append-replicate (to - from) (end - to) x)) in
    let first : drop from (replicate end x) ≡ replicate (to - from) x ++ replicate (end - to) x =
    ap (drop from) whole ∙ (drop-append-le from (replicate from x) _ (omega (arith, length-replicate from x)) ∙ ap (λ xs. xs ++ (replicate (to - from) x ++ replicate (end - to) x)) (drop_all from (replicate from x) (omega (arith, length-replicate from x)))) in
    ap (take (to - from)) (drop-append-le from (replicate end x) rest (omega (arith, length-replicate end x, some, below)) ∙ ap (λ xs. xs ++ rest) first)
    ∙ take-append-le (to - from) (replicate (to - from) x ++ replicate (end - to) x) rest (omega (arith, length-append (replicate (to - from) x) (replicate (end - to) x), length-replicate (to - from) x))
    ∙ take-append-le (to - from) (replicate (to - from) x) (replicate (end - to) x) (omega (arith, length-replicate (to - from) x))
    ∙ take_all (to - from) (replicate (to - from) x) (omega (arith, length-replicate (to - from) x))

blank_on : (rest : List ℕ) (end at : ℕ) (ns : List ℕ) → at + sum ns ≤ end → texts_on (spans_from at ns) (replicate end BLANK ++ rest) ≡ map (λ n. replicate n BLANK) ns
blank_on rest end at [] room = refl
blank_on rest end at (n ∷ ns) room =
    let size : at + n - at ≡ n = omega arith in
    λ i. (blank_range BLANK rest end at (at + n) (omega arith) (omega (arith, room, sum_cons n ns)) ∙ ap (λ k. replicate k BLANK) size) i
    ∷ blank_on rest end (at + n) ns (omega (arith, room, sum_cons n ns)) i

kept_range : (front bytes : List ℕ) (end from to : ℕ) → length front ≡ end → end ≤ from → slice_range (front ++ drop end bytes) from to ≡ slice_range bytes from to
kept_range front bytes end from to size past =
    let behind : drop from (front ++ drop end bytes) ≡ drop from bytes =
    ap (λ n. drop n (front ++ drop end bytes)) (omega (arith, past)) ∙ (sym (drop-drop (from - end) end (front ++ drop end bytes))
    ∙ (ap (drop (from - end)) (drop-append-le end front (drop end bytes) (omega (arith, size)) ∙ ap (λ xs. xs ++ drop end bytes) (drop_all end front (omega (arith, size))))
    ∙ (drop-drop (from - end) end bytes ∙ ap (λ n. drop n bytes) (omega (arith, past))))) in
    ap (take (to - from)) behind

kept_on : (front bytes : List ℕ) (end at : ℕ) (ms : List ℕ) → length front ≡ end → end ≤ at → texts_on (spans_from at ms) (front ++ drop end bytes) ≡ texts_on (spans_from at ms) bytes
kept_on front bytes end at [] size past = refl
kept_on front bytes end at (m ∷ ms) size past = λ i. kept_range front bytes end at (at + m) size past i ∷ kept_on front bytes end (at + m) ms size (omega (arith, past)) i

-- ---- the texts of a program that restarts
texts_split : {X Y : Type 0} (f : X → Y) (n : ℕ) (xs : List X) → map f xs ≡ map f (take n xs) ++ map f (drop n xs)
texts_split f n xs = sym (take-append-drop n (map f xs)) ∙ (λ i. take-map f n xs i ++ drop-map f n xs i)

abbrev field_lengths : Program → List ℕ
field_lengths p = map length_in (tables p).fields

abbrev constant_lengths : Program → List ℕ
constant_lengths p = map (λ (constant : Constant). length constant.text) (constants p)

field_many : (p : Program) → length (field_lengths p) ≡ length (tables p).fields
field_many p = length-map (tables p).fields length_in

blank_fields : (p : Program) → map (λ n. replicate n BLANK) (field_lengths p) ≡ blank_texts p.fields.items
blank_fields p = map-map (λ n. replicate n BLANK) length_in (tables p).fields ∙ sym (blank_entries p.fields.items)

blank_front : (p : Program) (area : Area) (slot : ℕ) (span : Span) → HasTexts p area → slot ≡ length p.fields.items → slice_get area.spans slot ≡ Some span → span.from ≡ sum (field_lengths p)
unfolding spans_of
blank_front p area slot span has is there =
    let start : 0 + sum (field_lengths p) ≡ sum (field_lengths p) = omega arith in
    span_behind 0 (field_lengths p) 0 (map (λ (constant : Constant). length constant.text) (drop 1 (constants p))) span
    (ap (λ n. slice_get (spans_of p) n) (field_many p ∙ (field_count p ∙ sym is)) ∙ (ap (λ ss. slice_get ss slot) (sym has.spans) ∙ there))
    ∙ start

front_within : (p : Program) (area : Area) (end : ℕ) → HasTexts p area → end ≡ sum (field_lengths p) → end ≤ length area.bytes
front_within p area end has is = omega (arith, is, has.whole, sum_before (field_lengths p) (map (λ (constant : Constant). length constant.text) (constants p)))

again_whole : (p : Program) (area : Area) (end : ℕ) → HasTexts p area → end ≡ sum (field_lengths p) → length (replicate end BLANK ++ drop end area.bytes) ≡ length area.bytes
again_whole p area end has is =
    omega (arith, length-append (replicate end BLANK) (drop end area.bytes), length-replicate end BLANK, length-drop end area.bytes, front_within p area end has is)

again_area : (p : Program) (old new : Area) (end : ℕ) → HasTexts p old → end ≡ sum (field_lengths p) → new ≡ with_part old (record { from = 0; to = end }) (replicate end BLANK) → HasTexts p new
again_area p old new end has is made = record {
  spans = ap (λ (a : Area). a.spans) made ∙ has.spans;
  whole = ap (λ (a : Area). length a.bytes) made ∙ (again_whole p old end has is ∙ has.whole);
}

again_texts : (p : Program) (old new : Area) (end : ℕ) → HasTexts p old → end ≡ sum (field_lengths p) → behind_fields p (texts_of old) ≡ map (λ (constant : Constant). constant.text) (constants p)
    → new ≡ with_part old (record { from = 0; to = end }) (replicate end BLANK) → texts_of new ≡ blank_texts p.fields.items ++ map (λ (constant : Constant). constant.text) (constants p)
unfolding spans_of
again_texts p old new end has is literals made =
    let ns : List ℕ = field_lengths p in
    let ms : List ℕ = constant_lengths p in
    let front : List ℕ = replicate end BLANK in
    let bytes : List ℕ = front ++ drop end old.bytes in
    let spans : old.spans ≡ spans_from 0 (ns ++ ms) = has.spans in
    let behind : drop (length ns) (spans_from 0 (ns ++ ms)) ≡ spans_from (0 + sum ns) ms = spans_behind 0 ns ms in
    let constant_texts : texts_on (spans_from (0 + sum ns) ms) old.bytes ≡ map (λ (constant : Constant). constant.text) (constants p) =
    ap (λ ss. texts_on ss old.bytes) (sym behind) ∙ (sym (drop-map (text_on old.bytes) (length ns) (spans_from 0 (ns ++ ms)))
    ∙ ((λ i. drop (field_many p i) (texts_on (sym spans i) old.bytes)) ∙ literals)) in
    ap texts_of made
    ∙ (ap (λ ss. texts_on ss bytes) spans
    ∙ (texts_split (text_on bytes) (length ns) (spans_from 0 (ns ++ ms))
    ∙ (λ i.
    (ap (λ ss. texts_on ss bytes) (spans_before 0 ns ms) ∙ (blank_on (drop end old.bytes) end 0 ns (omega (arith, is)) ∙ blank_fields p)) i
    ++ (ap (λ ss. texts_on ss bytes) behind ∙ (kept_on front old.bytes end (0 + sum ns) ms (length-replicate end BLANK) (omega (arith, is)) ∙ constant_texts)) i)))

-- ---- the values of a program that restarts
some_constants : (p : Program) → 0 < length (constants p)
some_constants p = omega arith

numbers_within : (p : Program) (s : Values) → IsSound p s → length p.fields.items ≤ length s.numbers.items
numbers_within p s sound =
    let behind : length (drop (length (tables p).fields) s.numbers.items) ≡ length (constants p) = ap length sound.numbers ∙ length-map (constants p) (λ (constant : Constant). constant.number) in
    omega (arith, behind, length-drop (length (tables p).fields) s.numbers.items, some_constants p, field_count p)

pub slot_behind : (p : Program) (area : Area) → HasTexts p area → length p.fields.items < length area.spans
slot_behind p area has =
    slot_within p area (length p.fields.items) has
    (omega (
      arith,
      length-append (map length_in (tables p).fields) (map (λ (constant : Constant). length constant.text) (constants p)),
      length-map (tables p).fields length_in,
      length-map (constants p) (λ (constant : Constant). length constant.text),
      some_constants p,
      field_count p,
    ))

taken_before : {X : Type 0} (xs ys zs : List X) (n : ℕ) → xs ≡ ys ++ zs → length ys ≡ n → take n xs ≡ ys
taken_before xs ys zs n is size = ap (take n) is ∙ (take-append-le n ys zs (omega (arith, size)) ∙ take_all n ys (omega (arith, size)))

first_again : (p : Program) (switches : ℕ) (old s : Values) → IsSound p old → s.numbers.items ≡ replicate (length p.fields.items) (pos 0) ++ drop (length p.fields.items) old.numbers.items
    → s.forms.items ≡ old.forms.items → texts_of s.texts ≡ blank_texts p.fields.items ++ map (λ (constant : Constant). constant.text) (constants p) → HasTexts p s.texts
    → ((other : Indicator) → on_in s.indicators other ≡ on_at_first switches other) → s.division ≡ None
    → AreFirst p switches s (replicate (length p.fields.items) (pos 0)) (take (length p.fields.items) s.forms.items)
first_again p switches old s sound numbers forms texts area on division =
    let n : ℕ = length p.fields.items in
    let shapes : Constant → ℕ × ℕ = λ constant. (constant.digits, constant.decimals) in
    let all : map digits_and_decimals s.forms.items ≡ map form_in (tables p).fields ++ map shapes (constants p) = ap (map digits_and_decimals) forms ∙ sound.forms in
    let count : length (map form_in (tables p).fields) ≡ n = length-map (tables p).fields form_in ∙ field_count p in
    let of_fields : map digits_and_decimals (take n s.forms.items) ≡ map form_in (tables p).fields =
    sym (take-map digits_and_decimals n s.forms.items) ∙ taken_before (map digits_and_decimals s.forms.items) (map form_in (tables p).fields) (map shapes (constants p)) n all count in
    record {
      zero = record { numbers = refl; forms = of_fields ∙ map-map form_in entry_of p.fields.items };
      numbers = numbers ∙ ap (λ xs. replicate n (pos 0) ++ xs) (ap (λ k. drop k old.numbers.items) (sym (field_count p)) ∙ sound.numbers);
      forms = all ∙ ap (λ xs. xs ++ map shapes (constants p)) (sym of_fields);
      texts = texts;
      area = area;
      on = on;
      division = division;
    }

-- the program restarts after the first numbers and texts are cleared
pub cleared_first : (p : Program) (switches : ℕ) (old zeroed blanked s : Values) (count : ℕ) → IsSound p old → count ≡ length p.fields.items
    → zeroed.numbers.items ≡ replicate count (pos 0) ++ drop count old.numbers.items → zeroed.forms.items ≡ old.forms.items → zeroed.texts ≡ old.texts
    → blanked ≡ record zeroed { texts = blanked.texts }
    → ((span : Span) → slice_get zeroed.texts.spans count ≡ Some span → blanked.texts ≡ with_part zeroed.texts (record { from = 0; to = span.from }) (replicate span.from BLANK))
    → s.numbers.items ≡ blanked.numbers.items → s.forms.items ≡ blanked.forms.items → s.texts ≡ blanked.texts
    → ((other : Indicator) → on_in s.indicators other ≡ on_at_first switches other) → s.division ≡ None
    → AreFirst p switches s (replicate (length p.fields.items) (pos 0)) (take (length p.fields.items) s.forms.items)
cleared_first p switches old zeroed blanked s count sound is numbers forms texts alone blank same_numbers same_forms same_texts on division =
    let d : Span = record { from = 0; to = 0 } in
    let has : HasTexts p zeroed.texts = subst (HasTexts p) (sym texts) sound.texts in
    let literals : behind_fields p (texts_of zeroed.texts) ≡ map (λ (constant : Constant). constant.text) (constants p) = ap (λ (area : Area). behind_fields p (texts_of area)) texts ∙ sound.literals in
    let within : count < length zeroed.texts.spans = omega (arith, is, slot_behind p zeroed.texts has) in
    let span : Span = get_or zeroed.texts.spans count d in
    let there : slice_get zeroed.texts.spans count ≡ Some span = slice_get-get_or zeroed.texts.spans count d within in
    let end : span.from ≡ sum (field_lengths p) = blank_front p zeroed.texts count span has is there in
    let made : s.texts ≡ with_part zeroed.texts (record { from = 0; to = span.from }) (replicate span.from BLANK) = same_texts ∙ blank span there in
    first_again p switches old s sound
    (same_numbers ∙ ap (λ (v : Values). v.numbers.items) alone ∙ numbers ∙ (λ i. replicate (is i) (pos 0) ++ drop (is i) old.numbers.items))
    (same_forms ∙ ap (λ (v : Values). v.forms.items) alone ∙ forms)
    (again_texts p zeroed.texts s.texts span.from has end literals made) (again_area p zeroed.texts s.texts span.from has end made) on division

-- the first numbers of a list are zero
pub first_cleared : {Z : Type 0} (numbers : Vec ℤ Z) (seen given : List ℤ) (count size : ℕ) → count ≤ length numbers.items → size ≡ count → seen ≡ numbers.items → given ≡ replicate (length (take size seen)) (pos 0)
    → (with_items numbers (put_mid 0 size seen given)).items ≡ replicate count (pos 0) ++ drop count numbers.items
first_cleared numbers seen given count size few same whole is =
    let long : length seen ≡ length numbers.items = ap length whole in
    let taken : length (take size seen) ≡ count = length-take-le size seen (omega (arith, long, few, same)) ∙ same in
    let put : put_mid 0 size seen given ≡ replicate count (pos 0) ++ drop count numbers.items =
    (λ i. (is ∙ ap (λ n. replicate n (pos 0)) taken) i ++ drop (same i) (whole i)) in
    with_items_is numbers (put_mid 0 size seen given)
    (ap length put ∙ omega (arith, few, numbers.ok, length-append (replicate count (pos 0)) (drop count numbers.items), length-replicate count (pos 0), length-drop count numbers.items))
    ∙ put
