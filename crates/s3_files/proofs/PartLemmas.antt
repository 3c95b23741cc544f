-- Parts of a list of bytes, and what a write of one part leaves of another.
use Rattle.std.proofs.Common.{Result, Ok, Err, OnErr, ◌≡◌, ◌≢◌, ℕ, zero, suc, ◌+◌, ◌-◌, ◌*◌, ◌<◌, ◌≤◌, ◌⊎◌, inl, inr, List, [], ◌∷◌, ◌++◌, length, take, drop, map, slice_get, slice_set, Some, refl, sym, ap, ◌∙◌, arith, length-drop, length-take-le}
use Rattle.std.proofs.lemmas.List.{drop-drop, drop-take, take-take, take-append-drop}
use Rattle.std.proofs.Math.Seq.{take-add}
use Rattle.std.proofs.lemmas.Slice.{take-put_mid, drop-put_mid}
use borrow.Rule.Slice.PartMut.{put_mid, put_same, same_len_mid}
use Rattle.std.specs.List.{range_with_len}
use Rattle.s3_store.specs.Bytes.{part}
use Rattle.s3_store.specs.Inner.Bytes.{SameOutside}
use Rattle.s3_files.specs.Records.{parts}
use Rattle.s3_files.specs.Inner.Files.{IsReadInPart}

pub same-trans : (at width : ℕ) (s t u : List ℕ) → SameOutside at width s t → SameOutside at width t u → SameOutside at width s u
same-trans at width s t u first second = record { before = second.before ∙ first.before; after = second.after ∙ first.after }

-- the same outside a narrower part
pub same-wider : (at width a w : ℕ) (s t : List ℕ) → at ≤ a → a + w ≤ at + width → SameOutside a w s t → SameOutside at width s t
same-wider at width a w s t from upto same =
    let rest : (a + w) + (at + width - (a + w)) ≡ at + width = omega arith in
    record {
      before = sym (take-take at a t from) ∙ ap (take at) same.before ∙ take-take at a s from;
      after = ap (λ n. drop n t) (sym rest) ∙ sym (drop-drop (at + width - (a + w)) (a + w) t) ∙ ap (drop (at + width - (a + w))) same.after ∙ drop-drop (at + width - (a + w)) (a + w) s ∙ ap (λ n. drop n s) rest;
    }

-- a part before or after the one that was written
pub part-before : (at width b w : ℕ) (s t : List ℕ) → b + w ≤ at → SameOutside at width s t → part t b w ≡ part s b w
part-before at width b w s t h same =
    sym (drop-take b w t) ∙ ap (drop b) (sym (take-take (b + w) at t h) ∙ ap (take (b + w)) same.before ∙ take-take (b + w) at s h) ∙ drop-take b w s

pub part-after : (at width b w : ℕ) (s t : List ℕ) → at + width ≤ b → SameOutside at width s t → part t b w ≡ part s b w
part-after at width b w s t h same =
    let rest : (at + width) + (b - (at + width)) ≡ b = omega arith in
    ap (take w) (ap (λ n. drop n t) (sym rest) ∙ sym (drop-drop (b - (at + width)) (at + width) t) ∙ ap (drop (b - (at + width))) same.after ∙ drop-drop (b - (at + width)) (at + width) s ∙ ap (λ n. drop n s) rest)

-- two parts, one after the other
pub part-more : (at v w : ℕ) (s : List ℕ) → part s at (v + w) ≡ part s at v ++ part s (at + v) w
part-more at v w s = take-add v w (drop at s) ∙ ap (λ l. take v (drop at s) ++ take w l) (drop-drop v at s)

pub length-part : (at w : ℕ) (s : List ℕ) → at + w ≤ length s → length (part s at w) ≡ w
length-part at w s h = length-take-le w (drop at s) (omega (arith, length-drop at s))

-- ---- the list of parts

slice_get-mapped : {X : Type 0} (f : ℕ → X) (a n i : ℕ) → i < n → slice_get (map f (range_with_len a n)) i ≡ Some (f (a + i))
slice_get-mapped f a zero i h = absurd (omega arith)
slice_get-mapped f a (suc n) zero h = ap (λ k. Some (f k)) (omega arith)
slice_get-mapped f a (suc n) (suc i) h = slice_get-mapped f (a + 1) n i (omega arith) ∙ ap (λ k. Some (f k)) (omega arith)

mapped-same : {X : Type 0} (f g : ℕ → X) (a n : ℕ) → ((k : ℕ) → a ≤ k → k < a + n → g k ≡ f k) → map g (range_with_len a n) ≡ map f (range_with_len a n)
mapped-same f g a zero h = refl
mapped-same f g a (suc n) h = let head = h a (omega arith) (omega arith) in let tail = mapped-same f g (a + 1) n (λ k low high. h k (omega arith) (omega arith)) in cc

mapped-set : {X : Type 0} (f g : ℕ → X) (a n i : ℕ) (v : X) → i < n → g (a + i) ≡ v → ((k : ℕ) → a ≤ k → k < a + n → k ≢ a + i → g k ≡ f k) → map g (range_with_len a n) ≡ slice_set (map f (range_with_len a n)) i v
mapped-set f g a zero i v h is others = absurd (omega arith)
mapped-set f g a (suc n) zero v h is others =
    let head : g a ≡ v = ap g (omega arith) ∙ is in
    let tail = mapped-same f g (a + 1) n (λ k low high. others k (omega arith) (omega arith) (omega arith)) in cc
mapped-set f g a (suc n) (suc i) v h is others =
    let head = others a (omega arith) (omega arith) (omega arith) in
    let tail = mapped-set f g (a + 1) n i v (omega arith) (ap g (omega arith) ∙ is) (λ k low high other. others k (omega arith) (omega arith) (omega arith)) in cc

length-mapped : {X : Type 0} (f : ℕ → X) (a n : ℕ) → length (map f (range_with_len a n)) ≡ n
length-mapped f a zero = refl
length-mapped f a (suc n) = ap suc (length-mapped f (a + 1) n)

mapped-more : {X : Type 0} (f : ℕ → X) (a n : ℕ) → map f (range_with_len a (n + 1)) ≡ map f (range_with_len a n) ++ f (a + n) ∷ []
mapped-more f a zero = let one : zero + 1 ≡ suc zero = refl in let same : a ≡ a + zero = omega arith in ap (λ k. f k ∷ []) same
mapped-more f a (suc n) =
    let one_more : suc n + 1 ≡ suc (n + 1) = omega arith in
    let last : a + 1 + n ≡ a + suc n = omega arith in
    rw one_more (ap (λ l. f a ∷ l) (mapped-more f (a + 1) n ∙ ap (λ k. map f (range_with_len (a + 1) n) ++ f k ∷ []) last))

-- the parts at two places do not meet
pub record AreApart (place : ℕ → ℕ) (width n : ℕ) : Type 0 where
  pub each : (i j : ℕ) → i < j → j < n → place i + width ≤ place j

pub length-parts : (place : ℕ → ℕ) (width n : ℕ) (s : List ℕ) → length (parts place width n s) ≡ n
length-parts place width n s = length-mapped (λ i. part s (place i) width) 0 n

pub slice_get-parts : (place : ℕ → ℕ) (width n : ℕ) (s : List ℕ) (i : ℕ) → i < n → slice_get (parts place width n s) i ≡ Some (part s (place i) width)
slice_get-parts place width n s i h = slice_get-mapped (λ i. part s (place i) width) 0 n i h ∙ ap (λ k. Some (part s (place k) width)) (omega arith)

pub parts-more : (place : ℕ → ℕ) (width n : ℕ) (s : List ℕ) → parts place width (n + 1) s ≡ parts place width n s ++ part s (place n) width ∷ []
parts-more place width n s = mapped-more (λ i. part s (place i) width) 0 n ∙ ap (λ k. parts place width n s ++ part s (place k) width ∷ []) (omega arith)

other_part : (place : ℕ → ℕ) (width n m i k : ℕ) (s t : List ℕ) → n ≤ m → AreApart place width m → i < m → k < n → k ≢ i → SameOutside (place i) width s t → part t (place k) width ≡ part s (place k) width
other_part place width n m i k s t le apart within below other same = by (either k i other)
  where
    either : (k i : ℕ) → k ≢ i → (k < i) ⊎ (i < k)
    either zero zero h = absurd (h refl)
    either zero (suc i) h = inl (omega arith)
    either (suc k) zero h = inr (omega arith)
    either (suc k) (suc i) h = elim (either k i (λ e. h (ap suc e))) [ inl l ↦ inl (omega arith) | inr r ↦ inr (omega arith) ]

    by : (k < i) ⊎ (i < k) → part t (place k) width ≡ part s (place k) width
    by (inl lower) = part-before (place i) width (place k) width s t (apart.each k i lower within) same
    by (inr higher) = part-after (place i) width (place k) width s t (apart.each i k higher (omega arith)) same

-- a write of one part changes that one alone
pub parts-set : (place : ℕ → ℕ) (width n i : ℕ) (s t v : List ℕ) → AreApart place width n → i < n → SameOutside (place i) width s t → part t (place i) width ≡ v → parts place width n t ≡ slice_set (parts place width n s) i v
parts-set place width n i s t v apart within same is =
    mapped-set (λ k. part s (place k) width) (λ k. part t (place k) width) 0 n i v within
    (ap (λ k. part t (place k) width) (omega arith) ∙ is)
    (λ k low high other. other_part place width n n i k s t (omega arith) apart within (omega arith) (λ e. other (omega arith)) same)

-- a write of a part past the first n changes none of these
pub parts-kept : (place : ℕ → ℕ) (width n m i : ℕ) (s t : List ℕ) → AreApart place width m → n ≤ i → i < m → SameOutside (place i) width s t → parts place width n t ≡ parts place width n s
parts-kept place width n m i s t apart past within same =
    mapped-same (λ k. part s (place k) width) (λ k. part t (place k) width) 0 n
    (λ k low high. other_part place width n m i k s t (omega arith) apart within (omega arith) (omega arith) same)

-- a write of the part after the first n
pub parts-push : (place : ℕ → ℕ) (width n m : ℕ) (s t v : List ℕ) → AreApart place width m → n < m → SameOutside (place n) width s t → part t (place n) width ≡ v → parts place width (n + 1) t ≡ parts place width n s ++ v ∷ []
parts-push place width n m s t v apart within same is =
    parts-more place width n t ∙ ap (λ l. l ++ part t (place n) width ∷ []) (parts-kept place width n m n s t apart (omega arith) within same) ∙ ap (λ x. parts place width n s ++ x ∷ []) is

-- end to end
pub end_to_end : (width n : ℕ) → AreApart (λ i. i * width) width n
end_to_end width n = record { each = λ i j below _. step i j below }
  where
    step : (i j : ℕ) → i < j → i * width + width ≤ j * width
    step i j h = grind arith

-- ---- a loop that goes through a slice, a piece at a time; a range of a slice shows its length as a difference

between-count : (done count : ℕ) → done + count - done ≡ count
between-count done count = omega arith

pub length-between : (done count : ℕ) (bytes : List ℕ) → done + count ≤ length bytes → length (take (done + count - done) (drop done bytes)) ≡ count
length-between done count bytes fits = ap (λ n. length (take n (drop done bytes))) (between-count done count) ∙ length-part done count bytes fits

pub take-over : (done count : ℕ) (bytes piece : List ℕ) → length piece ≡ count → done + count ≤ length bytes → take (done + count) (put_mid done (done + count - done) bytes piece) ≡ take done bytes ++ piece
take-over done count bytes piece long fits = take-put_mid done (done + count - done) bytes piece (done + count) (omega arith) (omega arith)

pub length-over : (done count : ℕ) (bytes piece : List ℕ) → length piece ≡ count → done + count ≤ length bytes → done + count ≤ length (put_mid done (done + count - done) bytes piece)
length-over done count bytes piece long fits = omega (arith, same_len_mid done (done + count - done) bytes piece (long ∙ sym (length-between done count bytes fits)))

-- what lies past the pieces that were read stays
pub rest-over : (done count : ℕ) (bytes piece old : List ℕ) → length piece ≡ count → done + count ≤ length bytes → drop done bytes ≡ drop done old → drop (done + count) (put_mid done (done + count - done) bytes piece) ≡ drop (done + count) old
rest-over done count bytes piece old long fits same =
    drop-put_mid done (done + count - done) bytes piece (done + count) (omega arith) (omega (arith, fits)) (omega (arith, long))
    ∙ sym (drop-drop count done bytes) ∙ ap (drop count) same ∙ drop-drop count done old

-- what holds is said of a refusal
pub on_err : {T E : Type 0} {P : Type 0} (result : Result T E) → P → OnErr result P
on_err (Ok _) holds = tt
on_err (Err _) holds = holds

-- a piece that isn't read leaves those before it
pub read-in-part : (done count at : ℕ) (bytes piece old file : List ℕ) → piece ≡ take (done + count - done) (drop done bytes) → done ≤ length old → take done bytes ≡ part file at done → drop done bytes ≡ drop done old → IsReadInPart (part file at (length old)) old (put_mid done (done + count - done) bytes piece)
read-in-part done count at bytes piece old file kept within read same = (
  done,
  ap (put_mid done (done + count - done) bytes) kept ∙ put_same done (done + count - done) bytes ∙ sym (take-append-drop done bytes)
      ∙ ap (λ l. l ++ drop done bytes) (read ∙ sym (take-take done (length old) (drop at file) within)) ∙ ap (λ l. take done (part file at (length old)) ++ l) same,
)

pub same-wider-by : (at done count : ℕ) (bytes s t : List ℕ) → done + count ≤ length bytes → SameOutside (at + done) (length (take (done + count - done) (drop done bytes))) s t → SameOutside at (length bytes) s t
same-wider-by at done count bytes s t fits same = same-wider at (length bytes) (at + done) (length (take (done + count - done) (drop done bytes))) s t (omega arith) (omega (arith, length-between done count bytes fits)) same

-- the next piece is written
pub part-joined : (at done count : ℕ) (bytes s t : List ℕ) → done + count ≤ length bytes → part s at done ≡ take done bytes → SameOutside (at + done) (length (take (done + count - done) (drop done bytes))) s t → part t (at + done) (length (take (done + count - done) (drop done bytes))) ≡ take (done + count - done) (drop done bytes) → part t at (done + count) ≡ take (done + count) bytes
part-joined at done count bytes s t fits so_far same written =
    part-more at done count t
    ∙ ap (λ l. l ++ part t (at + done) count) (part-before (at + done) (length (take (done + count - done) (drop done bytes))) at done s t (omega arith) same ∙ so_far)
    ∙ ap (λ l. take done bytes ++ l) (ap (part t (at + done)) (sym (length-between done count bytes fits)) ∙ written ∙ ap (λ n. take n (drop done bytes)) (between-count done count))
    ∙ sym (take-add done count bytes)

-- parts that all lie before what was written
pub parts-before : (place : ℕ → ℕ) (width n at w : ℕ) (s t : List ℕ) → ((i : ℕ) → i < n → place i + width ≤ at) → SameOutside at w s t → parts place width n t ≡ parts place width n s
parts-before place width n at w s t low same = mapped-same (λ k. part s (place k) width) (λ k. part t (place k) width) 0 n (λ k from upto. part-before at w (place k) width s t (low k (omega arith)) same)
