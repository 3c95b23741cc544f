-- The positions of a record after a content is written into it.
use Rattle.std.proofs.Common.{◌≡◌, ℕ, ◌+◌, ◌-◌, ◌<◌, ◌≤◌, List, [], ◌∷◌, ◌++◌, Bool, true, false, zero, suc, length, take, drop, map, refl, sym, ◌∙◌, ap, subst, arith}
use Rattle.std.specs.Prelude.{Option, Some, None, is_some, unwrap_or, replicate, slice_get}
use Rattle.std.proofs.lemmas.List.{map-append, length-map, length-append, length-drop, length-take-le, take-take, take-map, drop-map, drop-take, length-replicate}
use Rattle.s3_cards.specs.declared.ebcdic.TheConstants.{BLANK}
use Rattle.s3_meaning.specs.Output.{filled, laid}
use Rattle.s3_output.specs.Inner.Compositions.{IsComposed, first_position, position, positions_in, positions_on}

none_on : (puts : List Bool) → positions_on puts [] ≡ []
none_on [] = refl
none_on (put ∷ puts) = refl

split_on : (ps qs : List Bool) (xs ys : List ℕ) → length ps ≡ length xs → positions_on (ps ++ qs) (xs ++ ys) ≡ positions_on ps xs ++ positions_on qs ys
split_on [] qs [] ys same = refl
split_on [] qs (x ∷ xs) ys same = absurd (omega (arith, same))
split_on (p ∷ ps) qs [] ys same = absurd (omega (arith, same))
split_on (p ∷ ps) qs (x ∷ xs) ys same = ap (λ ds. positions_on (p ∷ []) (x ∷ []) ++ ds) (split_on ps qs xs ys (omega (arith, same)))

take_on : (n : ℕ) (puts : List Bool) (codes : List ℕ) → positions_on (take n puts) (take n codes) ≡ take n (positions_on puts codes)
take_on zero puts codes = refl
take_on (suc n) [] codes = refl
take_on (suc n) (put ∷ puts) [] = refl
take_on (suc n) (put ∷ puts) (code ∷ codes) = ap (λ ds. positions_on (put ∷ []) (code ∷ []) ++ ds) (take_on n puts codes)

drop_on : (n : ℕ) (puts : List Bool) (codes : List ℕ) → positions_on (drop n puts) (drop n codes) ≡ drop n (positions_on puts codes)
drop_on zero puts codes = refl
drop_on (suc n) [] codes = refl
drop_on (suc n) (put ∷ puts) [] = none_on (drop n puts)
drop_on (suc n) (put ∷ puts) (code ∷ codes) = drop_on n puts codes

put_on : (codes : List ℕ) → positions_on (replicate (length codes) true) codes ≡ map (λ code. Some code) codes
put_on [] = refl
put_on (code ∷ codes) = ap (λ ds. Some code ∷ ds) (put_on codes)

blank_on : (n : ℕ) → positions_on (replicate n false) (replicate n BLANK) ≡ replicate n None
blank_on zero = refl
blank_on (suc n) = ap (λ ds. None ∷ ds) (blank_on n)

pub length_on : (puts : List Bool) (codes : List ℕ) → length puts ≡ length codes → length (positions_on puts codes) ≡ length codes
length_on [] [] same = refl
length_on [] (code ∷ codes) same = absurd (omega (arith, same))
length_on (put ∷ puts) [] same = absurd (omega (arith, same))
length_on (put ∷ puts) (code ∷ codes) same = ap (λ n. suc n) (length_on puts codes (omega (arith, same)))

-- ---- a content written into the record
take_past : {X : Type 0} (xs ys : List X) (n : ℕ) → take (length xs + n) (xs ++ ys) ≡ xs ++ take n ys
take_past [] ys n = let e : 0 + n ≡ n = omega arith in ap (λ k. take k ys) e
take_past (x ∷ xs) ys n = let e : suc (length xs) + n ≡ suc (length xs + n) = omega arith in ap (λ k. take k (x ∷ xs ++ ys)) e ∙ ap (λ zs. x ∷ zs) (take_past xs ys n)

pub laid_on : (puts puts' : List Bool) (codes codes' content : List ℕ) (end count : ℕ) → count ≡ length content → length puts ≡ length codes → count ≤ end → end ≤ length codes
    → codes' ≡ take (end - length content) codes ++ content ++ drop end codes → puts' ≡ take (end - count) puts ++ replicate count true ++ drop end puts
    → positions_on puts' codes' ≡ laid end content (positions_on puts codes)
laid_on puts puts' codes codes' content end count counts same begins ends codes_are puts_are =
    let left : ℕ = end - length content in
    let marks : List Bool = replicate (length content) true in
    let within : left ≤ length codes = omega (arith, ends) in
    let puts_is : puts' ≡ take left puts ++ marks ++ drop end puts =
    puts_are ∙ ap (λ n. take (end - n) puts ++ replicate n true ++ drop end puts) counts in
    let lefts : length (take left puts) ≡ length (take left codes) =
    length-take-le left puts (subst (λ n. left ≤ n) (sym same) within) ∙ sym (length-take-le left codes within) in
    let fronts : length (take left puts ++ marks) ≡ length (take left codes ++ content) =
    length-append (take left puts) marks ∙ ((λ i. lefts i + length-replicate (length content) true i) ∙ sym (length-append (take left codes) content)) in
    (λ i. positions_on (puts_is i) (codes_are i))
    ∙ (split_on (take left puts ++ marks) (drop end puts) (take left codes ++ content) (drop end codes) fronts
    ∙ (λ i. (split_on (take left puts) marks (take left codes) content lefts ∙ (λ j. take_on left puts codes j ++ put_on content j)) i ++ drop_on end puts codes i))

pub take_laid : (n end : ℕ) (content : List ℕ) (positions : List (Option ℕ)) → length content ≤ end → end ≤ n → n ≤ length positions
    → take n (laid end content positions) ≡ laid end content (take n positions)
take_laid n end content positions begins ends within =
    let left : ℕ = end - length content in
    let A : List (Option ℕ) = take left positions in
    let B : List (Option ℕ) = map (λ code. Some code) content in
    let D : List (Option ℕ) = drop end positions in
    let front : length (A ++ B) ≡ end =
    sizes end (length content) (length A) (length B) (length (A ++ B)) begins (length-take-le left positions (least (length content) begins ends within)) (length-map content (λ code. Some code)) (length-append A B) in
    let whole : n ≡ length (A ++ B) + (n - end) = omega (arith, ends, front) in
    let whole_end : n ≡ end + (n - end) = omega (arith, ends) in
    ap (λ k. take k (A ++ B ++ D)) whole
    ∙ (take_past (A ++ B) D (n - end)
    ∙ (λ i. sym (take-take left n positions (omega (arith, begins, ends))) i ++ B ++ (sym (drop-take end (n - end) positions) ∙ ap (λ k. drop end (take k positions)) (sym whole_end)) i))
  where
    least : (size : ℕ) → size ≤ end → end ≤ n → n ≤ length positions → end - size ≤ length positions
    least size begins ends within = omega (arith, begins, ends, within)

    sizes : (end size a b c : ℕ) → size ≤ end → a ≡ end - size → b ≡ size → c ≡ a + b → c ≡ end
    sizes end size a b c begins is_a is_b is_c = omega (arith, begins, is_a, is_b, is_c)

pub length_laid : (end : ℕ) (content : List ℕ) (positions : List (Option ℕ)) → length content ≤ end → end ≤ length positions → length (laid end content positions) ≡ length positions
length_laid end content positions begins ends =
    let A : List (Option ℕ) = take (end - length content) positions in
    let B : List (Option ℕ) = map (λ code. Some code) content in
    let D : List (Option ℕ) = drop end positions in
    sum end (length content) (length positions) (length A) (length B) (length D) begins ends (length-take-le (end - length content) positions (least end (length content) (length positions) ends))
    (length-map content (λ code. Some code)) (length-drop end positions) (length (A ++ B)) (length (A ++ B ++ D)) (length-append A B) (length-append (A ++ B) D)
  where
    least : (end size n : ℕ) → end ≤ n → end - size ≤ n
    least end size n ends = omega (arith, ends)

    sum : (end size n a b d : ℕ) → size ≤ end → end ≤ n → a ≡ end - size → b ≡ size → d ≡ n - end → (ab abd : ℕ) → ab ≡ a + b → abd ≡ ab + d → abd ≡ n
    sum end size n a b d begins ends is_a is_b is_d ab abd front whole = omega (arith, begins, ends, is_a, is_b, is_d, front, whole)

-- ---- codes
filled_some : (content : List ℕ) → filled (map (λ code. Some code) content) ≡ content
filled_some [] = refl
filled_some (code ∷ codes) = ap (λ ds. code ∷ ds) (filled_some codes)

abbrev or_blank : Option ℕ → ℕ
or_blank position = unwrap_or position BLANK

filled_split : (one two : List (Option ℕ)) → filled (one ++ two) ≡ filled one ++ filled two
filled_split one two = map-append or_blank one two

pub filled_laid : (end : ℕ) (content codes : List ℕ) (positions : List (Option ℕ)) → filled positions ≡ codes
    → filled (laid end content positions) ≡ take (end - length content) codes ++ content ++ drop end codes
filled_laid end content codes positions are =
    let left : ℕ = end - length content in
    let B : List (Option ℕ) = map (λ code. Some code) content in
    filled_split (take left positions ++ B) (drop end positions)
    ∙ (λ i. (filled_split (take left positions) B ∙ (λ j. (sym (take-map or_blank left positions) ∙ ap (take left) are) j ++ filled_some content j)) i
    ++ (sym (drop-map or_blank end positions) ∙ ap (drop end) are) i)

-- ---- codes when the written positions aren't known
some_take : (n : ℕ) (codes : List ℕ) → take n (map (λ code. Some code) codes) ≡ map (λ code. Some code) (take n codes)
some_take n codes = take-map (λ code. Some code) n codes

some_laid : (end : ℕ) (content codes codes' : List ℕ) → codes' ≡ take (end - length content) codes ++ content ++ drop end codes
    → map (λ code. Some code) codes' ≡ laid end content (map (λ code. Some code) codes)
some_laid end content codes codes' codes_are =
    let left : ℕ = end - length content in
    ap (map (λ code. Some code)) codes_are
    ∙ (map-append (λ code. Some code) (take left codes ++ content) (drop end codes)
    ∙ (λ i. (map-append (λ code. Some code) (take left codes) content ∙ (λ j. sym (take-map (λ code. Some code) left codes) j ++ map (λ code. Some code) content)) i ++ sym (drop-map (λ code. Some code) end codes) i))

some_blank : (n : ℕ) → map (λ code. Some code) (replicate n BLANK) ≡ replicate n (Some BLANK)
some_blank zero = refl
some_blank (suc n) = ap (λ ds. Some BLANK ∷ ds) (some_blank n)

-- ---- all steps of a record
length_in : (told : Bool) (puts : List Bool) (codes : List ℕ) → length puts ≡ length codes → length (positions_in told puts codes) ≡ length codes
length_in true puts codes same = length_on puts codes same
length_in false puts codes same = length-map codes (λ code. Some code)

laid_in : (told : Bool) (puts puts' : List Bool) (codes codes' content : List ℕ) (end count : ℕ) → count ≡ length content → length puts ≡ length codes → count ≤ end → end ≤ length codes
    → codes' ≡ take (end - length content) codes ++ content ++ drop end codes → (told ≡ true → puts' ≡ take (end - count) puts ++ replicate count true ++ drop end puts)
    → positions_in told puts' codes' ≡ laid end content (positions_in told puts codes)
laid_in true puts puts' codes codes' content end count counts same begins ends codes_are puts_are = laid_on puts puts' codes codes' content end count counts same begins ends codes_are (puts_are refl)
laid_in false puts puts' codes codes' content end count counts same begins ends codes_are puts_are = some_laid end content codes codes' codes_are

pub lay_view : (n : ℕ) (told : Bool) (puts puts' : List Bool) (codes codes' content : List ℕ) (end count : ℕ) → count ≡ length content → length puts ≡ length codes → count ≤ end → end ≤ n → n ≤ length codes
    → codes' ≡ take (end - length content) codes ++ content ++ drop end codes → (told ≡ true → puts' ≡ take (end - count) puts ++ replicate count true ++ drop end puts)
    → take n (positions_in told puts' codes') ≡ laid end content (take n (positions_in told puts codes))
lay_view n told puts puts' codes codes' content end count counts same begins ends within codes_are puts_are =
    ap (take n) (laid_in told puts puts' codes codes' content end count counts same begins (omega (arith, ends, within)) codes_are puts_are)
    ∙ take_laid n end content (positions_in told puts codes) (subst (λ k. k ≤ end) counts begins) ends (subst (λ k. n ≤ k) (sym (length_in told puts codes same)) within)

-- a content written into the first n codes
laid_take : (n end : ℕ) (content codes : List ℕ) → length content ≤ end → end ≤ n → n ≤ length codes
    → take n (take (end - length content) codes ++ content ++ drop end codes) ≡ take (end - length content) (take n codes) ++ content ++ drop end (take n codes)
laid_take n end content codes begins ends within =
    let laid_codes : List ℕ = take (end - length content) codes ++ content ++ drop end codes in
    let somes : List (Option ℕ) = map (λ code. Some code) codes in
    sym (filled_some (take n laid_codes))
    ∙ (ap filled (sym (some_take n laid_codes) ∙ ap (take n) (some_laid end content codes laid_codes refl)
    ∙ take_laid n end content somes begins ends (subst (λ k. n ≤ k) (sym (length-map codes (λ code. Some code))) within))
    ∙ filled_laid end content (take n codes) (take n somes) (ap filled (some_take n codes) ∙ filled_some (take n codes)))

pub lay_filled : (n : ℕ) (told : Bool) (puts puts' : List Bool) (codes codes' content : List ℕ) (end count : ℕ) → count ≡ length content → length puts ≡ length codes → count ≤ end → end ≤ n → n ≤ length codes
    → codes' ≡ take (end - length content) codes ++ content ++ drop end codes → (told ≡ true → puts' ≡ take (end - count) puts ++ replicate count true ++ drop end puts)
    → filled (take n (positions_in told puts codes)) ≡ take n codes → filled (take n (positions_in told puts' codes')) ≡ take n codes'
lay_filled n told puts puts' codes codes' content end count counts same begins ends within codes_are puts_are are =
    ap filled (lay_view n told puts puts' codes codes' content end count counts same begins ends within codes_are puts_are)
    ∙ (filled_laid end content (take n codes) (take n (positions_in told puts codes)) are
    ∙ (sym (laid_take n end content codes (subst (λ k. k ≤ end) counts begins) ends within) ∙ ap (take n) (sym codes_are)))

pub view_length : (n : ℕ) (told : Bool) (puts : List Bool) (codes : List ℕ) → length puts ≡ length codes → n ≤ length codes → length (take n (positions_in told puts codes)) ≡ n
view_length n told puts codes same within = length-take-le n (positions_in told puts codes) (subst (λ k. n ≤ k) (sym (length_in told puts codes same)) within)

-- ---- the start of a record
pub clear_view : (n : ℕ) (told : Bool) (puts : List Bool) (codes : List ℕ) → take n codes ≡ replicate n BLANK → (told ≡ true → take n puts ≡ replicate n false) → take n (positions_in told puts codes) ≡ replicate n (first_position told)
clear_view n true puts codes blanks unput = sym (take_on n puts codes) ∙ ((λ i. positions_on (unput refl i) (blanks i)) ∙ blank_on n)
clear_view n false puts codes blanks unput = some_take n codes ∙ (ap (map (λ code. Some code)) blanks ∙ some_blank n)

pub filled_first : (n : ℕ) (told : Bool) → filled (replicate n (first_position told)) ≡ replicate n BLANK
filled_first zero told = refl
filled_first (suc n) true = ap (λ ds. BLANK ∷ ds) (filled_first n true)
filled_first (suc n) false = ap (λ ds. BLANK ∷ ds) (filled_first n false)

pub clear_filled : (n : ℕ) (told : Bool) (puts : List Bool) (codes : List ℕ) → take n codes ≡ replicate n BLANK → (told ≡ true → take n puts ≡ replicate n false) → filled (take n (positions_in told puts codes)) ≡ take n codes
clear_filled n told puts codes blanks unput = ap filled (clear_view n told puts codes blanks unput) ∙ (filled_first n told ∙ sym blanks)

-- the end position lies within the record and the array
pub record EndsWithin (n end : ℕ) (puts : List Bool) (codes : List ℕ) : Type 0 where
  pub same : length puts ≡ length codes
  pub within : end ≤ n
  pub whole : n ≤ length codes
  pub inside : end ≤ length codes

pub ends_within : (n end : ℕ) (told : Bool) (puts : List Bool) (codes : List ℕ) (now : List (Option ℕ)) → length codes ≡ 1024 → length puts ≡ 1024 → n ≤ 1024
    → take n (positions_in told puts codes) ≡ now → end ≤ length now → EndsWithin n end puts codes
ends_within n end told puts codes now code_size put_size few view ends =
    let same : length puts ≡ length codes = put_size ∙ sym code_size in
    let whole : n ≤ length codes = subst (λ k. n ≤ k) (sym code_size) few in
    let inside : end ≤ n = subst (λ k. end ≤ k) (ap length (sym view) ∙ view_length n told puts codes same whole) ends in
    record { same = same; within = inside; whole = whole; inside = omega (arith, inside, whole) }

-- a content is written at its place in the record
pub record IsLaid (n end : ℕ) (told : Bool) (puts : List Bool) (codes content : List ℕ) (now : List (Option ℕ)) : Type 0 where
  pub composed : IsComposed n told puts codes
  pub view : take n (positions_in told puts codes) ≡ laid end content now
  pub size : length (take n (positions_in told puts codes)) ≡ length now

pub is_laid : (n end count : ℕ) (told : Bool) (puts puts_now puts' : List Bool) (codes codes_now codes' content : List ℕ) (now : List (Option ℕ)) → IsComposed n told puts codes → take n (positions_in told puts codes) ≡ now
    → count ≡ length content → count ≤ end → end ≤ length now → codes_now ≡ codes → puts_now ≡ puts → codes' ≡ take (end - length content) codes_now ++ content ++ drop end codes_now
    → (told ≡ true → puts' ≡ take (end - count) puts_now ++ replicate count true ++ drop end puts_now) → length codes' ≡ length codes_now → length puts' ≡ length puts_now → IsLaid n end told puts' codes' content now
is_laid n end count told puts puts_now puts' codes codes_now codes' content now composed view counts begins ends codes_same puts_same codes_are puts_are codes_long puts_long =
    let w : EndsWithin n end puts codes = ends_within n end told puts codes now composed.codes_size composed.puts_size composed.short view ends in
    let codes_is : codes' ≡ take (end - length content) codes ++ content ++ drop end codes =
    subst (λ (xs : List ℕ). codes' ≡ take (end - length content) xs ++ content ++ drop end xs) codes_same codes_are in
    let puts_is : told ≡ true → puts' ≡ take (end - count) puts ++ replicate count true ++ drop end puts =
    subst (λ (xs : List Bool). told ≡ true → puts' ≡ take (end - count) xs ++ replicate count true ++ drop end xs) puts_same puts_are in
    let is : take n (positions_in told puts' codes') ≡ laid end content now =
    lay_view n told puts puts' codes codes' content end count counts w.same begins w.within w.whole codes_is puts_is ∙ ap (laid end content) view in
    record {
      composed = record {
        short = composed.short;
        codes_size = codes_long ∙ (ap length codes_same ∙ composed.codes_size);
        puts_size = puts_long ∙ (ap length puts_same ∙ composed.puts_size);
        blanks = lay_filled n told puts puts' codes codes' content end count counts w.same begins w.within w.whole codes_is puts_is composed.blanks;
      };
      view = is;
      size = ap length is ∙ length_laid end content now (subst (λ k. k ≤ end) counts begins) ends;
    }

-- ---- marks of written positions
is_put : (puts : List Bool) (codes : List ℕ) → length puts ≡ length codes → map is_some (positions_on puts codes) ≡ puts
is_put [] codes same = refl
is_put (put ∷ puts) [] same = absurd (omega (arith, same))
is_put (true ∷ puts) (code ∷ codes) same = ap (λ marks. true ∷ marks) (is_put puts codes (omega (arith, same)))
is_put (false ∷ puts) (code ∷ codes) same = ap (λ marks. false ∷ marks) (is_put puts codes (omega (arith, same)))

all_put : (codes : List ℕ) → map is_some (map (λ code. Some code) codes) ≡ replicate (length codes) true
all_put [] = refl
all_put (code ∷ codes) = ap (λ marks. true ∷ marks) (all_put codes)

-- the marks when the written positions are known
pub marks_told : (n : ℕ) (told : Bool) (puts : List Bool) (codes : List ℕ) (now : List (Option ℕ)) → length codes ≡ 1024 → length puts ≡ 1024 → take n (positions_in told puts codes) ≡ now
    → told ≡ true → take n puts ≡ map is_some now
marks_told n told puts codes now code_size put_size view is =
    ap (take n) (sym (is_put puts codes (put_size ∙ sym code_size)))
    ∙ (take-map is_some n (positions_on puts codes)
    ∙ ap (map is_some) (ap (λ b. take n (positions_in b puts codes)) (sym is) ∙ view))

-- the marks when the written positions aren't known
pub marks_untold : (n : ℕ) (told : Bool) (puts : List Bool) (codes : List ℕ) (now : List (Option ℕ)) → length codes ≡ 1024 → take n (positions_in told puts codes) ≡ now
    → told ≡ false → take n (replicate 1024 true) ≡ map is_some now
marks_untold n told puts codes now code_size view is =
    ap (λ size. take n (replicate size true)) (sym code_size)
    ∙ (ap (take n) (sym (all_put codes))
    ∙ (take-map is_some n (map (λ code. Some code) codes)
    ∙ ap (map is_some) (ap (λ b. take n (positions_in b puts codes)) (sym is) ∙ view)))

pub all_marked : (marks : List Bool) (n : ℕ) → length marks ≡ n → ((i : ℕ) → i < n → slice_get marks i ≡ Some true) → marks ≡ replicate n true
all_marked [] zero size marked = refl
all_marked [] (suc n) size marked = absurd (omega (arith, size))
all_marked (mark ∷ marks) zero size marked = absurd (omega (arith, size))
all_marked (mark ∷ marks) (suc n) size marked =
    (λ i. unwrap_or (marked 0 (omega arith) i) mark ∷ marks)
    ∙ ap (λ rest. true ∷ rest) (all_marked marks n (omega (arith, size)) (λ i within. marked (suc i) (omega (arith, within))))
