-- A list of replies, byte by byte.
use Rattle.std.proofs.Common.{◌≡◌, ℕ, ◌+◌, ◌<◌, ◌≤◌, ◌≢◌, List, [], ◌∷◌, ◌++◌, Bool, true, false, not, cond, refl, sym, ap, ◌∙◌, subst, length, take, drop, arith, suc, zero, eqb, append_assoc, length-append}
use Rattle.std.specs.Prelude.{Option, None, Some, ◌&&◌}
use Rattle.std.specs.List.{list_all, before_first, position_or_len}
use Rattle.std.specs.Io.KnownBytes.{Consumes, IsAtEnd}
use Rattle.std.proofs.lemmas.List.{append-nil, drop_all, take_all}
use Rattle.std.proofs.KnownBytes.{Consumes-nil, Consumes-trans}
use Rattle.std.proofs.lemmas.Bool.{and_parts}
use Rattle.std.proofs.lemmas.Bool.Decides.{nat_tests}
use Rattle.s3_replies.specs.declared.typed.Typed.{Typed}
use Rattle.s3_replies.specs.declared.listed.Listed.{Listed}
use Rattle.s3_replies.specs.declared.listed.Listed.TheVariants.{Line, TooLong}
use Rattle.s3_replies.specs.Inner.Listed.{GivesNext, after_line, is_line_end, last_of, most, next_said}
use Rattle.s3_replies.specs.Inner.Typed.{typed_of}

abbrev pub is_inside : ℕ → Bool
is_inside byte = not (is_line_end byte)

-- the bytes of a line so far, how many there are, and what is kept of them
pub record LineSoFar (old now : Option (List ℕ)) (line : List ℕ) (is_begun : Bool) (count : ℕ) : Type 0 where
  pub passed : List ℕ
  pub counted : length passed ≡ count
  pub read : Consumes old now passed
  pub inside : list_all is_inside passed ≡ true
  pub kept : line ≡ take 80 passed
  pub begun : is_begun ≡ not (eqb (length passed) 0)

pub nothing_read : (old : Option (List ℕ)) (line : List ℕ) → line ≡ [] → LineSoFar old old line false 0
nothing_read old line none = record { passed = []; counted = refl; read = Consumes-nil old; inside = refl; kept = none; begun = refl }

all_but_last : (p : ℕ → Bool) (xs : List ℕ) (x : ℕ) → list_all p xs ≡ true → p x ≡ true → list_all p (xs ++ x ∷ []) ≡ true
all_but_last p [] x all last = ap (λ b. b && true) last
all_but_last p (y ∷ ys) x all last =
    let parts : (p y ≡ true) × (list_all p ys ≡ true) = and_parts (p y) (list_all p ys) all in
    ap (λ b. b && list_all p (ys ++ x ∷ [])) parts.0 ∙ all_but_last p ys x parts.1 last

take_twice : (n : ℕ) (xs ys : List ℕ) → take n (take n xs ++ ys) ≡ take n (xs ++ ys)
take_twice zero xs ys = refl
take_twice (suc n) [] ys = refl
take_twice (suc n) (x ∷ xs) ys = ap (λ zs. x ∷ zs) (take_twice n xs ys)

at_most : (n : ℕ) (xs : List ℕ) → length (take n xs) ≤ n
at_most zero xs = omega arith
at_most (suc n) [] = omega arith
at_most (suc n) (x ∷ xs) = let h = at_most n xs in omega arith

pub one_more_byte : (old now new : Option (List ℕ)) (line after : List ℕ) (is_begun : Bool) (count byte : ℕ) → LineSoFar old now line is_begun count → Consumes now new (byte ∷ []) → byte ≢ 10
    → (length line ≤ 80 → after ≡ take 80 (line ++ byte ∷ [])) → LineSoFar old new after true (count + 1)
one_more_byte old now new line after is_begun count byte so_far this other more =
    let short : length line ≤ 80 = omega (arith, ap length so_far.kept, at_most 80 so_far.passed) in
    let some : not (eqb (length (so_far.passed ++ byte ∷ [])) 0) ≡ true = let n = length-append so_far.passed (byte ∷ []) in grind (arith, nat_tests) in
    record {
      passed = so_far.passed ++ byte ∷ [];
      counted = length-append so_far.passed (byte ∷ []) ∙ ap (λ n. n + 1) so_far.counted;
      read = Consumes-trans old now new so_far.passed (byte ∷ []) so_far.read this;
      inside = all_but_last is_inside so_far.passed byte so_far.inside (grind (arith, nat_tests));
      kept = more short ∙ ap (λ l. take 80 (l ++ byte ∷ [])) so_far.kept ∙ take_twice 80 so_far.passed (byte ∷ []);
      begun = sym some;
    }

-- where a line ends
place_of_end : (passed rest : List ℕ) → list_all is_inside passed ≡ true → position_or_len is_line_end (passed ++ 10 ∷ rest) ≡ length passed
place_of_end [] rest inside = refl
place_of_end (byte ∷ bytes) rest inside =
    let parts : (is_inside byte ≡ true) × (list_all is_inside bytes ≡ true) = and_parts (is_inside byte) (list_all is_inside bytes) inside in
    ap (λ b. cond b (1 + position_or_len is_line_end (bytes ++ 10 ∷ rest)) 0) parts.0 ∙ ap (λ n. 1 + n) (place_of_end bytes rest parts.1) ∙ omega arith

place_of_none : (passed : List ℕ) → list_all is_inside passed ≡ true → position_or_len is_line_end passed ≡ length passed
place_of_none [] inside = refl
place_of_none (byte ∷ bytes) inside =
    let parts : (is_inside byte ≡ true) × (list_all is_inside bytes ≡ true) = and_parts (is_inside byte) (list_all is_inside bytes) inside in
    ap (λ b. cond b (1 + position_or_len is_line_end bytes) 0) parts.0 ∙ ap (λ n. 1 + n) (place_of_none bytes parts.1) ∙ omega arith

take_front : (xs ys : List ℕ) → take (length xs) (xs ++ ys) ≡ xs
take_front [] ys = refl
take_front (x ∷ xs) ys = ap (λ zs. x ∷ zs) (take_front xs ys)

-- what is kept of one more byte
pub all_kept : (line after : List ℕ) (byte : ℕ) → length line < 80 → after ≡ line ++ byte ∷ [] → after ≡ take 80 (line ++ byte ∷ [])
all_kept line after byte short e = e ∙ sym (take_all 80 (line ++ byte ∷ []) (omega (arith, length-append line (byte ∷ []))))

pub none_kept : (line : List ℕ) (byte : ℕ) → 80 ≤ length line → length line ≤ 80 → line ≡ take 80 (line ++ byte ∷ [])
none_kept line byte full short = sym (take_front line (byte ∷ [])) ∙ (let e : length line ≡ 80 = omega arith in ap (λ n. take n (line ++ byte ∷ [])) e)

drop_front : (xs : List ℕ) (x : ℕ) (ys : List ℕ) → drop (length xs + 1) (xs ++ x ∷ ys) ≡ ys
drop_front [] x ys = refl
drop_front (y ∷ xs) x ys =
    let e : length (y ∷ xs) + 1 ≡ suc (length xs + 1) = omega arith in
    ap (λ n. drop n (y ∷ (xs ++ x ∷ ys))) e ∙ drop_front xs x ys

said_of : (bytes line : List ℕ) → 0 < length bytes → line ≡ take 80 (before_first is_line_end bytes) → next_said bytes ≡ Some (typed_of line)
said_of [] line some e = absurd (omega arith)
said_of (byte ∷ bytes) line some e = ap (λ l. Some (typed_of l)) (sym e)

line_at_end : (bytes passed rest line : List ℕ) → bytes ≡ passed ++ 10 ∷ rest → list_all is_inside passed ≡ true → line ≡ take 80 passed → (next_said bytes ≡ Some (typed_of line)) × (rest ≡ after_line bytes)
line_at_end bytes passed rest line e inside kept =
    let place : position_or_len is_line_end bytes ≡ length passed = ap (position_or_len is_line_end) e ∙ place_of_end passed rest inside in
    let front : before_first is_line_end bytes ≡ passed = ap (λ n. take n bytes) place ∙ ap (take (length passed)) e ∙ take_front passed (10 ∷ rest) in
    let behind : after_line bytes ≡ rest = ap (λ n. drop (n + 1) bytes) place ∙ ap (drop (length passed + 1)) e ∙ drop_front passed 10 rest in
    (said_of bytes line (omega (arith, ap length e, length-append passed (10 ∷ rest))) (kept ∙ ap (take 80) (sym front)), sym behind)

pub line_ends : (old now new : Option (List ℕ)) (line : List ℕ) (is_begun : Bool) (count : ℕ) → LineSoFar old now line is_begun count → Consumes now new (10 ∷ []) → GivesNext old new (Line (typed_of line))
line_ends None now new line is_begun count so_far this = tt
line_ends (Some bytes) now None line is_begun count so_far this = absurd (Consumes-trans (Some bytes) now None so_far.passed (10 ∷ []) so_far.read this)
line_ends (Some bytes) now (Some rest) line is_begun count so_far this =
    let whole : bytes ≡ (so_far.passed ++ 10 ∷ []) ++ rest = Consumes-trans (Some bytes) now (Some rest) so_far.passed (10 ∷ []) so_far.read this in
    line_at_end bytes so_far.passed rest line (whole ∙ append_assoc so_far.passed (10 ∷ []) rest) so_far.inside so_far.kept

nothing_said : (bytes : List ℕ) → length bytes ≡ 0 → next_said bytes ≡ None
nothing_said [] e = refl
nothing_said (byte ∷ bytes) e = absurd (omega arith)

last_said : (bytes passed rest line : List ℕ) (is_begun : Bool) → bytes ≡ passed ++ rest → rest ≡ [] → list_all is_inside passed ≡ true → line ≡ take 80 passed → is_begun ≡ not (eqb (length passed) 0) → GivesNext (Some bytes) (Some rest) (last_of is_begun line)
last_said bytes passed rest line true e none inside kept begun =
    let all : bytes ≡ passed = e ∙ ap (λ r. passed ++ r) none ∙ append-nil passed in
    let place : position_or_len is_line_end bytes ≡ length passed = ap (position_or_len is_line_end) all ∙ place_of_none passed inside in
    let front : before_first is_line_end bytes ≡ passed = ap (λ n. take n bytes) place ∙ ap (take (length passed)) all ∙ take_all (length passed) passed (omega arith) in
    let behind : after_line bytes ≡ [] = drop_all (position_or_len is_line_end bytes + 1) bytes (omega (arith, place, ap length all)) in
    let some : 0 < length bytes = let n = ap length all in grind (arith, nat_tests) in
    (said_of bytes line some (kept ∙ ap (take 80) (sym front)), none ∙ sym behind)
last_said bytes passed rest line false e none inside kept begun =
    let no_byte : length bytes ≡ 0 = let n = ap length e in let m = ap length none in let k = length-append passed rest in grind (arith, nat_tests) in
    (nothing_said bytes no_byte, none)

pub list_ends : (old now new : Option (List ℕ)) (line : List ℕ) (is_begun : Bool) (count : ℕ) → LineSoFar old now line is_begun count → Consumes now new [] × IsAtEnd new → GivesNext old new (last_of is_begun line)
list_ends None now new line is_begun count so_far this = tt
list_ends (Some bytes) now None line is_begun count so_far this = absurd (Consumes-trans (Some bytes) now None so_far.passed [] so_far.read this.0)
list_ends (Some bytes) now (Some rest) line is_begun count so_far this =
    let whole : bytes ≡ (so_far.passed ++ []) ++ rest = Consumes-trans (Some bytes) now (Some rest) so_far.passed [] so_far.read this.0 in
    last_said bytes so_far.passed rest line is_begun (whole ∙ ap (λ p. p ++ rest) (append-nil so_far.passed)) this.1 so_far.inside so_far.kept so_far.begun

pub line_said : (old now new : Option (List ℕ)) (line : List ℕ) (is_begun : Bool) (count byte : ℕ) (typed : Typed) → LineSoFar old now line is_begun count → Consumes now new (byte ∷ []) → byte ≡ 10 → typed ≡ typed_of line → GivesNext old new (Line typed)
line_said old now new line is_begun count byte typed so_far this at_end said =
    let P : ℕ → Type 0 = λ b. Consumes now new (b ∷ []) in
    let Q : Typed → Type 0 = λ t. GivesNext old new (Line t) in
    subst Q (sym said) (line_ends old now new line is_begun count so_far (subst P at_end this))

pub list_over : (old now new : Option (List ℕ)) (line : List ℕ) (is_begun : Bool) (count : ℕ) (next : Listed) → LineSoFar old now line is_begun count → Consumes now new [] × IsAtEnd new → next ≡ last_of is_begun line → GivesNext old new next
list_over old now new line is_begun count next so_far this said =
    let Q : Listed → Type 0 = λ n. GivesNext old new n in
    subst Q (sym said) (list_ends old now new line is_begun count so_far this)

-- ---- a line that goes on
-- a line has at least the bytes before its end that were read
place_after : (passed rest : List ℕ) → list_all is_inside passed ≡ true → length passed ≤ position_or_len is_line_end (passed ++ rest)
place_after [] rest inside = omega arith
place_after (byte ∷ bytes) rest inside =
    let parts : (is_inside byte ≡ true) × (list_all is_inside bytes ≡ true) = and_parts (is_inside byte) (list_all is_inside bytes) inside in
    let next : position_or_len is_line_end (byte ∷ (bytes ++ rest)) ≡ 1 + position_or_len is_line_end (bytes ++ rest) =
    ap (λ b. cond b (1 + position_or_len is_line_end (bytes ++ rest)) 0) parts.0 in
    omega (arith, next, place_after bytes rest parts.1)

pub goes_on : (old now : Option (List ℕ)) (line : List ℕ) (is_begun : Bool) (count : ℕ) → LineSoFar old now line is_begun count → most < count → GivesNext old now TooLong
goes_on None now line is_begun count so_far long = tt
goes_on (Some bytes) None line is_begun count so_far long = absurd so_far.read
goes_on (Some bytes) (Some rest) line is_begun count so_far long =
    let place : length so_far.passed ≤ position_or_len is_line_end (so_far.passed ++ rest) = place_after so_far.passed rest so_far.inside in
    let same : position_or_len is_line_end bytes ≡ position_or_len is_line_end (so_far.passed ++ rest) = ap (position_or_len is_line_end) so_far.read in
    omega (arith, place, same, so_far.counted, long)
