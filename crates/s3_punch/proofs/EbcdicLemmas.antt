-- Decks in EBCDIC, card by card and byte by byte.
use Rattle.std.proofs.Common.{◌≡◌, ℕ, ◌+◌, ◌<◌, List, [], ◌∷◌, ◌++◌, length, map, take, get_or, sym, ap, ◌∙◌, append_assoc, arith}
use Rattle.std.proofs.lemmas.List.{append-nil, length-take-le, take_more, take_all}
use Rattle.std.proofs.lemmas.List.Concat.{flat_map-append}
use Rattle.std.proofs.lemmas.List.FromFn.{map-range_with_len_more}
use Rattle.std.specs.List.{enumerate_from, flat_map, range_with_len}
use Rattle.s3_punch.specs.Inner.Ebcdic.{byte_fault, byte_faults, card_in, card_line, lines_to}
use Rattle.s3_punch.specs.declared.ebcdic.CardByte.{CardByte}

-- ---- lines
pub no_lines : (text bytes : List ℕ) → text ≡ text ++ lines_to bytes 0
no_lines text bytes = sym (append-nil text)

lines_more : (bytes : List ℕ) (n : ℕ) → lines_to bytes (n + 1) ≡ lines_to bytes n ++ card_line (card_in bytes n)
lines_more bytes n =
    ap (flat_map card_line) (map-range_with_len_more (card_in bytes) 0 n n (omega arith))
    ∙ flat_map-append card_line (map (card_in bytes) (range_with_len 0 n)) (card_in bytes n ∷ [])
    ∙ ap (λ more. lines_to bytes n ++ more) (append-nil (card_line (card_in bytes n)))

pub one_more_line : (bytes before old new : List ℕ) (n : ℕ) → old ≡ before ++ lines_to bytes n → new ≡ old ++ card_line (card_in bytes n) → new ≡ before ++ lines_to bytes (n + 1)
one_more_line bytes before old new n so_far one =
    one ∙ ap (λ front. front ++ card_line (card_in bytes n)) so_far ∙ append_assoc before (lines_to bytes n) (card_line (card_in bytes n)) ∙ ap (λ more. before ++ more) (sym (lines_more bytes n))

-- ---- bytes without a character
entries_snoc : {X : Type 0} (n : ℕ) (xs : List X) (x : X) → enumerate_from n (xs ++ x ∷ []) ≡ enumerate_from n xs ++ (n + length xs, x) ∷ []
entries_snoc n [] x = ap (λ place. (place, x) ∷ []) (omega arith)
entries_snoc n (y ∷ ys) x = ap (λ more. (n, y) ∷ more) (entries_snoc (n + 1) ys x ∙ ap (λ place. enumerate_from (n + 1) ys ++ (place, x) ∷ []) (omega arith))

faults_snoc : (xs : List ℕ) (x : ℕ) → byte_faults (xs ++ x ∷ []) ≡ byte_faults xs ++ byte_fault (length xs, x)
faults_snoc xs x =
    ap (flat_map byte_fault) (entries_snoc 0 xs x)
    ∙ flat_map-append byte_fault (enumerate_from 0 xs) ((0 + length xs, x) ∷ [])
    ∙ ap (λ more. byte_faults xs ++ more) (append-nil (byte_fault (0 + length xs, x)))
    ∙ ap (λ place. byte_faults xs ++ byte_fault (place, x)) (omega arith)

pub one_more_byte : (found before : List CardByte) (xs : List ℕ) (n d : ℕ) → found ≡ before ++ byte_faults (take n xs) → n < length xs → found ++ byte_fault (n, get_or xs n d) ≡ before ++ byte_faults (take (n + 1) xs)
one_more_byte found before xs n d so_far within =
    ap (λ front. front ++ byte_fault (n, get_or xs n d)) so_far
    ∙ append_assoc before (byte_faults (take n xs)) (byte_fault (n, get_or xs n d))
    ∙ ap (λ more. before ++ more)
    (ap (λ place. byte_faults (take n xs) ++ byte_fault (place, get_or xs n d)) (sym (length-take-le n xs (omega (arith, within))))
    ∙ sym (faults_snoc (take n xs) (get_or xs n d))
    ∙ ap byte_faults (sym (take_more xs n d within)))

pub all_bytes : (found before : List CardByte) (xs : List ℕ) (n : ℕ) → found ≡ before ++ byte_faults (take n xs) → n ≡ length xs → found ≡ before ++ byte_faults xs
all_bytes found before xs n so_far whole = so_far ∙ ap (λ front. before ++ byte_faults front) (ap (λ k. take k xs) whole ∙ take_all (length xs) xs (omega arith))
