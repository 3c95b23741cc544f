-- What is wrong with the characters of a line.
use Rattle.std.proofs.Common.{◌≡◌, ℕ, ◌+◌, ◌<◌, ◌≤◌, List, [], ◌∷◌, ◌++◌, length, take, get_or, sym, ap, ◌∙◌, append_assoc, arith}
use Rattle.std.proofs.lemmas.List.{length-take-le, take_more, take_all}
use Rattle.std.proofs.lemmas.List.Concat.{flat_map-append}
use Rattle.std.proofs.lemmas.List.{append-nil}
use Rattle.std.specs.Prelude.{IfSome, None, Option, Some}
use Rattle.std.specs.Borrow.{Bor}
use Rattle.std.specs.Option.{option_map_or}
use Rattle.std.specs.List.{enumerate_from, flat_map}
use Rattle.s3_punch.specs.Inner.Cards.{piece_of, with_piece}
use Rattle.s3_punch.specs.Inner.Faults.{character_fault, character_faults, part_fault, part_faults}
use Rattle.s3_punch.specs.declared.fault.PunchFault.{PunchFault}

entries_snoc : {X : Type 0} (n : ℕ) (xs : List X) (x : X) → enumerate_from n (xs ++ x ∷ []) ≡ enumerate_from n xs ++ (n + length xs, x) ∷ []
entries_snoc n [] x = ap (λ place. (place, x) ∷ []) (omega arith)
entries_snoc n (y ∷ ys) x = ap (λ more. (n, y) ∷ more) (entries_snoc (n + 1) ys x ∙ ap (λ place. enumerate_from (n + 1) ys ++ (place, x) ∷ []) (omega arith))

faults_snoc : (line : ℕ) (xs : List ℕ) (x : ℕ) → character_faults line (xs ++ x ∷ []) ≡ character_faults line xs ++ character_fault line (length xs + 1, x)
faults_snoc line xs x =
    ap (flat_map (character_fault line)) (entries_snoc 1 xs x)
    ∙ flat_map-append (character_fault line) (enumerate_from 1 xs) ((1 + length xs, x) ∷ [])
    ∙ ap (λ more. character_faults line xs ++ more) (append-nil (character_fault line (1 + length xs, x)))
    ∙ ap (λ place. character_faults line xs ++ character_fault line (place, x)) (omega arith)

-- what is wrong with one character more
pub one_more_character : (line : ℕ) (found before : List PunchFault) (xs : List ℕ) (n d : ℕ) → found ≡ before ++ character_faults line (take n xs) → n < length xs
    → found ++ character_fault line (n + 1, get_or xs n d) ≡ before ++ character_faults line (take (n + 1) xs)
one_more_character line found before xs n d so_far within =
    ap (λ front. front ++ character_fault line (n + 1, get_or xs n d)) so_far
    ∙ append_assoc before (character_faults line (take n xs)) (character_fault line (n + 1, get_or xs n d))
    ∙ ap (λ more. before ++ more)
    (ap (λ place. character_faults line (take n xs) ++ character_fault line (place + 1, get_or xs n d)) (sym (length-take-le n xs (omega (arith, within))))
    ∙ sym (faults_snoc line (take n xs) (get_or xs n d))
    ∙ ap (character_faults line) (sym (take_more xs n d within)))

pub all_characters : (line : ℕ) (found before : List PunchFault) (xs : List ℕ) (n : ℕ) → found ≡ before ++ character_faults line (take n xs) → n ≡ length xs → found ≡ before ++ character_faults line xs
all_characters line found before xs n so_far whole = so_far ∙ ap (λ front. before ++ character_faults line front) (ap (λ k. take k xs) whole ∙ take_all (length xs) xs (omega arith))

-- what is wrong with one part more
pub one_part_told : (line column next : ℕ) (found more all : List PunchFault) (card laid part : List ℕ) (left parts : List (List ℕ)) → found ++ part_faults line column card left ≡ all → left ≡ part ∷ parts
    → more ≡ found ++ part_fault line column card part (piece_of part) → laid ≡ with_piece card (piece_of part) → next ≡ column + (length part + 1) → more ++ part_faults line next laid parts ≡ all
one_part_told line column next found more all card laid part left parts so_far is tells lays goes =
    let e : next ≡ column + length part + 1 = omega arith in
    ap (λ front. front ++ part_faults line next laid parts) tells
    ∙ ap (λ n. (found ++ part_fault line column card part (piece_of part)) ++ part_faults line n laid parts) e
    ∙ ap (λ c. (found ++ part_fault line column card part (piece_of part)) ++ part_faults line (column + length part + 1) c parts) lays
    ∙ append_assoc found (part_fault line column card part (piece_of part)) (part_faults line (column + length part + 1) (with_piece card (piece_of part)) parts)
    ∙ ap (λ rest. found ++ part_faults line column card rest) (sym is)
    ∙ so_far

-- the column after a part, and the room after it
pub room_behind : (column part rest total : ℕ) (behind : Option (Bor (List ℕ))) → column + (rest + 1) ≤ total → IfSome behind (λ x. part + 1 + length x.now ≡ rest) → part ≤ rest
    → column + (part + 1) + option_map_or (λ x. length x.now + 1) behind 0 ≤ total
room_behind column part rest total None room width within = omega arith
room_behind column part rest total (Some x) room width within = let w : part + 1 + length x.now ≡ rest = width in omega arith
