-- Texts that grow piece by piece.
use Rattle.std.proofs.Common.{◌≡◌, ℕ, List, ◌++◌, ap, ◌∙◌, append_assoc}

-- a piece after those that were appended
pub next_piece : (old text after front piece : List ℕ) → text ≡ old ++ front → after ≡ text ++ piece → after ≡ old ++ (front ++ piece)
next_piece old text after front piece so_far next = next ∙ ap (λ t. t ++ piece) so_far ∙ append_assoc old front piece

-- three pieces
pub three_pieces : (old a b c t1 t2 t3 : List ℕ) → t1 ≡ old ++ a → t2 ≡ t1 ++ b → t3 ≡ t2 ++ c → t3 ≡ old ++ (a ++ b ++ c)
three_pieces old a b c t1 t2 t3 e1 e2 e3 = next_piece old t2 t3 (a ++ b) c (next_piece old t1 t2 a b e1 e2) e3

-- five pieces
pub five_pieces : (old a b c d e t1 t2 t3 t4 t5 : List ℕ) → t1 ≡ old ++ a → t2 ≡ t1 ++ b → t3 ≡ t2 ++ c → t4 ≡ t3 ++ d → t5 ≡ t4 ++ e
    → t5 ≡ old ++ (a ++ b ++ c ++ d ++ e)
five_pieces old a b c d e t1 t2 t3 t4 t5 e1 e2 e3 e4 e5 =
    next_piece old t4 t5 (a ++ b ++ c ++ d) e
    (next_piece old t3 t4 (a ++ b ++ c) d (next_piece old t2 t3 (a ++ b) c (next_piece old t1 t2 a b e1 e2) e3) e4) e5

-- nine pieces
pub nine_pieces : (old a b c d e f g h i t1 t2 t3 t4 t5 t6 t7 t8 t9 : List ℕ) → t1 ≡ old ++ a → t2 ≡ t1 ++ b → t3 ≡ t2 ++ c → t4 ≡ t3 ++ d → t5 ≡ t4 ++ e
    → t6 ≡ t5 ++ f → t7 ≡ t6 ++ g → t8 ≡ t7 ++ h → t9 ≡ t8 ++ i → t9 ≡ old ++ (a ++ b ++ c ++ d ++ e ++ f ++ g ++ h ++ i)
nine_pieces old a b c d e f g h i t1 t2 t3 t4 t5 t6 t7 t8 t9 e1 e2 e3 e4 e5 e6 e7 e8 e9 =
    let five = five_pieces old a b c d e t1 t2 t3 t4 t5 e1 e2 e3 e4 e5 in
    let front : List ℕ = a ++ b ++ c ++ d ++ e in
    next_piece old t8 t9 (front ++ f ++ g ++ h) i
    (next_piece old t7 t8 (front ++ f ++ g) h (next_piece old t6 t7 (front ++ f) g (next_piece old t5 t6 front f five e6) e7) e8) e9
