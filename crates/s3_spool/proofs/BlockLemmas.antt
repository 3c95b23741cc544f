-- The bytes of a block.
use Rattle.std.proofs.Common.{◌≡◌, ℕ, ◌+◌, ◌-◌, ◌<◌, ◌≤◌, List, [], ◌∷◌, ◌++◌, length, take, drop, replicate, sym, ap, ◌∙◌, arith, append_assoc, drop-drop, length-append}
use Rattle.std.proofs.Math.Seq.{take-append_seam, drop-append_seam}
use Rattle.std.proofs.lemmas.List.{drop-replicate, length-replicate, length-take-le, take-take}
use Rattle.byteorder.specs.Endian.{big_bytes}
use Rattle.s3_store.specs.Bytes.{part}
use Rattle.s3_cards.specs.Printed.{Printed}
use Rattle.s3_cards.specs.declared.ebcdic.TheConstants.{BLANK}
use Rattle.s3_spool.specs.Inner.Queues.{block_bytes, line_of_block, text_length}
use Rattle.byteorder.specs.Numbers.{big_number-reads_back}
use Rattle.std.proofs.lemmas.Bool.Decides.{nat_tests}

-- a head of four bytes and a text laid over zeros
laid : (a b c d n : ℕ) (text first second : List ℕ)
    → first ≡ ([] ++ (a ∷ b ∷ c ∷ d ∷ [])) ++ drop 4 (replicate 256 0)
    → second ≡ (take 4 first ++ text) ++ drop (4 + n) first
    → second ≡ (a ∷ b ∷ c ∷ d ∷ []) ++ (text ++ replicate (252 - n) 0)
laid a b c d n text first second one two =
    two
    ∙ ap (λ f. (take 4 f ++ text) ++ drop (4 + n) f) one
    ∙ ap (λ rest. (a ∷ b ∷ c ∷ d ∷ text) ++ rest) (sym (drop-drop n 4 (a ∷ b ∷ c ∷ d ∷ replicate 252 0)))
    ∙ append_assoc (a ∷ b ∷ c ∷ d ∷ []) text (drop n (replicate 252 0))
    ∙ ap (λ rest. (a ∷ b ∷ c ∷ d ∷ []) ++ (text ++ rest)) (drop-replicate n 252 0)

-- a text laid in two parts
pub two_parts : (block front rest text first second : List ℕ) → length block ≡ 256 → length front ≡ 128 → length rest ≡ 4 → text ≡ front ++ rest
    → first ≡ (take 4 block ++ front) ++ drop (4 + length front) block
    → second ≡ (take 132 first ++ rest) ++ drop (132 + length rest) first
    → second ≡ (take 4 block ++ text) ++ drop (4 + length text) block
two_parts block front rest text first second whole front_long rest_long are one two =
    let laid' : List ℕ = take 4 block ++ front in
    let n : length laid' ≡ 132 = omega (arith, length-append (take 4 block) front, length-take-le 4 block (omega arith)) in
    let head : 4 + length front ≡ 132 = omega arith in
    let all : 4 + length text ≡ 136 = omega (arith, ap length are, length-append front rest) in
    let end : 132 + length rest ≡ 136 = omega arith in
    let one' : first ≡ laid' ++ drop 132 block = one ∙ ap (λ m. laid' ++ drop m block) head in
    let before : take 132 first ≡ laid' = ap (take 132) one' ∙ (ap (λ m. take m (laid' ++ drop 132 block)) (sym n) ∙ take-append_seam laid' (drop 132 block)) in
    let behind : drop 136 first ≡ drop 136 block =
    ap (drop 136) one'
    ∙ (sym (drop-drop 4 132 (laid' ++ drop 132 block))
    ∙ (ap (drop 4) (ap (λ m. drop m (laid' ++ drop 132 block)) (sym n) ∙ drop-append_seam laid' (drop 132 block)) ∙ drop-drop 4 132 block)) in
    let text' : laid' ++ rest ≡ take 4 block ++ text = append_assoc (take 4 block) front rest ∙ ap (λ x. take 4 block ++ x) (sym are) in
    two
    ∙ (ap (λ m. (take 132 first ++ rest) ++ drop m first) end
    ∙ (ap (λ x. (x ++ rest) ++ drop 136 first) before
    ∙ (ap (λ x. x ++ drop 136 first) text'
    ∙ (ap (λ x. (take 4 block ++ text) ++ x) behind ∙ ap (λ m. (take 4 block ++ text) ++ drop m block) (sym all)))))

pub block_put_together : (line : Printed) (zeros first second : List ℕ) → zeros ≡ replicate 256 0
    → first ≡ (take 0 zeros ++ (big_bytes 2 line.page ++ line.line ∷ length line.text ∷ [])) ++ drop 4 zeros
    → second ≡ (take 4 first ++ line.text) ++ drop (4 + length line.text) first
    → second ≡ block_bytes line
block_put_together line zeros first second are one two =
    laid _ _ line.line (length line.text) (length line.text) line.text first second
    (one ∙ ap (λ z. (take 0 z ++ (big_bytes 2 line.page ++ line.line ∷ length line.text ∷ [])) ++ drop 4 z) are) two

pub take_padded : (text : List ℕ) (n : ℕ) (padding : List ℕ) → n ≡ length text → take n (text ++ padding) ≡ text
take_padded text n padding same = ap (λ m. take m (text ++ padding)) same ∙ take-append_seam text padding

pub drop_padded : (text : List ℕ) (n : ℕ) (padding : List ℕ) → n ≡ length text → drop n (text ++ padding) ≡ padding
drop_padded text n padding same = ap (λ m. drop m (text ++ padding)) same ∙ drop-append_seam text padding

-- all positions of a block, with blanks after its text
pub text_of_positions : (block positions blanked : List ℕ) (n : ℕ) → n ≤ 132 → length positions ≡ 132 → positions ≡ take 132 (drop 4 block)
    → blanked ≡ take n positions ++ replicate (length positions - n) BLANK → blanked ≡ part block 4 n ++ replicate (132 - n) BLANK
text_of_positions block positions blanked n short whole are blanks =
    blanks
    ∙ ap (λ m. take n positions ++ replicate (m - n) BLANK) whole
    ∙ ap (λ text. text ++ replicate (132 - n) BLANK) (ap (take n) are ∙ take-take n 132 (drop 4 block) short)

length-kept : (n : ℕ) → 1 ≤ n → n ≤ 132 → text_length n ≡ n
length-kept n low high = grind (arith, nat_tests)

printed : ℕ → ℕ → List ℕ → Printed
printed page line text = record { page = page; line = line; text = text }

-- what is put into a block is read from it
pub block_reads_back : (line : Printed) → line.page < 65536 → 1 ≤ length line.text → length line.text ≤ 132 → line_of_block (block_bytes line) ≡ line
unfolding printed
block_reads_back line few low high =
    ap (λ page. printed page line.line (take (text_length (length line.text)) (line.text ++ replicate (252 - length line.text) 0)))
    (big_number-reads_back 2 line.page (line.line ∷ length line.text ∷ (line.text ++ replicate (252 - length line.text) 0)) few)
    ∙ ap (λ text. printed line.page line.line text)
    (ap (λ n. take n (line.text ++ replicate (252 - length line.text) 0)) (length-kept (length line.text) low high)
    ∙ take-append_seam line.text (replicate (252 - length line.text) 0))

pub block_is_whole : (line : Printed) → length line.text ≤ 132 → length (block_bytes line) ≡ 256
block_is_whole line short =
    omega (arith, length-append line.text (replicate (252 - length line.text) 0), length-replicate {A = ℕ} (252 - length line.text) 0)
