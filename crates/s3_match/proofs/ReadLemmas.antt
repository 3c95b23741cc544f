-- The files are read on from a place.
use Rattle.std.proofs.Common.{◌≡◌, ℕ, ◌+◌, ◌-◌, ◌<◌, ◌≤◌, ◌++◌, length, take, drop, set, List, [], ◌∷◌, Bool, false, refl, sym, ◌∙◌, ap, append_assoc, zero, suc, arith, if◌then◌else◌}
use Rattle.std.proofs.lemmas.List.{at_drop_more, at_drop_all, take_more, take_more_set, take_all, append-nil, drop-set-lt}
use Rattle.s3_meaning.specs.Source.{Source}
use Rattle.s3_meaning.specs.Environment.{Environment}
use Rattle.s3_meaning.specs.Runs.{Rest, Anew}
use Rattle.s3_meaning.specs.Selection.{InputFile, is_unread}
use Rattle.s3_meaning.specs.Cycle.{files_read, file_read}
use Rattle.s3_match.specs.Inner.Reading.{no_input, input_at, AreRead, IsNextUnread, read_from}

-- all files are read on from the first place
pub read_whole : (source : Source) (anew : Anew) (inputs : List InputFile) (go : List InputFile → Rest) → files_read source anew inputs go ≡ read_from source anew inputs 0 go
unfolding read_from
read_whole source anew inputs go = refl

-- the earlier ones come first
one_longer : (inputs later : List InputFile) (k : ℕ) → k < length inputs → take k inputs ++ input_at inputs k ∷ later ≡ take (k + 1) inputs ++ later
one_longer inputs later k within =
    sym (append_assoc (take k inputs) (input_at inputs k ∷ []) later) ∙ ap (λ (xs : List InputFile). xs ++ later) (sym (take_more inputs k no_input within))

-- a file with a head, or one that has ended, is unchanged
stays : (source : Source) (anew : Anew) (inputs : List InputFile) (k : ℕ) (go : List InputFile → Rest) (e : Environment) → k < length inputs → is_unread (input_at inputs k) ≡ false
    → read_from source anew inputs k go e ≡ read_from source anew inputs (k + 1) go e
unfolding read_from files_read
stays source anew inputs k go e within read =
    at_drop_more (λ (xs : List InputFile). files_read source anew xs (λ later. go (take k inputs ++ later)) e) inputs k no_input within
    ∙ ap (λ (b : Bool). (if b
    then file_read source anew (input_at inputs k) (λ input. files_read source anew (drop (k + 1) inputs) (λ later. go (take k inputs ++ input ∷ later)))
    else files_read source anew (drop (k + 1) inputs) (λ later. go (take k inputs ++ input_at inputs k ∷ later))) e) read
    ∙ (λ i. files_read source anew (drop (k + 1) inputs) (λ later. go (one_longer inputs later k within i)) e)

passed : (source : Source) (anew : Anew) (inputs : List InputFile) (from to n : ℕ) (go : List InputFile → Rest) (e : Environment) → from + n ≡ to → to ≤ length inputs → AreRead inputs from to
    → read_from source anew inputs from go e ≡ read_from source anew inputs to go e
passed source anew inputs from to zero go e long within read = ap (λ (k : ℕ). read_from source anew inputs k go e) (omega (arith, long))
passed source anew inputs from to (suc n) go e long within read =
    stays source anew inputs from go e (omega (arith, long, within)) (read.each from (omega arith) (omega (arith, long)))
    ∙ passed source anew inputs (from + 1) to n go e (omega (arith, long)) within (record { each = λ k low high. read.each k (omega (arith, low)) high })

-- where none is left to read
pub read_none : (source : Source) (anew : Anew) (inputs : List InputFile) (from : ℕ) (go : List InputFile → Rest) (e : Environment) → from ≤ length inputs → AreRead inputs from (length inputs)
    → read_from source anew inputs from go e ≡ go inputs e
unfolding read_from files_read
read_none source anew inputs from go e within read =
    let n : (n : ℕ) × (from + n ≡ length inputs) = between from (length inputs) within in
    passed source anew inputs from (length inputs) n.0 go e n.1 (omega arith) read
    ∙ at_drop_all (λ (xs : List InputFile). files_read source anew xs (λ later. go (take (length inputs) inputs ++ later)) e) inputs (length inputs) (omega arith)
    ∙ ap (λ (xs : List InputFile). go xs e) (whole inputs)
  where
    between : (a b : ℕ) → a ≤ b → (n : ℕ) × (a + n ≡ b)
    between a b h = (b - a, omega (arith, h))

    whole : (xs : List InputFile) → take (length xs) xs ++ [] ≡ xs
    whole xs = append-nil (take (length xs) xs) ∙ take_all (length xs) xs (omega arith)

-- the next one that is to be read
pub read_next : (source : Source) (anew : Anew) (inputs : List InputFile) (from place : ℕ) (go : List InputFile → Rest) (e : Environment) → IsNextUnread inputs from place
    → read_from source anew inputs from go e ≡ file_read source anew (input_at inputs place) (λ input. read_from source anew (set inputs place input) (place + 1) go) e
unfolding read_from files_read
read_next source anew inputs from place go e next =
    let n : (n : ℕ) × (from + n ≡ place) = (place - from, omega (arith, next.behind)) in
    passed source anew inputs from place n.0 go e n.1 (omega (arith, next.within)) next.before
    ∙ at_drop_more (λ (xs : List InputFile). files_read source anew xs (λ later. go (take place inputs ++ later)) e) inputs place no_input next.within
    ∙ ap (λ (b : Bool). (if b
    then file_read source anew (input_at inputs place) (λ input. files_read source anew (drop (place + 1) inputs) (λ later. go (take place inputs ++ input ∷ later)))
    else files_read source anew (drop (place + 1) inputs) (λ later. go (take place inputs ++ input_at inputs place ∷ later))) e) next.unread
    ∙ (λ i. file_read source anew (input_at inputs place) (λ input. files_read source anew (behind input i) (λ later. go (longer input later i))) e)
  where
    behind : (input : InputFile) → drop (place + 1) inputs ≡ drop (place + 1) (set inputs place input)
    behind input = sym (drop-set-lt (place + 1) inputs place input (omega arith))

    longer : (input : InputFile) (later : List InputFile) → take place inputs ++ input ∷ later ≡ take (place + 1) (set inputs place input) ++ later
    longer input later =
        sym (append_assoc (take place inputs) (input ∷ []) later) ∙ ap (λ (xs : List InputFile). xs ++ later) (sym (take_more_set inputs place input next.within))
