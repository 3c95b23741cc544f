-- The letters of halts.
use Rattle.std.proofs.Common.{◌≡◌, ◌≢◌, ◌<◌, ◌≤◌, ℕ, List, [], ◌∷◌, refl, sym, ap, subst, ◌∙◌, length, get_or, arith}
use Rattle.std.specs.Prelude.{map, Option, None}
use Rattle.std.specs.Char.{to_ascii_uppercase}
use Rattle.std.proofs.lemmas.List.{length-map}
use Rattle.s3_operator.specs.declared.halt_code.HaltCode.{HaltCode}
use Rattle.s3_operator.specs.declared.halt_code.HaltCode.TheVariants.{HaltIndicator, UnidentifiedRecord, ZeroDivisor, BadDigit, NoRecordFound, DuplicateKey, OutOfSequence, KeyChanged, NothingToUpdate, FileFull, KeyNotAscending, FaultyJob, NoProgram, FaultySource, NoLabel, DamagedLabel, MasterForUpdate, NoSpace, RetainedFile, DuplicateLabel, LabelMismatch, BadIndex}
use Rattle.s3_operator.specs.Table.{letters_of}
use Rattle.s3_operator.specs.Inner.Codes.{IsCodeOf}
use Rattle.s3_replies.specs.Inner.Rules.{IsHaltOf}

two_letters : (code : HaltCode) → length (letters_of code) ≡ 2
two_letters (HaltIndicator n) = refl
two_letters UnidentifiedRecord = refl
two_letters ZeroDivisor = refl
two_letters BadDigit = refl
two_letters NoRecordFound = refl
two_letters DuplicateKey = refl
two_letters OutOfSequence = refl
two_letters KeyChanged = refl
two_letters NothingToUpdate = refl
two_letters FileFull = refl
two_letters KeyNotAscending = refl
two_letters FaultyJob = refl
two_letters NoProgram = refl
two_letters FaultySource = refl
two_letters NoLabel = refl
two_letters DamagedLabel = refl
two_letters MasterForUpdate = refl
two_letters NoSpace = refl
two_letters RetainedFile = refl
two_letters DuplicateLabel = refl
two_letters LabelMismatch = refl
two_letters BadIndex = refl

-- a word of another length has the letters of no halt
other_length : (word : List ℕ) → length word ≢ 2 → IsHaltOf word None
other_length word other code shown same = other (sym (length-map word to_ascii_uppercase) ∙ ap length (sym same) ∙ two_letters code)

pub too_short : (word : List ℕ) → length word < 2 → IsHaltOf word None
too_short word short = other_length word (λ two. absurd (omega (arith, short, two)))

pub too_long : (word : List ℕ) → 2 < length word → IsHaltOf word None
too_long word long = other_length word (λ two. absurd (omega (arith, long, two)))

-- a word of two letters
in_capitals : (word : List ℕ) (first second d e : ℕ) → length word ≡ 2 → first ≡ to_ascii_uppercase (get_or word 0 d) → second ≡ to_ascii_uppercase (get_or word 1 e)
    → map to_ascii_uppercase word ≡ first ∷ second ∷ []
in_capitals [] first second d e two is_first is_second = absurd (omega (arith, two))
in_capitals (x ∷ []) first second d e two is_first is_second = absurd (omega (arith, two))
in_capitals (x ∷ y ∷ []) first second d e two is_first is_second = rw (is_first, is_second) refl
in_capitals (x ∷ y ∷ z ∷ word) first second d e two is_first is_second = absurd (omega (arith, two))

pub of_two : (word : List ℕ) (first second d e : ℕ) (code : Option HaltCode) → 2 ≤ length word → length word < 3 → first ≡ to_ascii_uppercase (get_or word 0 d) → second ≡ to_ascii_uppercase (get_or word 1 e)
    → IsCodeOf (first ∷ second ∷ []) code → IsHaltOf word code
of_two word first second d e code least below is_first is_second of =
    subst (λ letters. IsCodeOf letters code) (sym (in_capitals word first second d e (omega (arith, least, below)) is_first is_second)) of
