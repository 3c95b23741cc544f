-- What a search of all halts for two letters finds.
use Rattle.std.proofs.Common.{◌≡◌, ℕ, ◌≤◌, nat_le, nat_eq, Bool, true, false, ◌&&◌, List, [], ◌∷◌, Option, Some, None, zero, suc, slice_get, find, cond, refl, ap, sym, ◌∙◌, arith}
use Rattle.std.specs.Cmp.Lexicographic.{pointwise, same_text}
use Rattle.std.specs.List.{list_all}
use Rattle.std.proofs.lemmas.Bool.{true≢false, and_parts, leb-true}
use Rattle.std.proofs.lemmas.Bool.Decides.{nat_tests}
use Rattle.s3_operator.specs.declared.halt_code.HaltCode.{HaltCode}
use Rattle.s3_operator.specs.declared.halt_code.HaltCode.TheVariants.{HaltIndicator, UnidentifiedRecord, ZeroDivisor, BadDigit, NoRecordFound, DuplicateKey, OutOfSequence, KeyChanged, NothingToUpdate, FileFull, KeyNotAscending, FaultyJob, NoProgram, FaultySource, NoLabel, DamagedLabel, MasterForUpdate, NoSpace, RetainedFile, DuplicateLabel, LabelMismatch, BadIndex}
use Rattle.s3_operator.specs.Table.{letters_of}
use Rattle.s3_operator.specs.Inner.Codes.{IsCodeOf, has_letters, is_shown}

abbrev pub all_halts : List HaltCode
all_halts =
    HaltIndicator 1 ∷ HaltIndicator 2 ∷ HaltIndicator 3 ∷ HaltIndicator 4 ∷ HaltIndicator 5 ∷ HaltIndicator 6 ∷ HaltIndicator 7 ∷ HaltIndicator 8 ∷ HaltIndicator 9
    ∷ UnidentifiedRecord ∷ ZeroDivisor ∷ BadDigit ∷ NoRecordFound ∷ DuplicateKey ∷ OutOfSequence ∷ KeyChanged ∷ NothingToUpdate ∷ FileFull ∷ KeyNotAscending
    ∷ FaultyJob ∷ NoProgram ∷ FaultySource ∷ NoLabel ∷ DamagedLabel ∷ MasterForUpdate ∷ NoSpace ∷ RetainedFile ∷ DuplicateLabel ∷ LabelMismatch ∷ BadIndex ∷ []

-- ---- each halt has a place in the list
abbrev HasPlace : HaltCode → Type 0
HasPlace code = (n : ℕ) × (slice_get all_halts n ≡ Some code)

few : (n : ℕ) → (nat_le 1 n && nat_le n 9) ≡ true → n ≤ 9
few n shown = leb-true n 9 (and_parts (nat_le 1 n) (nat_le n 9) shown).1

indicator_place : (n : ℕ) → (nat_le 1 n && nat_le n 9) ≡ true → HasPlace (HaltIndicator n)
indicator_place zero shown = absurd (true≢false (sym shown))
indicator_place (suc zero) shown = (0, refl)
indicator_place (suc (suc zero)) shown = (1, refl)
indicator_place (suc (suc (suc zero))) shown = (2, refl)
indicator_place (suc (suc (suc (suc zero)))) shown = (3, refl)
indicator_place (suc (suc (suc (suc (suc zero))))) shown = (4, refl)
indicator_place (suc (suc (suc (suc (suc (suc zero)))))) shown = (5, refl)
indicator_place (suc (suc (suc (suc (suc (suc (suc zero))))))) shown = (6, refl)
indicator_place (suc (suc (suc (suc (suc (suc (suc (suc zero)))))))) shown = (7, refl)
indicator_place (suc (suc (suc (suc (suc (suc (suc (suc (suc zero))))))))) shown = (8, refl)
indicator_place (suc (suc (suc (suc (suc (suc (suc (suc (suc (suc n)))))))))) shown = absurd (omega (arith, few (suc (suc (suc (suc (suc (suc (suc (suc (suc (suc n)))))))))) shown))

place : (code : HaltCode) → is_shown code ≡ true → HasPlace code
place (HaltIndicator n) shown = indicator_place n shown
place UnidentifiedRecord shown = (9, refl)
place ZeroDivisor shown = (10, refl)
place BadDigit shown = (11, refl)
place NoRecordFound shown = (12, refl)
place DuplicateKey shown = (13, refl)
place OutOfSequence shown = (14, refl)
place KeyChanged shown = (15, refl)
place NothingToUpdate shown = (16, refl)
place FileFull shown = (17, refl)
place KeyNotAscending shown = (18, refl)
place FaultyJob shown = (19, refl)
place NoProgram shown = (20, refl)
place FaultySource shown = (21, refl)
place NoLabel shown = (22, refl)
place DamagedLabel shown = (23, refl)
place MasterForUpdate shown = (24, refl)
place NoSpace shown = (25, refl)
place RetainedFile shown = (26, refl)
place DuplicateLabel shown = (27, refl)
place LabelMismatch shown = (28, refl)
place BadIndex shown = (29, refl)

-- ---- a search of a list
missed : {X : Type 0} (test : X → Bool) (xs : List X) (n : ℕ) (x : X) → find test xs ≡ None → slice_get xs n ≡ Some x → test x ≡ false
missed test [] n x none at = absurd cc
missed {X} test (y ∷ ys) n x none at = by (test y) refl none n at (λ m rest. missed test ys m x rest)
  where
    by : (b : Bool) → test y ≡ b → cond b (Some y) (find test ys) ≡ None → (n : ℕ) → slice_get (y ∷ ys) n ≡ Some x
        → ((m : ℕ) → find test ys ≡ None → slice_get ys m ≡ Some x → test x ≡ false) → test x ≡ false
    by true passes none n at later = absurd cc
    by false fails none zero at later = let same : y ≡ x = cc in ap test (sym same) ∙ fails
    by false fails none (suc n) at later = later n none at

found : {X : Type 0} (good test : X → Bool) (xs : List X) (x : X) → list_all good xs ≡ true → find test xs ≡ Some x → (test x ≡ true) × (good x ≡ true)
found good test [] x all is = absurd cc
found {X} good test (y ∷ ys) x all is = by (test y) refl is (found good test ys x parts.1)
  where
    parts : (good y ≡ true) × (list_all good ys ≡ true)
    parts = and_parts (good y) (list_all good ys) all

    by : (b : Bool) → test y ≡ b → cond b (Some y) (find test ys) ≡ Some x → (find test ys ≡ Some x → (test x ≡ true) × (good x ≡ true)) → (test x ≡ true) × (good x ≡ true)
    by true passes is later = let same : y ≡ x = cc in (ap test (sym same) ∙ passes, ap good (sym same) ∙ parts.0)
    by false fails is later = later is

same_codes : (codes : List ℕ) → pointwise nat_eq codes codes ≡ true
same_codes [] = refl
same_codes (code ∷ codes) = both (nat_eq code code) (grind (arith, nat_tests)) (same_codes codes)
  where
    both : (a : Bool) {b : Bool} → a ≡ true → b ≡ true → (a && b) ≡ true
    both true p q = q
    both false p q = p

pub code_found : (letters : List ℕ) (answer : Option HaltCode) → answer ≡ find (has_letters letters) all_halts → IsCodeOf letters answer
code_found letters None is =
    λ code shown same. let at : HasPlace code = place code shown in
    absurd (true≢false (sym (ap (λ own. pointwise nat_eq own letters) same ∙ same_codes letters) ∙ missed (has_letters letters) all_halts at.0 code (sym is) at.1))
code_found letters (Some code) is =
    let one : (has_letters letters code ≡ true) × (is_shown code ≡ true) = found is_shown (has_letters letters) all_halts code refl (sym is) in
    (same_text (letters_of code) letters (sym one.0), one.1)
