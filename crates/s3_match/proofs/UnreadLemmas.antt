-- The first file from a place on that is to be read.
use Rattle.std.proofs.Common.{◌≡◌, ℕ, ◌+◌, ◌<◌, ◌≤◌, ◌==◌, ◌||◌, length, get_or, List, [], ◌∷◌, zero, suc, Bool, true, false, refl, sym, ◌∙◌, ap, subst, arith, inl, inr}
use Rattle.std.specs.List.{list_any}
use Rattle.std.proofs.lemmas.Bool.{cases_Bool, true≢false}
use Rattle.std.proofs.lemmas.Bool.Decides.{nat_tests}
use Rattle.std.proofs.lemmas.List.{length-map, get_or-map}
use Rattle.s3_meaning.specs.Selection as meaning
use Rattle.s3_program.specs.declared.program.Program.{Program}
use Rattle.s3_match.specs.declared.heads.InputFile.{InputFile}
use Rattle.s3_match.specs.declared.heads.Standing.{Standing}
use Rattle.s3_match.specs.declared.heads.Standing.TheVariants as at
use Rattle.s3_match.specs.Inner.Heads.{is_unread, is_unread_standing, input_of}
use Rattle.s3_match.specs.Inner.Selecting.{inputs_of}
use Rattle.s3_match.specs.Inner.Reading.{no_input, input_at, is_unread_at, AreRead, IsNextUnread}
use Rattle.s3_match.proofs.SelectLemmas.{with_standing}

pub unread_same : (program : Program) (input : InputFile) → meaning.is_unread (input_of program input) ≡ is_unread input
unread_same program input = by input.standing
  where
    by : (standing : Standing) → meaning.is_unread (with_standing program input standing) ≡ is_unread_standing standing
    by at.Unread = refl
    by (at.Stands start) = refl
    by at.Ended = refl

unread_shown : (program : Program) (files : List InputFile) (k : ℕ) (d : InputFile) (b : Bool) → k < length files → is_unread (get_or files k d) ≡ b → meaning.is_unread (input_at (inputs_of program files) k) ≡ b
unread_shown program files k d b within is = ap meaning.is_unread (get_or-map (input_of program) files k d no_input within) ∙ unread_same program (get_or files k d) ∙ is

pub none_between : (inputs : List meaning.InputFile) (from : ℕ) → AreRead inputs from from
none_between inputs from = record { each = λ k low high. absurd (omega (arith, low, high)) }

pub one_more_read : (program : Program) (files : List InputFile) (from place : ℕ) (d : InputFile) → place < length files → is_unread (get_or files place d) ≡ false → AreRead (inputs_of program files) from place
    → AreRead (inputs_of program files) from (place + 1)
one_more_read program files from place d within is before = record {
  each = λ k low high. elim (cases_Bool (k == place)) [
    | inl same ↦ subst (λ (n : ℕ). meaning.is_unread (input_at (inputs_of program files) n) ≡ false) (sym (number k place same)) (unread_shown program files place d false within is)
    | inr other ↦ before.each k low (below k place other high)
  ];
}
  where
    number : (m n : ℕ) → (m == n) ≡ true → m ≡ n
    number m n h = grind (arith, nat_tests, h)

    below : (m n : ℕ) → (m == n) ≡ false → m < n + 1 → m < n
    below m n h less = grind (arith, nat_tests, h, less)

pub next_there : (program : Program) (files : List InputFile) (from place : ℕ) (d : InputFile) → from ≤ place → place < length files → is_unread (get_or files place d) ≡ true → AreRead (inputs_of program files) from place
    → IsNextUnread (inputs_of program files) from place
next_there program files from place d behind within is before = record {
  behind = behind;
  within = omega (arith, length-map files (input_of program), within);
  unread = unread_shown program files place d true within is;
  before = before;
}

pub read_past : (inputs : List meaning.InputFile) (from to less : ℕ) → less ≤ to → AreRead inputs from to → AreRead inputs from less
read_past inputs from to less h before = record { each = λ k low high. before.each k low (omega (arith, high, h)) }

-- ---- some file is to be read
pub some_left : (program : Program) (files : List InputFile) (k : ℕ) → is_unread_at files k ≡ true → list_any meaning.is_unread (inputs_of program files) ≡ true
some_left program [] k h = absurd (true≢false (sym h))
some_left program (input ∷ files) zero h = ap (λ (b : Bool). b || list_any meaning.is_unread (inputs_of program files)) (unread_same program input ∙ h)
some_left program (input ∷ files) (suc k) h = either (meaning.is_unread (input_of program input)) (some_left program files k h)
  where
    either : (b : Bool) {c : Bool} → c ≡ true → (b || c) ≡ true
    either true h = refl
    either false h = h
