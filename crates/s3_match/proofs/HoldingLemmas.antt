-- Control fields are held level by level.
use Rattle.std.proofs.Common.{◌≡◌, ℕ, ◌+◌, ◌-◌, ◌<◌, ◌≤◌, ◌==◌, ◌&&◌, drop, List, [], ◌∷◌, Bool, true, false, not, refl, sym, ◌∙◌, ap, subst, arith}
use Rattle.std.specs.Prelude.{Option, Some, None, is_some, find, unwrap_or, option_map, nat_le, if◌then◌else◌}
use Rattle.std.specs.Option.{option_or}
use Rattle.std.specs.List.{list_all}
use Rattle.std.proofs.lemmas.Bool.{and_parts}
use Rattle.std.proofs.lemmas.Bool.Decides.{nat_tests}
use Rattle.std.proofs.lemmas.List.{at_drop_more}
use Rattle.s3_lines.specs.Ranges.{is_between}
use Rattle.s3_meaning.specs.Selection.{control_value, same_key, levels}
use Rattle.s3_program.specs.declared.mark.Key.TheVariants as key
use Rattle.s3_program.specs.declared.program.Program.{Program}
use Rattle.s3_program.specs.declared.starts.TypeStart.{TypeStart}
use Rattle.s3_match.specs.declared.held.HeldField.{HeldField}
use Rattle.s3_match.specs.declared.levels.LevelField.{LevelField}
use Rattle.s3_match.specs.Inner.Types.{is_type_start, kind_at}
use Rattle.s3_match.specs.Inner.Controls.{held_in, breaks_at, break_of}
use Rattle.s3_match.specs.Inner.LevelField.{compared_at, field_in}
use Rattle.s3_match.specs.Inner.Levels.{AreByLevel}
use Rattle.s3_match.specs.Inner.Holding.{AreHeld, AreHeldTo, breaks_by, held_by, value_by}
use Rattle.s3_match.proofs.KeyLemmas.{from_one, level_here, to_nine}
use Rattle.s3_match.proofs.LevelLemmas.{control_at}
use Rattle.s3_match.proofs.HoldLemmas.{unnamed}

-- ---- levels
same_number : (m n : ℕ) → (m == n) ≡ true → m ≡ n
same_number m n h = grind (arith, nat_tests, h)

is_up_to : (a n : ℕ) → a ≤ n → nat_le a n ≡ true
is_up_to a n h = grind (arith, nat_tests, h)

is_above : (a n : ℕ) → n < a → nat_le a n ≡ false
is_above a n h = grind (arith, nat_tests, h)

up_to : (a n : ℕ) → nat_le a n ≡ true → a ≤ n
up_to a n h = grind (arith, nat_tests, h)

above : (a n : ℕ) → nat_le a n ≡ false → n < a
above a n h = grind (arith, nat_tests, h)

-- one level more is among them, and was not before
not_before : (n k : ℕ) → k < 9 → n ≡ 9 - k → is_between (10 - k) 9 n ≡ false
not_before n k within e = ap (λ (b : Bool). b && nat_le n 9) (is_above (10 - k) n (omega (arith, within, e)))

now_among : (n k : ℕ) → k < 9 → n ≡ 9 - k → is_between (10 - (k + 1)) 9 n ≡ true
now_among n k within e = λ i. is_up_to (10 - (k + 1)) n (omega (arith, within, e)) i && is_up_to n 9 (omega (arith, within, e)) i

others_same : (n k : ℕ) → k < 9 → (n == 9 - k) ≡ false → is_between (10 - (k + 1)) 9 n ≡ is_between (10 - k) 9 n
others_same n k within other = ap (λ (b : Bool). b && nat_le n 9) (by (nat_le (10 - k) n) refl)
  where
    apart : (n m : ℕ) → (n == m) ≡ false → n ≡ m → ⊥
    apart n m other e = grind (arith, nat_tests, other, e)

    by : (b : Bool) → nat_le (10 - k) n ≡ b → nat_le (10 - (k + 1)) n ≡ nat_le (10 - k) n
    by true h = let l : 10 - k ≤ n = up_to (10 - k) n h in is_up_to (10 - (k + 1)) n (omega (arith, l)) ∙ sym h
    by false h =
        let l : n < 10 - k = above (10 - k) n h in
        let d : n ≡ 9 - k → ⊥ = apart n (9 - k) other in
        is_above (10 - (k + 1)) n (omega (arith, l, d, within)) ∙ sym h

-- ---- one level
pub held_none : (fields : List (Option LevelField)) (bytes : List ℕ) (held : ℕ → Option (List ℕ)) (level : ℕ) → field_in fields level ≡ None
    → (n : ℕ) → held n ≡ (if n == level then held_by fields bytes held n else held n)
held_none fields bytes held level none n = by (n == level) refl
  where
    by : (b : Bool) → (n == level) ≡ b → held n ≡ (if b then held_by fields bytes held n else held n)
    by true h = sym (ap (λ (o : Option (List ℕ)). option_or o (held n)) (ap (value_by fields bytes) (same_number n level h) ∙ ap (option_map (compared_at bytes)) none))
    by false h = refl

pub held_some : (fields : List (Option LevelField)) (bytes : List ℕ) (old new : ℕ → Option (List ℕ)) (level : ℕ) (value : List ℕ) → value_by fields bytes level ≡ Some value
    → ((n : ℕ) → new n ≡ (if n == level then Some value else old n)) → (n : ℕ) → new n ≡ (if n == level then held_by fields bytes old n else old n)
held_some fields bytes old new level value is step n = step n ∙ by (n == level) refl
  where
    by : (b : Bool) → (n == level) ≡ b → (if b then Some value else old n) ≡ (if b then held_by fields bytes old n else old n)
    by true h = sym (ap (λ (o : Option (List ℕ)). option_or o (old n)) (ap (value_by fields bytes) (same_number n level h) ∙ is))
    by false h = refl

-- ---- level by level
pub held_at_first : (fields : List (Option LevelField)) (bytes : List ℕ) (old : List HeldField) → AreHeldTo fields bytes 0 old old 0
held_at_first fields bytes old = record { held = λ n. sym (ap (λ (b : Bool). if b then held_by fields bytes (held_in old) n else held_in old n) (none n)); breaks = refl }
  where
    by : (a b : Bool) (n : ℕ) → nat_le 10 n ≡ a → nat_le n 9 ≡ b → (a && b) ≡ false
    by true true n low high = let l : 10 ≤ n = up_to 10 n low in let h : n ≤ 9 = up_to n 9 high in absurd (omega (arith, l, h))
    by true false n low high = refl
    by false b n low high = refl

    none : (n : ℕ) → is_between 10 9 n ≡ false
    none n = by (nat_le 10 n) (nat_le n 9) n refl refl

next_break : (target broken level result : ℕ) (rest : Option ℕ) (b : Bool) → 0 < level → target ≡ (if broken == 0 then unwrap_or (if b then Some level else rest) 0 else broken)
    → result ≡ (if b && broken == 0 then level else broken) → target ≡ (if result == 0 then unwrap_or rest 0 else result)
next_break target broken level result rest b some before e = subst (λ (n : ℕ). target ≡ (if n == 0 then unwrap_or rest 0 else n)) (sym e) (by b (broken == 0) refl before)
  where
    nonzero : (n : ℕ) → 0 < n → (n == 0) ≡ false
    nonzero n h = grind (arith, nat_tests, h)

    by : (b none : Bool) → (broken == 0) ≡ none → target ≡ (if none then unwrap_or (if b then Some level else rest) 0 else broken)
        → target ≡ (if (if b && none then level else broken) == 0 then unwrap_or rest 0 else (if b && none then level else broken))
    by true true is before = before ∙ sym (ap (λ (c : Bool). if c then unwrap_or rest 0 else level) (nonzero level some))
    by true false is before = before ∙ sym (ap (λ (c : Bool). if c then unwrap_or rest 0 else broken) is)
    by false none is before = before ∙ sym (ap (λ (c : Bool). if c then unwrap_or rest 0 else broken) is)

pub held_more : (fields : List (Option LevelField)) (bytes : List ℕ) (k : ℕ) (old mid new : List HeldField) (broken result : ℕ) (breaks : Bool) → k < 9
    → ((n : ℕ) → held_in new n ≡ (if n == 9 - k then held_by fields bytes (held_in mid) n else held_in mid n)) → breaks ≡ breaks_by fields bytes (held_in mid) (9 - k)
    → result ≡ (if breaks && broken == 0 then 9 - k else broken) → AreHeldTo fields bytes k old mid broken → AreHeldTo fields bytes (k + 1) old new result
held_more fields bytes k old mid new broken result breaks within step is e before = record {
  held = λ n. step n ∙ by n (n == 9 - k) refl;
  breaks = next_break (unwrap_or (find p levels) 0) broken (9 - k) result (find p (drop (k + 1) levels)) (p (9 - k)) (omega (arith, within))
      (before.breaks ∙ ap (λ (o : Option ℕ). if broken == 0 then unwrap_or o 0 else broken) (at_drop_more (find p) levels k 0 within ∙ ap (λ n. find p (n ∷ drop (k + 1) levels)) (level_here k within)))
      (e ∙ ap (λ (b : Bool). if b && broken == 0 then 9 - k else broken) (is ∙ ap (λ (o : Option (List ℕ)). is_some (value_by fields bytes (9 - k)) && not (same_key (value_by fields bytes (9 - k)) o)) (still (9 - k) refl)));
}
  where
    p : ℕ → Bool
    p = breaks_by fields bytes (held_in old)

    still : (n : ℕ) → n ≡ 9 - k → held_in mid n ≡ held_in old n
    still n here = before.held n ∙ ap (λ (b : Bool). if b then held_by fields bytes (held_in old) n else held_in old n) (not_before n k within here)

    by : (n : ℕ) (b : Bool) → (n == 9 - k) ≡ b → (if b then held_by fields bytes (held_in mid) n else held_in mid n)
        ≡ (if is_between (10 - (k + 1)) 9 n then held_by fields bytes (held_in old) n else held_in old n)
    by n true h =
        let here : n ≡ 9 - k = same_number n (9 - k) h in
        ap (option_or (value_by fields bytes n)) (still n here)
        ∙ sym (ap (λ (b : Bool). if b then held_by fields bytes (held_in old) n else held_in old n) (now_among n k within here))
    by n false h = before.held n ∙ sym (ap (λ (b : Bool). if b then held_by fields bytes (held_in old) n else held_in old n) (others_same n k within h))

pub all_held : (fields : List (Option LevelField)) (bytes : List ℕ) (k : ℕ) (old new : List HeldField) (broken : ℕ) → k ≡ 9 → AreHeldTo fields bytes k old new broken → AreHeld fields bytes old new broken
all_held fields bytes k old new broken e are =
    let to : AreHeldTo fields bytes 9 old new broken = subst (λ (n : ℕ). AreHeldTo fields bytes n old new broken) e are in
    record { held = to.held; breaks = by (broken == 0) refl ∙ sym to.breaks }
  where
    by : (b : Bool) → (broken == 0) ≡ b → broken ≡ (if b then 0 else broken)
    by true h = same_number broken 0 h
    by false h = refl

-- ---- the control fields of a type
found_same : (p q : ℕ → Bool) (ns : List ℕ) → list_all (is_between 1 9) ns ≡ true → ((n : ℕ) → 1 ≤ n → n ≤ 9 → p n ≡ q n) → find p ns ≡ find q ns
found_same p q [] within same = refl
found_same p q (n ∷ ns) within same =
    let parts = and_parts (is_between 1 9 n) (list_all (is_between 1 9) ns) within in
    λ i. if same n (from_one n parts.0) (to_nine n parts.0) i then Some n else found_same p q ns parts.1 same i

pub break_of_type : (program : Program) (start : TypeStart) (fields : List (Option LevelField)) (bytes : List ℕ) (old new : List HeldField) (broken : ℕ) → AreByLevel key.Control program start fields
    → AreHeld fields bytes old new broken → broken ≡ break_of (held_in old) (kind_at program start) bytes
break_of_type program start fields bytes old new broken are held =
    held.breaks
    ∙ ap (λ (o : Option ℕ). unwrap_or o 0) (found_same (breaks_by fields bytes (held_in old)) (breaks_at (held_in old) (kind_at program start) bytes) levels refl
    (λ n one nine. ap (λ (o : Option (List ℕ)). is_some o && not (same_key o (held_in old n))) (control_at program start fields bytes n are one nine)))

pub held_of_type : (program : Program) (start : TypeStart) (fields : List (Option LevelField)) (bytes : List ℕ) (old new : List HeldField) (broken : ℕ) → is_type_start program start ≡ true → AreByLevel key.Control program start fields
    → AreHeld fields bytes old new broken → (n : ℕ) → held_in new n ≡ option_or (control_value (kind_at program start) bytes n) (held_in old n)
held_of_type program start fields bytes old new broken is are held n = held.held n ∙ by (is_between 1 9 n) refl
  where
    by : (b : Bool) → is_between 1 9 n ≡ b → (if b then held_by fields bytes (held_in old) n else held_in old n) ≡ option_or (control_value (kind_at program start) bytes n) (held_in old n)
    by true h = ap (λ (o : Option (List ℕ)). option_or o (held_in old n)) (control_at program start fields bytes n are (from_one n h) (to_nine n h))
    by false h = sym (ap (λ (o : Option (List ℕ)). option_or o (held_in old n)) (unnamed program start bytes n is h))
