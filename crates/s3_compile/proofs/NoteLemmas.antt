-- Tables of first entries, filled by a walk over lines.
use Rattle.std.proofs.Common.{◌≡◌, ℕ, ◌+◌, ◌<◌, ◌++◌, length, drop, get_or, zero, suc, List, [], ◌∷◌, Bool, true, false, refl, sym, ◌∙◌, ap, arith, drop-cons, subst, ◌||◌}
use Rattle.std.specs.Prelude.{Option, Some, None, map, option_map, IsTrue}
use Rattle.std.specs.Option.{option_or, option_to_list}
use Rattle.std.proofs.Math.Path.{fun_ext}
use Rattle.std.specs.Map.{lookup}
use Rattle.std.specs.List.{list_any, list_all}
use Rattle.indexmap.specs.IndexMap.{IndexMap, get}
use Rattle.indexmap.specs.IndexSet.{IndexSet, contains}
use Rattle.s3_lines.specs.declared.sheet.InputLine.{InputLine}
use Rattle.s3_lines.specs.declared.sheet.InputLine.TheVariants.{Record, And as AndCodes, Or as OrCodes, Field as FieldOfRecord}
use Rattle.s3_program.specs.declared.program.Meaning.{Meaning}
use Rattle.s3_program.specs.declared.mark.TypeKey.{TypeKey}
use Rattle.s3_program.specs.declared.standing.InputStanding.{InputStanding}
use Rattle.s3_program.specs.Standings.{first_input, behind_input}
use Rattle.s3_program.specs.declared.mark.GroupMark.{GroupMark}
use Rattle.s3_program.specs.declared.mark.TypeMark.{TypeMark}
use Rattle.s3_program.specs.declared.mark.Level.{Level}
use Rattle.s3_program.specs.declared.mark.Key.{Key}
use Rattle.s3_program.specs.declared.mark.Key.TheVariants as key
use Rattle.s3_cards.proofs.DeckLemmas.{option_or_assoc}
use Rattle.s3_program.specs.Matching.{level, group_mark, same_group_mark, same_type, same_type_mark, same_level, all_marks_from, some_marks_from, type_marks_from, types_from, shapes_from, type_on, with_type, first_matched, marks_of, is_type_of, in_all_of, in_some_of, in_type_of, level_shape_of}
use Rattle.s3_diagnose.specs.declared.tables.MarkTables.{MarkTables}
use Rattle.s3_diagnose.specs.Inner.Shown.{marks_shown}
use Rattle.s3_diagnose.specs.Inner.Ranged.{is_ranged_input}
use Rattle.s3_program.proofs.GivenLemmas.{found_in_both}
use Rattle.s3_diagnose.proofs.Walks.{both_first, both_second}
use Rattle.s3_compile.specs.Inner.Noted.{Finds, FindsMore, Has, HasMore, all_on, some_on, in_type_on}

-- ---- a walk: the table and the remaining lines' entries together give what all entries give
pub record Covers {K X S : Type 0} (same : K → K → Bool) (table : IndexMap K X S) (left all : List (K × X)) : Type 0 where
  pub at : (key : K) → option_or (get same table key) (lookup (same key) left) ≡ lookup (same key) all

covers_more : {K X S : Type 0} (same : K → K → Bool) (old new : IndexMap K X S) (xs ys all : List (K × X)) → Covers same old (xs ++ ys) all → FindsMore same old new xs
    → Covers same new ys all
covers_more same old new xs ys all covers more = record {
  at = λ key.
      ap (λ o. option_or o (lookup (same key) ys)) (more.at key)
      ∙ (option_or_assoc (get same old key) (lookup (same key) xs) (lookup (same key) ys)
      ∙ (ap (option_or (get same old key)) (sym (found_in_both (same key) xs ys)) ∙ covers.at key));
}

-- one more line of a walk, which gives the entries of its first line, then those of the others
pub covers_next : {K X S A L : Type 0} (same : K → K → Bool) (on : A → L → List (K × X)) (behind : A → L → A) (walk : A → List L → List (K × X))
    → ((at : A) (line : L) (lines : List L) → walk at (line ∷ lines) ≡ on at line ++ walk (behind at line) lines)
    → (old new : IndexMap K X S) (at next : A) (lines : List L) (i : ℕ) (d : L) (all : List (K × X)) → i < length lines → next ≡ behind at (get_or lines i d)
    → FindsMore same old new (on at (get_or lines i d)) → Covers same old (walk at (drop i lines)) all → Covers same new (walk next (drop (i + 1) lines)) all
covers_next {K} {X} {S} same on behind walk step old new at next lines i d all within is more covers =
    let here = get_or lines i d in
    let rest = drop (i + 1) lines in
    let further : suc i ≡ i + 1 = omega arith in
    let split : drop i lines ≡ here ∷ rest = drop-cons lines i d within ∙ ap (λ n. here ∷ drop n lines) further in
    let parted : walk at (drop i lines) ≡ on at here ++ walk next rest =
    ap (walk at) split ∙ (step at here rest ∙ ap (λ a. on at here ++ walk a rest) (sym is)) in
    covers_more same old new (on at here) (walk next rest) all (subst (λ left. Covers same old left all) parted covers) more

-- an entry that a line gives
pub given_more : {K X S L : Type 0} (same : K → K → Bool) (old new : IndexMap K X S) (level : ℕ → L) (mark : L → K × X) (entry : Option ℕ) (number : ℕ) → entry ≡ Some number
    → FindsMore same old new (mark (level number) ∷ []) → FindsMore same old new (map mark (option_to_list (option_map level entry)))
given_more same old new level mark entry number is more =
    subst (λ e. FindsMore same old new (map mark (option_to_list (option_map level e)))) (sym is) more

-- two equal tests give the same look-ups
pub same_finds : {K X S : Type 0} (eq same : K → K → Bool) → ((a b : K) → eq a b ≡ same a b) → (old new : IndexMap K X S) (entries : List (K × X)) → FindsMore eq old new entries
    → FindsMore same old new entries
same_finds eq same alike old new entries more = subst (λ test. FindsMore test old new entries) (fun_ext (λ a. fun_ext (alike a))) more

-- ---- keys whose derived equality is the equality of their parts
pub level_finds : {X S : Type 0} (eq : Level → Level → Bool) → ((m n : ℕ) → eq (level key.Control m) (level key.Control n) ≡ same_level (level key.Control m) (level key.Control n)) → ((m n : ℕ) → eq (level key.Match m) (level key.Match n) ≡ same_level (level key.Match m) (level key.Match n))
    → ((m n : ℕ) → eq (level key.Control m) (level key.Match n) ≡ same_level (level key.Control m) (level key.Match n)) → ((m n : ℕ) → eq (level key.Match m) (level key.Control n) ≡ same_level (level key.Match m) (level key.Control n))
    → (old new : IndexMap Level X S) (entries : List (Level × X)) → FindsMore eq old new entries → FindsMore same_level old new entries
level_finds eq cc mm cm mc old new entries more = same_finds eq same_level (λ a b. by a.key b.key a.number b.number) old new entries more
  where
    by : (k l : Key) (m n : ℕ) → eq (level k m) (level l n) ≡ same_level (level k m) (level l n)
    by key.Control key.Control m n = cc m n
    by key.Match key.Match m n = mm m n
    by key.Control key.Match m n = cm m n
    by key.Match key.Control m n = mc m n

pub group_finds : {X S : Type 0} (eq : GroupMark → GroupMark → Bool) → ((g h m n : ℕ) → eq (group_mark g (level key.Control m)) (group_mark h (level key.Control n)) ≡ same_group_mark (group_mark g (level key.Control m)) (group_mark h (level key.Control n))) → ((g h m n : ℕ) → eq (group_mark g (level key.Match m)) (group_mark h (level key.Match n)) ≡ same_group_mark (group_mark g (level key.Match m)) (group_mark h (level key.Match n)))
    → ((g h m n : ℕ) → eq (group_mark g (level key.Control m)) (group_mark h (level key.Match n)) ≡ same_group_mark (group_mark g (level key.Control m)) (group_mark h (level key.Match n))) → ((g h m n : ℕ) → eq (group_mark g (level key.Match m)) (group_mark h (level key.Control n)) ≡ same_group_mark (group_mark g (level key.Match m)) (group_mark h (level key.Control n)))
    → (old new : IndexMap GroupMark X S) (entries : List (GroupMark × X)) → FindsMore eq old new entries → FindsMore same_group_mark old new entries
group_finds eq cc mm cm mc old new entries more = same_finds eq same_group_mark (λ a b. by a.level.key b.level.key a.group b.group a.level.number b.level.number) old new entries more
  where
    by : (k l : Key) (g h m n : ℕ) → eq (group_mark g (level k m)) (group_mark h (level l n)) ≡ same_group_mark (group_mark g (level k m)) (group_mark h (level l n))
    by key.Control key.Control g h m n = cc g h m n
    by key.Match key.Match g h m n = mm g h m n
    by key.Control key.Match g h m n = cm g h m n
    by key.Match key.Control g h m n = mc g h m n

pub type_finds : {X S : Type 0} (eq : TypeMark → TypeMark → Bool) → ((g h i j m n : ℕ) → eq (record { group = g; indicator = i; level = level key.Control m }) (record { group = h; indicator = j; level = level key.Control n }) ≡ same_type_mark (record { group = g; indicator = i; level = level key.Control m }) (record { group = h; indicator = j; level = level key.Control n })) → ((g h i j m n : ℕ) → eq (record { group = g; indicator = i; level = level key.Match m }) (record { group = h; indicator = j; level = level key.Match n }) ≡ same_type_mark (record { group = g; indicator = i; level = level key.Match m }) (record { group = h; indicator = j; level = level key.Match n }))
    → ((g h i j m n : ℕ) → eq (record { group = g; indicator = i; level = level key.Control m }) (record { group = h; indicator = j; level = level key.Match n }) ≡ same_type_mark (record { group = g; indicator = i; level = level key.Control m }) (record { group = h; indicator = j; level = level key.Match n })) → ((g h i j m n : ℕ) → eq (record { group = g; indicator = i; level = level key.Match m }) (record { group = h; indicator = j; level = level key.Control n }) ≡ same_type_mark (record { group = g; indicator = i; level = level key.Match m }) (record { group = h; indicator = j; level = level key.Control n }))
    → (old new : IndexMap TypeMark X S) (entries : List (TypeMark × X)) → FindsMore eq old new entries → FindsMore same_type_mark old new entries
type_finds eq cc mm cm mc old new entries more = same_finds eq same_type_mark (λ a b. by a.level.key b.level.key a.group b.group a.indicator b.indicator a.level.number b.level.number) old new entries more
  where
    by : (k l : Key) (g h i j m n : ℕ) → eq (record { group = g; indicator = i; level = level k m }) (record { group = h; indicator = j; level = level l n }) ≡ same_type_mark (record { group = g; indicator = i; level = level k m }) (record { group = h; indicator = j; level = level l n })
    by key.Control key.Control g h i j m n = cc g h i j m n
    by key.Match key.Match g h i j m n = mm g h i j m n
    by key.Control key.Match g h i j m n = cm g h i j m n
    by key.Match key.Control g h i j m n = mc g h i j m n

-- ---- sets
any_of_both : {K : Type 0} (test : K → Bool) (xs ys : List K) → list_any test (xs ++ ys) ≡ list_any test xs || list_any test ys
any_of_both test [] ys = refl
any_of_both test (x ∷ xs) ys = step (test x) (any_of_both test xs ys)
  where
    step : (b : Bool) → list_any test (xs ++ ys) ≡ list_any test xs || list_any test ys → b || list_any test (xs ++ ys) ≡ (b || list_any test xs) || list_any test ys
    step true later = refl
    step false later = later

either_assoc : (a b c : Bool) → (a || b) || c ≡ a || (b || c)
either_assoc true b c = refl
either_assoc false b c = refl

pub record CoversKeys {K S : Type 0} (same : K → K → Bool) (set : IndexSet K S) (left all : List K) : Type 0 where
  pub at : (key : K) → contains same set key || list_any (same key) left ≡ list_any (same key) all

pub covers_keys_next : {K S A L : Type 0} (same : K → K → Bool) (on : A → L → List K) (behind : A → L → A) (walk : A → List L → List K)
    → ((at : A) (line : L) (lines : List L) → walk at (line ∷ lines) ≡ on at line ++ walk (behind at line) lines)
    → (old new : IndexSet K S) (at next : A) (lines : List L) (i : ℕ) (d : L) (all : List K) → i < length lines → next ≡ behind at (get_or lines i d)
    → HasMore same old new (on at (get_or lines i d)) → CoversKeys same old (walk at (drop i lines)) all → CoversKeys same new (walk next (drop (i + 1) lines)) all
covers_keys_next {K} {S} same on behind walk step old new at next lines i d all within is more covers =
    let here = get_or lines i d in
    let rest = drop (i + 1) lines in
    let further : suc i ≡ i + 1 = omega arith in
    let split : drop i lines ≡ here ∷ rest = drop-cons lines i d within ∙ ap (λ n. here ∷ drop n lines) further in
    let parted : walk at (drop i lines) ≡ on at here ++ walk next rest =
    ap (walk at) split ∙ (step at here rest ∙ ap (λ a. on at here ++ walk a rest) (sym is)) in
    record {
      at = λ key.
          ap (λ b. b || list_any (same key) (walk next rest)) (more.at key)
          ∙ (either_assoc (contains same old key) (list_any (same key) (on at here)) (list_any (same key) (walk next rest))
          ∙ (ap (λ b. contains same old key || b) (sym (any_of_both (same key) (on at here) (walk next rest)) ∙ ap (list_any (same key)) (sym parted)) ∙ covers.at key));
    }

-- ---- walks over input lines
pub next_place : (at : InputStanding) (line : InputLine Meaning) → (behind_input at line).place ≡ at.place + 1
next_place at (Record file indicator codes) = refl
next_place at (AndCodes codes) = refl
next_place at (OrCodes indicator codes) = refl
next_place at (FieldOfRecord field) = refl

pub all_step : (at : InputStanding) (line : InputLine Meaning) (lines : List (InputLine Meaning)) → all_marks_from at (line ∷ lines) ≡ all_on at line ++ all_marks_from (behind_input at line) lines
all_step at (Record file indicator codes) lines = refl
all_step at (AndCodes codes) lines = refl
all_step at (OrCodes indicator codes) lines = refl
all_step at (FieldOfRecord field) lines = refl

pub some_step : (is_type : TypeKey → Bool) (at : InputStanding) (line : InputLine Meaning) (lines : List (InputLine Meaning))
    → some_marks_from is_type at (line ∷ lines) ≡ some_on is_type at line ++ some_marks_from is_type (behind_input at line) lines
some_step is_type at (Record file indicator codes) lines = refl
some_step is_type at (AndCodes codes) lines = refl
some_step is_type at (OrCodes indicator codes) lines = refl
some_step is_type at (FieldOfRecord field) lines = refl

pub type_step : (at : InputStanding) (line : InputLine Meaning) (lines : List (InputLine Meaning)) → type_marks_from at (line ∷ lines) ≡ in_type_on at line ++ type_marks_from (behind_input at line) lines
type_step at (Record file indicator codes) lines = refl
type_step at (AndCodes codes) lines = refl
type_step at (OrCodes indicator codes) lines = refl
type_step at (FieldOfRecord field) lines = refl

pub types_step : (at : InputStanding) (line : InputLine Meaning) (lines : List (InputLine Meaning))
    → types_from at (line ∷ lines) ≡ option_to_list (type_on at line) ++ types_from (behind_input at line) lines
types_step at line lines = step (type_on at line) (types_from (behind_input at line) lines)
  where
    step : (o : Option TypeKey) (rest : List TypeKey) → with_type o rest ≡ option_to_list o ++ rest
    step None rest = refl
    step (Some kind) rest = refl

-- ---- ranges
pub ranged_input_at : (lines : List (InputLine Meaning)) (i : ℕ) (d : InputLine Meaning) → i < length lines → IsTrue (list_all is_ranged_input lines)
    → IsTrue (is_ranged_input (get_or lines i d))
ranged_input_at [] i d within all = absurd (omega arith)
ranged_input_at (line ∷ lines) zero d within all = both_first (is_ranged_input line) (list_all is_ranged_input lines) all
ranged_input_at (line ∷ lines) (suc i) d within all = ranged_input_at lines i d (omega arith) (both_second (is_ranged_input line) (list_all is_ranged_input lines) all)

-- ---- all tables of match and control fields
pub marks_found : (tables : MarkTables) (lines : List (InputLine Meaning)) → Has same_type tables.types (types_from first_input lines)
    → Finds same_group_mark tables.in_all (all_marks_from first_input lines)
    → Finds same_group_mark tables.in_some (some_marks_from (contains same_type tables.types) first_input lines)
    → Finds same_type_mark tables.in_type (type_marks_from first_input lines)
    → Finds same_level tables.shapes (shapes_from lines)
    → tables.matched ≡ first_matched (get same_group_mark tables.in_all) (get same_type_mark tables.in_type) (types_from first_input lines)
    → marks_shown tables ≡ marks_of lines
unfolding marks_of is_type_of in_all_of in_some_of in_type_of level_shape_of
marks_found tables lines types all some typed shapes matched =
    let one : contains same_type tables.types ≡ is_type_of lines = fun_ext types.at in
    let two : get same_group_mark tables.in_all ≡ in_all_of lines = fun_ext all.at in
    let found : (TypeKey → Bool) → GroupMark → Option ℕ = λ is_type mark. lookup (same_group_mark mark) (some_marks_from is_type first_input lines) in
    let three : get same_group_mark tables.in_some ≡ in_some_of lines = fun_ext some.at ∙ ap found one in
    let four : get same_type_mark tables.in_type ≡ in_type_of lines = fun_ext typed.at in
    let five : get same_level tables.shapes ≡ level_shape_of lines = fun_ext shapes.at in
    let six : tables.matched ≡ first_matched (in_all_of lines) (in_type_of lines) (types_from first_input lines) =
    matched
    ∙ (ap (λ (f : GroupMark → Option ℕ). first_matched f (get same_type_mark tables.in_type) (types_from first_input lines)) two
    ∙ ap (λ (f : TypeMark → Option ℕ). first_matched (in_all_of lines) f (types_from first_input lines)) four) in
    λ i. record { is_type = one i; in_all = two i; in_some = three i; in_type = four i; shape = five i; matched = six i }
