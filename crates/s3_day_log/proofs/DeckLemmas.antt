-- The files of a deck beside those of a log.
use Rattle.std.proofs.Common.{◌≡◌, ◌≢◌, ◌⊎◌, inl, inr, ℕ, ◌+◌, ◌<◌, ◌≤◌, Bool, true, false, true≢false, List, [], length, take, take_all, get_or, map, Some, None, option_map, slice_get, refl, sym, ap, subst, ◌∙◌, arith}
use Rattle.std.specs.Str.{bytes_eq}
use Rattle.std.specs.Prelude.{String}
use Rattle.std.specs.String.{string_bytes}
use Rattle.std.proofs.lemmas.List.{take_more_same, length-map}
use Rattle.std.proofs.lemmas.Option.{slice_get-map, slice_get_read, slice_get_past, slice_get-get_or, get_or_from_slice_get}
use Rattle.std.proofs.lemmas.Slice.Eq.{bytes_eq-Decides}
use Rattle.s3_day_log.specs.declared.event.NamedFile.{NamedFile}
use Rattle.s3_day_log.specs.Inner.Tested.{Differs, sum_of}

logged_at : (files : List NamedFile) (i : ℕ) (file : NamedFile) → i < length files → file ≡ get_or files i file → slice_get (map sum_of files) i ≡ Some (sum_of file)
logged_at files i file within at = slice_get-map sum_of files i ∙ ap (option_map sum_of) (slice_get_read files (length files) i file refl within at)

given_at : {Z : Type 0} (sums : List (String Z)) (i : ℕ) (sum : String Z) → i < length sums → sum ≡ get_or sums i sum → slice_get (map string_bytes sums) i ≡ Some (string_bytes sum)
given_at sums i sum within at = slice_get-map string_bytes sums i ∙ ap (option_map string_bytes) (slice_get_read sums (length sums) i sum refl within at)

-- a test of two files, as it was made over a reference to one
pub tested_there : {Z : Type 0} (file there : NamedFile) (sum : String Z) (text : List ℕ) (is_same found : Bool)
    → file ≡ there → text ≡ string_bytes sum → is_same ≡ bytes_eq (sum_of there) text → is_same ≡ found
    → bytes_eq (sum_of file) (string_bytes sum) ≡ found
tested_there file there sum text is_same found file_is text_is tested found_so =
    ap (λ (f : NamedFile). bytes_eq (sum_of f) (string_bytes sum)) file_is
    ∙ (ap (λ (t : List ℕ). bytes_eq (sum_of there) t) (sym text_is) ∙ (sym tested ∙ found_so))

-- one file more is the same
pub same_further : {Z : Type 0} (files : List NamedFile) (sums : List (String Z)) (i : ℕ) (file : NamedFile) (sum : String Z)
    → i < length files → i < length sums → file ≡ get_or files i file → sum ≡ get_or sums i sum
    → bytes_eq (sum_of file) (string_bytes sum) ≡ true
    → take i (map sum_of files) ≡ take i (map string_bytes sums)
    → take (i + 1) (map sum_of files) ≡ take (i + 1) (map string_bytes sums)
same_further files sums i file sum in_files in_sums at_files at_sums same before =
    let one : get_or (map sum_of files) i (sum_of file) ≡ sum_of file = get_or_from_slice_get (map sum_of files) i (sum_of file) (sum_of file) (logged_at files i file in_files at_files) in
    let two : get_or (map string_bytes sums) i (sum_of file) ≡ string_bytes sum = get_or_from_slice_get (map string_bytes sums) i (string_bytes sum) (sum_of file) (given_at sums i sum in_sums at_sums) in
    let long_files = length-map files sum_of in
    let long_sums = length-map sums string_bytes in
    take_more_same (map sum_of files) (map string_bytes sums) i (sum_of file) (omega (arith, long_files)) (omega (arith, long_sums)) before
    (one ∙ ((bytes_eq-Decides (sum_of file) (string_bytes sum)).0 same ∙ sym two))

-- this file is another one
pub differs_here : {Z : Type 0} (files : List NamedFile) (sums : List (String Z)) (i : ℕ) (file : NamedFile) (sum : String Z)
    → i < length files → i < length sums → file ≡ get_or files i file → sum ≡ get_or sums i sum
    → bytes_eq (sum_of file) (string_bytes sum) ≡ false
    → take i (map sum_of files) ≡ take i (map string_bytes sums)
    → Differs (i + 1) (map sum_of files) (map string_bytes sums)
differs_here files sums i file sum in_files in_sums at_files at_sums other before = record {
  at = i;
  is = refl;
  before = before;
  here = λ same.
      let one : slice_get (map sum_of files) i ≡ Some (sum_of file) = logged_at files i file in_files at_files in
      let two : slice_get (map string_bytes sums) i ≡ Some (string_bytes sum) = given_at sums i sum in_sums at_sums in
      let alike : sum_of file ≡ string_bytes sum = cc in
      true≢false (sym ((bytes_eq-Decides (sum_of file) (string_bytes sum)).1 alike) ∙ other);
}

-- on one side no file is left
none_left : (shorter longer : List (List ℕ)) (i : ℕ) → length shorter ≡ i → i < length longer → slice_get shorter i ≢ slice_get longer i
none_left shorter longer i none some = λ same.
    let one : slice_get shorter i ≡ None = slice_get_past shorter i (omega (arith, none)) in
    let two : slice_get longer i ≡ Some (get_or longer i []) = slice_get-get_or longer i [] some in
    absurd cc

differs_behind : (logged given : List (List ℕ)) (i : ℕ) → i ≤ length logged → i ≤ length given → (i ≡ length logged) ⊎ (i ≡ length given) → length logged ≢ length given
    → take i logged ≡ take i given → Differs (i + 1) logged given
differs_behind logged given i in_logged in_given (inl is) other before = record {
  at = i;
  is = refl;
  before = before;
  here = none_left logged given i (sym is) (omega (arith, is, in_given, other));
}
differs_behind logged given i in_logged in_given (inr is) other before = record {
  at = i;
  is = refl;
  before = before;
  here = λ same. none_left given logged i (sym is) (omega (arith, is, in_logged, other)) (sym same);
}

-- all files are the same
all_same : (logged given : List (List ℕ)) (i : ℕ) → (i ≡ length logged) ⊎ (i ≡ length given) → length logged ≡ length given → take i logged ≡ take i given → logged ≡ given
all_same logged given i which long before =
    let one : length logged ≡ i = by which in
    sym (take_all i logged (omega (arith, one))) ∙ (before ∙ take_all i given (omega (arith, one, long)))
  where
    by : (i ≡ length logged) ⊎ (i ≡ length given) → length logged ≡ i
    by (inl is) = sym is
    by (inr is) = long ∙ sym is

-- ---- at the end of the common places
reached : (common i n m a b : ℕ) → i ≤ common → common ≤ i → (common ≡ n) ⊎ (common ≡ m) → a ≡ n → b ≡ m → (i ≡ a) ⊎ (i ≡ b)
reached common i n m a b upper lower (inl is) one two = inl (omega (arith, upper, lower, is, one))
reached common i n m a b upper lower (inr is) one two = inr (omega (arith, upper, lower, is, two))

pub all_files_same : {Z : Type 0} (files : List NamedFile) (sums : List (String Z)) (common i : ℕ)
    → i ≤ common → common ≤ i → (common ≡ length files) ⊎ (common ≡ length sums) → length files ≡ length sums
    → take i (map sum_of files) ≡ take i (map string_bytes sums)
    → map sum_of files ≡ map string_bytes sums
all_files_same files sums common i upper lower which long before =
    let long_files = length-map files sum_of in
    let long_sums = length-map sums string_bytes in
    all_same (map sum_of files) (map string_bytes sums) i
    (reached common i (length files) (length sums) (length (map sum_of files)) (length (map string_bytes sums)) upper lower which long_files long_sums)
    (long_files ∙ (long ∙ sym long_sums)) before

pub differs_past : {Z : Type 0} (files : List NamedFile) (sums : List (String Z)) (common i : ℕ)
    → i ≤ common → common ≤ i → common ≤ length files → common ≤ length sums → (common ≡ length files) ⊎ (common ≡ length sums) → length files ≢ length sums
    → take i (map sum_of files) ≡ take i (map string_bytes sums)
    → Differs (common + 1) (map sum_of files) (map string_bytes sums)
differs_past files sums common i upper lower in_files in_sums which other before =
    let long_files = length-map files sum_of in
    let long_sums = length-map sums string_bytes in
    let at : i ≡ common = omega (arith, upper, lower) in
    differs_behind (map sum_of files) (map string_bytes sums) common (omega (arith, in_files, long_files)) (omega (arith, in_sums, long_sums))
    (reached common common (length files) (length sums) (length (map sum_of files)) (length (map string_bytes sums)) (omega arith) (omega arith) which long_files long_sums)
    (λ same. other (sym long_files ∙ (same ∙ long_sums)))
    (subst (λ n. take n (map sum_of files) ≡ take n (map string_bytes sums)) at before)
