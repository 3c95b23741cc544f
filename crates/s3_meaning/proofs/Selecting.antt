-- After a record is selected, its file is unread.
use Rattle.std.proofs.Common.{◌≡◌, ℕ, Bool, true, false, not, ◌||◌, if◌then◌else◌, cond, List, [], ◌∷◌, ◌++◌, map, filter, filter_map, find, Option, Some, None, is_some, option_map, refl, sym, subst, true≢false}
use Rattle.std.specs.Option.{option_or}
use Rattle.std.specs.List.{list_any, cons_option}
use Rattle.s3_cards.proofs.NameLemmas.{same_name-self}
use Rattle.s3_cards.specs.declared.name.Name.{Name}
use Rattle.s3_lines.specs.declared.sheet.Designation.TheVariants.{Primary, Secondary}
use Rattle.s3_cards.specs.Names.{same_name}
use Rattle.s3_meaning.specs.Source.{is_designated}
use Rattle.s3_meaning.specs.Selection.{Head, Unread, InputFile, Reading, Selected, head_of, is_unread, selectable, key_of, is_less, lesser, least, primary_first, has_met_end, select_at_end, select, same_key, vacated, taken}

Every : {A : Type 0} → (A → Type 0) → List A → Type 0
Every P [] = Unit {0}
Every P (x ∷ xs) = P x × Every P xs

OfSome : {A : Type 0} → (A → Type 0) → Option A → Type 0
OfSome P None = Unit {0}
OfSome P (Some x) = P x

or_right : (a b : Bool) → b ≡ true → (a || b) ≡ true
or_right true b h = refl
or_right false b h = h

module _ {A : Type 0} (P : A → Type 0) where
  every_filter : (p : A → Bool) (xs : List A) → Every P xs → Every P (filter p xs)
  unfolding Every
  every_filter p [] h = tt
  every_filter p (x ∷ xs) h = kept (p x) (filter p xs) h.0 (every_filter p xs h.1)
    where
      kept : (b : Bool) (ys : List A) → P x → Every P ys → Every P (cond b (x ∷ ys) ys)
      kept true ys g gs = (g, gs)
      kept false ys g gs = gs

  every_append : (xs ys : List A) → Every P xs → Every P ys → Every P (xs ++ ys)
  unfolding Every
  every_append [] ys h g = g
  every_append (x ∷ xs) ys h g = (h.0, every_append xs ys h.1 g)

  every_find : (p : A → Bool) (xs : List A) → Every P xs → OfSome P (find p xs)
  unfolding Every OfSome
  every_find p [] h = tt
  every_find p (x ∷ xs) h = first (p x) (find p xs) h.0 (every_find p xs h.1)
    where
      first : (b : Bool) (o : Option A) → P x → OfSome P o → OfSome P (cond b (Some x) o)
      first true o g gs = g
      first false o g gs = gs

  either : (o o' : Option A) → OfSome P o → OfSome P o' → OfSome P (option_or o o')
  unfolding OfSome
  either None o' h g = g
  either (Some x) o' h g = h

every_least : (P : Selected → Type 0) (xs : List Selected) → Every P xs → OfSome P (least xs)
unfolding Every OfSome
every_least P [] h = tt
every_least P (x ∷ xs) h = lower (least xs) (every_least P xs h.1)
  where
    chosen : (b : Bool) (y : Selected) → P y → P (if b then y else x)
    chosen true y g = g
    chosen false y g = h.0

    lower : (o : Option Selected) → OfSome P o → P (lesser x o)
    lower None g = h.0
    lower (Some y) g = chosen (is_less (key_of y) (key_of x)) y g

-- a file of this name is among these
IsIn : List InputFile → Name → Type 0
IsIn inputs name = list_any (λ input. same_name input.file.name name) inputs ≡ true

every_weaker : (input : InputFile) (all xs : List InputFile) → Every (λ x. IsIn all x.file.name) xs → Every (λ x. IsIn (input ∷ all) x.file.name) xs
unfolding Every IsIn
every_weaker input all [] h = tt
every_weaker input all (x ∷ xs) h = (or_right (same_name input.file.name x.file.name) _ h.0, every_weaker input all xs h.1)

every_in : (inputs : List InputFile) → Every (λ x. IsIn inputs x.file.name) inputs
unfolding Every IsIn
every_in [] = tt
every_in (input ∷ inputs) = (or_left (same_name input.file.name input.file.name) _ (same_name-self input.file.name), every_weaker input inputs inputs (every_in inputs))
  where
    or_left : (a b : Bool) → a ≡ true → (a || b) ≡ true
    or_left true b h = refl
    or_left false b h = absurd (true≢false (sym h))

every_selectable : (all inputs : List InputFile) → Every (λ x. IsIn all x.file.name) inputs → Every (λ selected. IsIn all selected.file.name) (filter_map selectable inputs)
unfolding Every
every_selectable all [] h = tt
every_selectable all (input ∷ inputs) h = more (head_of input) (filter_map selectable inputs) (every_selectable all inputs h.1)
  where
    more : (o : Option Head) (xs : List Selected) → Every (λ selected. IsIn all selected.file.name) xs → Every (λ selected. IsIn all selected.file.name) (cons_option (option_map (λ head. record { file = input.file; head = head }) o) xs)
    more None xs g = g
    more (Some head) xs g = (h.0, g)

-- the file of the selected record is among these
HasFile : List InputFile → Selected → Type 0
HasFile inputs selected = IsIn inputs selected.file.name

all_files : (inputs : List InputFile) → Every (HasFile inputs) (filter_map selectable inputs)
unfolding HasFile
all_files inputs = every_selectable inputs inputs (every_in inputs)

unless : (P : Selected → Type 0) (b : Bool) (o : Option Selected) → OfSome P o → OfSome P (if b then None else o)
unfolding OfSome
unless P true o g = tt
unless P false o g = g

at_end : (inputs : List InputFile) (primary_key : Option (List ℕ)) (heads : List Selected) → Every (HasFile inputs) heads → OfSome (HasFile inputs) (select_at_end heads primary_key)
at_end inputs primary_key heads all =
    unless (HasFile inputs) (list_any (λ selected. is_designated Primary selected.file) heads) (least (filter (λ selected. same_key (key_of selected) primary_key) heads))
    (every_least (HasFile inputs) (filter (λ selected. same_key (key_of selected) primary_key) heads)
    (every_filter (HasFile inputs) (λ selected. same_key (key_of selected) primary_key) heads all))

before_end : (inputs : List InputFile) (heads : List Selected) → Every (HasFile inputs) heads → OfSome (HasFile inputs) (option_or (find (λ selected. not (is_some (key_of selected))) heads) (least (primary_first heads)))
before_end inputs heads all =
    either (HasFile inputs) (find (λ selected. not (is_some (key_of selected))) heads) (least (primary_first heads))
    (every_find (HasFile inputs) (λ selected. not (is_some (key_of selected))) heads all)
    (every_least (HasFile inputs) (primary_first heads)
    (every_append (HasFile inputs) (filter (λ selected. is_designated Primary selected.file) heads) (filter (λ selected. is_designated Secondary selected.file) heads)
    (every_filter (HasFile inputs) (λ selected. is_designated Primary selected.file) heads all)
    (every_filter (HasFile inputs) (λ selected. is_designated Secondary selected.file) heads all)))

one_of : (P : Selected → Type 0) (b : Bool) (o o' : Option Selected) → OfSome P o → OfSome P o' → OfSome P (if b then o else o')
one_of P true o o' g g' = g
one_of P false o o' g g' = g'

in_files : (reading : Reading) → OfSome (HasFile reading.files) (select reading)
in_files reading =
    let heads : List Selected = filter_map selectable reading.files in
    one_of (HasFile reading.files) (has_met_end reading.files) (select_at_end heads reading.primary_key)
    (option_or (find (λ selected. not (is_some (key_of selected))) heads) (least (primary_first heads)))
    (at_end reading.files reading.primary_key heads (all_files reading.files))
    (before_end reading.files heads (all_files reading.files))

-- a file whose head was taken is unread
vacated_unread : (name : Name) (inputs : List InputFile) → IsIn inputs name → list_any is_unread (map (vacated name) inputs) ≡ true
unfolding IsIn
vacated_unread name [] h = h
vacated_unread name (input ∷ inputs) h = by_name (same_name input.file.name name) _ _ h (vacated_unread name inputs)
  where
    by_name : (b rest rest' : Bool) → (b || rest) ≡ true → (rest ≡ true → rest' ≡ true) → (is_unread (if b then record input { standing = Unread } else input) || rest') ≡ true
    by_name true rest rest' g later = refl
    by_name false rest rest' g later = or_right (is_unread input) rest' (later g)

pub taken_unread : (reading : Reading) (selected : Selected) → select reading ≡ Some selected → list_any is_unread ((taken reading selected).files) ≡ true
unfolding OfSome HasFile
taken_unread reading selected h = vacated_unread selected.file.name reading.files (subst (OfSome (HasFile reading.files)) h (in_files reading))
