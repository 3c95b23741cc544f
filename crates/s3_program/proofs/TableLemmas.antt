-- The slot of a name has that name and its entry.
use Rattle.std.proofs.Common.{◌≡◌, ℕ, ◌+◌, ◌≤◌, List, [], ◌∷◌, Bool, true, false, cond, refl, sym, ◌∙◌, ap, arith, length, suc, inl, inr}
use Rattle.std.specs.Prelude.{Some, None, slice_get, unwrap_or, nat_lt, not, option_map, is_some}
use Rattle.std.specs.List.{position, position_or_len}
use Rattle.std.specs.Map.{keys_of, lookup}
use Rattle.std.proofs.lemmas.List.{length-map}
use Rattle.std.proofs.lemmas.List.Sums.{prefix_len-le-length}
use Rattle.std.proofs.lemmas.Bool.Decides.{nat_tests}
use Rattle.std.proofs.lemmas.Bool.{cases_Bool}
use Rattle.s3_cards.specs.declared.name.Name.{Name}
use Rattle.s3_cards.specs.Names.{no_name, same_name}
use Rattle.s3_cards.proofs.NameLemmas.{same_name-equal}
use Rattle.s3_program.specs.Inner.Tables.{slot_in, name_in, item_in}
use Rattle.s3_program.specs.Tables.{found_in}

-- the slot as a count, without the test that the name exists
abbrev pub place : {X : Type 0} → List (Name × X) → Name → ℕ
place table name = position_or_len (same_name name) (keys_of table)

chosen : (n most : ℕ) → n ≤ most → unwrap_or (cond (nat_lt n most) (Some n) None) most ≡ n
chosen n most within = elim (cases_Bool (nat_lt n most)) [ inl yes_below ↦ rw yes_below refl | inr not_below ↦ rw not_below (grind (arith, nat_tests)) ]

pub slot_is : {X : Type 0} (table : List (Name × X)) (name : Name) → slot_in table name ≡ place table name
slot_is table name =
    let keys : length (keys_of table) ≡ length table = length-map table (λ e. e.0) in
    let within : place table name ≤ length (keys_of table) = prefix_len-le-length _ (keys_of table) in
    ap (unwrap_or (position (same_name name) (keys_of table))) (sym keys) ∙ chosen (place table name) (length (keys_of table)) within

next : {X : Type 0} (x : X) (xs : List X) (n : ℕ) → slice_get (x ∷ xs) (1 + n) ≡ slice_get xs n
next x xs n = let e : 1 + n ≡ suc n = omega arith in ap (slice_get (x ∷ xs)) e

item_at : {X : Type 0} (table : List (Name × X)) (name : Name) → item_in table (place table name) ≡ found_in table name
item_at [] name = refl
item_at {X} (e ∷ es) name = step (same_name name e.0) (item_at es name)
  where
    step : (b : Bool) → item_in es (place es name) ≡ found_in es name → option_map (λ (entry : Name × X). entry.1) (slice_get (e ∷ es) (cond (not b) (1 + place es name) 0)) ≡ cond b (Some e.1) (lookup (same_name name) es)
    step true later = refl
    step false later = ap (option_map (λ (entry : Name × X). entry.1)) (next e es (place es name)) ∙ later

name_at : {X : Type 0} (table : List (Name × X)) (name : Name) → is_some (found_in table name) ≡ true → name_in table (place table name) ≡ name
name_at [] name found = cc
name_at {X} (e ∷ es) name found = step (same_name name e.0) (same_name-equal name e.0) (name_at es name) found
  where
    step : (b : Bool) → (b ≡ true → name ≡ e.0) → (is_some (found_in es name) ≡ true → name_in es (place es name) ≡ name) → is_some (cond b (Some e.1) (lookup (same_name name) es)) ≡ true
        → unwrap_or (option_map (λ (entry : Name × X). entry.0) (slice_get (e ∷ es) (cond (not b) (1 + place es name) 0))) no_name ≡ name
    step true same later found = sym (same refl)
    step false same later found = ap (λ o. unwrap_or (option_map (λ (entry : Name × X). entry.0) o) no_name) (next e es (place es name)) ∙ later found

-- a slot has its name's value
pub slot_item : {X : Type 0} (table : List (Name × X)) (name : Name) → item_in table (slot_in table name) ≡ found_in table name
slot_item table name = ap (item_in table) (slot_is table name) ∙ item_at table name

-- a slot has its name, if the name exists
pub slot_name : {X : Type 0} (table : List (Name × X)) (name : Name) → is_some (found_in table name) ≡ true → name_in table (slot_in table name) ≡ name
slot_name table name found = ap (name_in table) (slot_is table name) ∙ name_at table name found

-- a slot has its name's whole entry
entry_at : {X : Type 0} (table : List (Name × X)) (name : Name) → slice_get table (place table name) ≡ option_map (λ x. (name, x)) (found_in table name)
entry_at [] name = refl
entry_at {X} (e ∷ es) name = step (same_name name e.0) (same_name-equal name e.0) (entry_at es name)
  where
    step : (b : Bool) → (b ≡ true → name ≡ e.0) → slice_get es (place es name) ≡ option_map (λ x. (name, x)) (found_in es name)
        → slice_get (e ∷ es) (cond (not b) (1 + place es name) 0) ≡ option_map (λ x. (name, x)) (cond b (Some e.1) (lookup (same_name name) es))
    step true same later = λ i. Some (sym (same refl) i, e.1)
    step false same later = next e es (place es name) ∙ later

pub slot_entry : {X : Type 0} (table : List (Name × X)) (name : Name) → slice_get table (slot_in table name) ≡ option_map (λ x. (name, x)) (found_in table name)
slot_entry table name = ap (slice_get table) (slot_is table name) ∙ entry_at table name
