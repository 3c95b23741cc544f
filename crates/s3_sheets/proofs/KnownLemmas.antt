-- Look-ups of files and fields by name.
use Rattle.std.proofs.Common.{◌≡◌, ℕ, List, [], ◌∷◌, ◌++◌, true, false, refl, sym, ◌∙◌, ap, inl, inr, append-nil}
use Rattle.std.specs.Prelude.{Option, Some, None, is_some}
use Rattle.std.specs.List.{list_any}
use Rattle.std.specs.Map.{lookup}
use Rattle.std.specs.Option.{option_to_list}
use Rattle.std.proofs.lemmas.Bool.{cases_Bool}
use Rattle.indexmap.specs.IndexMap.{insert_entry}
use Rattle.indexmap.specs.IndexSet.{insert_key}
use Rattle.s3_cards.specs.declared.name.Name.{Name}
use Rattle.s3_cards.specs.Names.{same_name}
use Rattle.s3_sheets.specs.Sheets.{new_file, new_field, record_length_of}

insert_last : (files : List (Name × ℕ)) (name : Name) (size : ℕ) → lookup (same_name name) files ≡ None
    → insert_entry same_name files name size ≡ files ++ (name, size) ∷ []
insert_last [] name size none = refl
insert_last (file ∷ files) name size none = elim (cases_Bool (same_name name file.0)) [
  | inl same ↦ absurd (let f = rw same at none in cc)
  | inr other ↦ (let more = rw other at none in rw other (ap (λ xs. file ∷ xs) (insert_last files name size more)))
]

-- a file that is already known isn't added again
pub known_file : (files : List (Name × ℕ)) (name : Name) (size : ℕ) → is_some (record_length_of files name) ≡ true
    → files ≡ files ++ option_to_list (new_file files (Some (name, size)))
known_file files name size known = rw known (sym (append-nil files))

-- a new file is added at the end
pub unknown_file : (files new : List (Name × ℕ)) (name : Name) (size : ℕ) → new ≡ insert_entry same_name files name size
    → is_some (record_length_of files name) ≡ false → new ≡ files ++ option_to_list (new_file files (Some (name, size)))
unknown_file files new name size put free =
    rw free (put ∙ insert_last files name size (is_none (lookup (same_name name) files) free))
  where
    is_none : (o : Option ℕ) → is_some o ≡ false → o ≡ None
    is_none None free = refl
    is_none (Some x) free = absurd cc

pub field_put_in : (fields new : List Name) (name : Name) → new ≡ insert_key same_name fields name
    → new ≡ fields ++ option_to_list (new_field fields (Some name))
field_put_in fields new name put = elim (cases_Bool (list_any (same_name name) fields)) [
  | inl known ↦ (let e = rw known at put in rw known (e ∙ sym (append-nil fields)))
  | inr free ↦ (let e = rw free at put in rw free e)
]
