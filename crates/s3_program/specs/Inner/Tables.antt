-- Tables of names in both directions: the slot of a name, and the name and meaning of a slot.
use Rattle.std.specs.Prelude.{ℕ, List, Option, length, slice_get, option_map, unwrap_or}
use Rattle.std.specs.List.{position}
use Rattle.std.specs.Map.{keys_of}
use Rattle.s3_cards.specs.declared.name.Name.{Name}
use Rattle.s3_cards.specs.Names.{no_name, same_name}
use Rattle.s3_program.specs.declared.program.Kind.{Kind}
use Rattle.s3_program.specs.declared.program.Kind.TheVariants as kind
use Rattle.s3_program.specs.declared.program.Reference.{Reference}
use Rattle.s3_program.specs.declared.program.Reference.TheVariants as slot
use Rattle.s3_program.specs.declared.program.Meaning.{Meaning}
use Rattle.s3_program.specs.declared.program.Meaning.TheVariants as meaning
use Rattle.s3_program.specs.Tables.{Tables, or_undefined}

-- ---- one table
-- the slot of a name; a missing name has the slot after the last
abbrev pub slot_in : {X : Type 0} → List (Name × X) → Name → ℕ
slot_in table name = unwrap_or (position (same_name name) (keys_of table)) (length table)

abbrev pub name_in : {X : Type 0} → List (Name × X) → ℕ → Name
name_in table slot = unwrap_or (option_map (λ entry. entry.0) (slice_get table slot)) no_name

abbrev pub item_in : {X : Type 0} → List (Name × X) → ℕ → Option X
item_in table slot = option_map (λ entry. entry.1) (slice_get table slot)

-- ---- slots and names
abbrev pub reference : Tables → Kind → Name → Reference
reference tables kind.File name = slot.File (slot_in tables.files name)
reference tables kind.Field name = slot.Field (slot_in tables.fields name)
reference tables kind.Tag name = slot.Tag (slot_in tables.tags name)
reference tables kind.Subroutine name = slot.Subroutine (slot_in tables.subroutines name)

abbrev pub name_of : Tables → Reference → Name
name_of tables (slot.File k) = name_in tables.files k
name_of tables (slot.Field k) = name_in tables.fields k
name_of tables (slot.Tag k) = name_in tables.tags k
name_of tables (slot.Subroutine k) = name_in tables.subroutines k

-- the meaning of a slot
abbrev pub meaning_at : Tables → Reference → Meaning
meaning_at tables (slot.File k) = or_undefined (λ x. meaning.File x) (item_in tables.files k)
meaning_at tables (slot.Field k) = or_undefined (λ entry. meaning.Field (record { name = entry.0; meaning = entry.1 })) (slice_get tables.fields k)
meaning_at tables (slot.Tag k) = or_undefined (λ x. meaning.Tag x) (item_in tables.tags k)
meaning_at tables (slot.Subroutine k) = or_undefined (λ x. meaning.Subroutine x) (item_in tables.subroutines k)
