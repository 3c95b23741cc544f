use Rattle.std.proofs.Common.{◌≡◌, ◌∙◌, sym, ap, Bool, true, false, cond, ◌++◌, List, [], ◌∷◌, refl}
use Rattle.std.specs.Prelude.{is_some, Some}
use Rattle.std.specs.Map.{lookup}
use Rattle.std.proofs.lemmas.Bool.{true≢false}
use Rattle.indexmap.specs.IndexMap.{insert_entry}
use Rattle.s3_cards.specs.declared.name.Name.{Name}
use Rattle.s3_cards.specs.Names.{same_name}
use Rattle.s3_program.specs.Inner.Given.{noted}
use Rattle.s3_program.proofs.defining.note.Goals as goal

appended : {X : Type 0} (table : List (Name × X)) (name : Name) (x : X) → is_some (lookup (same_name name) table) ≡ false → insert_entry same_name table name x ≡ table ++ (name, x) ∷ []
appended [] name x none = refl
appended {X} (e ∷ es) name x none = step (same_name name e.0) (appended es name x) none
  where
    step : (b : Bool) → (is_some (lookup (same_name name) es) ≡ false → insert_entry same_name es name x ≡ es ++ (name, x) ∷ []) → is_some (cond b (Some e.1) (lookup (same_name name) es)) ≡ false
        → cond b ((e.0, x) ∷ es) (e ∷ insert_entry same_name es name x) ≡ e ∷ (es ++ (name, x) ∷ [])
    step true later none = absurd (true≢false none)
    step false later none = ap (λ rest. e ∷ rest) (later none)

new_last : {X : Type 0} (table : List (Name × X)) (name : Name) (x : X) → is_some (lookup (same_name name) table) ≡ false → insert_entry same_name table name x ≡ noted table (name, x)
new_last table name x none = rw none (appended table name x none)

pub returns-in_ok-insert : goal.returns-in_ok-insert
returns-in_ok-insert g c = c.in_ok-insert.ensures.entries ∙ new_last c.args.table.now.entries c.args.name c.args.meaning (sym c.contains_key.ensures ∙ c.if-not-contains_key.true)
