-- The JSON that a value stands for, and its line of text.
use Rattle.std.specs.Prelude.{ℕ, List, [], ◌∷◌, ◌++◌, map, decimal}
use Rattle.std.specs.List.{flat_map}
use Rattle.std.specs.Borrow.{Bor}
use Rattle.std.specs.String.{string_bytes}
use Rattle.json.specs.Json.{Json, null, number, string, array, object, Items, no_items, item, Members, no_members, member}
use Rattle.json.specs.Print.{print}
use Rattle.json.specs.Tree.{json_tokens}
use Rattle.s3_json_lines.specs.declared.cell.Cell.{Cell}
use Rattle.s3_json_lines.specs.declared.cell.Cell.TheVariants as cell
use Rattle.s3_json_lines.specs.declared.value.Value.{Value, fold-Value}
use Rattle.s3_json_lines.specs.declared.value.Value.TheOpen.{Value-F}

-- a whole number
abbrev pub whole : ℕ → Json
whole n = number (decimal n)

-- the values of a list, in order
abbrev pub items_of : List Json → Items
items_of [] = no_items
items_of (json ∷ more) = item json (items_of more)

-- the members of an object, in order
abbrev pub members_of : List (Bor (List ℕ) × Json) → Members
members_of [] = no_members
members_of (first ∷ more) = member first.0.now first.1 (members_of more)

-- members by their names
abbrev pub members_named : List (List ℕ × Json) → Members
members_named [] = no_members
members_named ((name, json) ∷ more) = member name json (members_named more)

-- an object by the names of its members
abbrev pub object_named : List (List ℕ × Json) → Json
object_named named = object (members_named named)

-- members with one more at their end
abbrev pub with_member : Members → List ℕ → Json → Members
with_member no_members name json = member name json no_members
with_member (member first value more) name json = member first value (with_member more name json)

-- a list of values
abbrev pub array_of : List Json → Json
array_of values = array (items_of values)

-- a list of whole numbers
abbrev pub numbers_json : List ℕ → Json
numbers_json numbers = array_of (map whole numbers)

-- one level of a value, whose parts are seen as JSON already
abbrev pub view_step : Value-F Json → Json
view_step Value-F.Nothing = null
view_step (Value-F.Number n) = whole n
view_step (Value-F.Text text) = string (string_bytes text)
view_step (Value-F.List values) = array (items_of values.items)
view_step (Value-F.Object members) = object (members_of members.items)

abbrev pub json_of : Value → Json
json_of = fold-Value Json view_step

abbrev pub items_view : List Value → Items
items_view values = items_of (map json_of values)

abbrev pub member_seen : Bor (List ℕ) × Value → Bor (List ℕ) × Json
member_seen one = (one.0, json_of one.1)

abbrev pub members_view : List (Bor (List ℕ) × Value) → Members
members_view members = members_of (map member_seen members)

-- the JSON that a cell stands for
abbrev pub cell_json : Cell → Json
cell_json cell.Nothing = null
cell_json (cell.Number n) = whole n
cell_json (cell.Text text) = string text.now
cell_json (cell.Numbers list) = numbers_json list.now

abbrev pub cell_seen : Bor (List ℕ) × Cell → Bor (List ℕ) × Json
cell_seen one = (one.0, cell_json one.1)

abbrev pub cells_view : List (Bor (List ℕ) × Cell) → Members
cells_view cells = members_of (map cell_seen cells)

-- the line of a value, with its line feed
unfoldable pub line_of : Json → List ℕ
line_of json = print (json_tokens json) ++ 10 ∷ []

-- the lines of values
abbrev pub lines_of : List Value → List ℕ
lines_of values = flat_map (λ value. line_of (json_of value)) values
