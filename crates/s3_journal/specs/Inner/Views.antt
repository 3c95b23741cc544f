-- The tree of which the code's members are.
use Rattle.std.specs.Prelude.{◌≡◌, List, [], ◌∷◌}
use Rattle.json.specs.Json as json
use Rattle.json.specs.Json.{Json}
use Rattle.json.specs.Value.{value_view, members_view}
use Rattle.s3_journal.specs.declared.members.Members.{Members}
use Rattle.s3_journal.specs.declared.members.Found.{Found}
use Rattle.s3_journal.specs.declared.members.Found.TheVariants.{Nothing, One, Several}

abbrev pub members_in : Members → json.Members
members_in members = members_view members.list.now

-- these are all values of a name
abbrev pub IsFound : List Json → Found → Type 0
IsFound values Nothing = values ≡ []
IsFound values (One value) = values ≡ value_view value.now ∷ []
IsFound values Several = (first second : Json) × (rest : List Json) × (values ≡ first ∷ second ∷ rest)
