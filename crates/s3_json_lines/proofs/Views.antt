-- Values of JSON, level by level, and the line of one.
use Rattle.std.proofs.Common.{◌≡◌, ℕ, List, [], ◌∷◌, ◌++◌, Vec, ap, refl, ◌∙◌, rules, Global}
use Rattle.std.specs.Borrow.{Bor}
use Rattle.json.specs.Json.{Json, array, object, member}
use Rattle.json.specs.Print.{print}
use Rattle.json.specs.Token.{Token}
use Rattle.json.specs.Tree.{json_tokens}
use Rattle.s3_json_lines.specs.Inner.Values.{items_view, json_of, line_of, members_view, with_member}
use Rattle.s3_json_lines.specs.declared.value.Value.{Value, List as ListOf, Object, the_lemmas}

pub view_list : (values : Vec Value Global) → json_of (ListOf values) ≡ array (items_view values.items)
view_list values = search (rules, the_lemmas)

pub view_object : (members : Vec (Bor (List ℕ) × Value) Global) → json_of (Object members) ≡ object (members_view members.items)
view_object members = search (rules, the_lemmas)

pub line_written : (json : Json) (start bytes before : List ℕ) (tokens : List Token) → before ≡ [] → tokens ≡ json_tokens json
    → bytes ≡ before ++ print tokens → start ++ (bytes ++ 10 ∷ []) ≡ start ++ line_of json
unfolding line_of
line_written json start bytes before tokens none all is =
    ap (λ xs. start ++ (xs ++ 10 ∷ [])) (is ∙ ap (λ xs. xs ++ print tokens) none ∙ ap print all)

pub view_pushed : (members : List (Bor (List ℕ) × Value)) (name : Bor (List ℕ)) (value : Value)
    → members_view (members ++ (name, value) ∷ []) ≡ with_member (members_view members) name.now (json_of value)
view_pushed [] name value = refl
view_pushed (first ∷ more) name value = ap (member first.0.now (json_of first.1)) (view_pushed more name value)
