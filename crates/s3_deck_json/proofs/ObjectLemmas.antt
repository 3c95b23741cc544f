-- Lists of objects.
use Rattle.std.proofs.Common.{◌≡◌, ℕ, ◌+◌, ◌<◌, List, [], ◌∷◌, ◌++◌, length, map, take, get_or, sym, ap, ◌∙◌}
use Rattle.std.proofs.lemmas.List.{map_more, map-append}
use Rattle.json.specs.Json.{Json}
use Rattle.s3_json_lines.specs.Inner.Values.{json_of}
use Rattle.s3_json_lines.specs.declared.value.Value.{Value}

-- the objects of a list so far, with one more
pub object_more : {X : Type 0} (object_of : X → Json) (xs : List X) (i : ℕ) (x : X) (old new : List Value) (value : Value) → i < length xs
    → x ≡ get_or xs i x → json_of value ≡ object_of x → new ≡ old ++ value ∷ []
    → map json_of old ≡ map object_of (take i xs) → map json_of new ≡ map object_of (take (i + 1) xs)
object_more object_of xs i x old new value within is_x is_object more so_far =
    ap (map json_of) more
    ∙ map-append json_of old (value ∷ [])
    ∙ ap (λ front. front ++ json_of value ∷ []) so_far
    ∙ ap (λ last. map object_of (take i xs) ++ last ∷ []) (is_object ∙ ap object_of is_x)
    ∙ sym (map_more object_of xs i x within)
