use Rattle.std.proofs.Common.{◌≡◌, ℕ, [], ◌∷◌, Result, Ok, Err, IfOk, refl, ◌∙◌}
use Rattle.std.specs.Prelude.{codes}
use Rattle.json.specs.Json.{Json, string}
use Rattle.s3_json_lines.specs.declared.value.Value.{Value}
use Rattle.s3_json_lines.specs.Inner.Values.{cell_json, json_of, object_named, whole}
use Rattle.s3_listing.specs.declared.room.FreeRoom.{FreeRoom}
use Rattle.s3_store.specs.declared.stretch.Stretch.{Stretch}
use Rattle.s3_pack_json.specs.Inner.Objects.{area_json, tracks_json}
use Rattle.s3_pack_json.proofs.listing.area_value.Goals as goal

abbrev made_of : (area start : ℕ) (tracks : Json) (free row slots : ℕ) → Json
made_of area start tracks free row slots = object_named ((codes "kind", string (codes "area")) ∷ (codes "area", whole area) ∷ (codes "sector", whole start) ∷ (codes "tracks", tracks) ∷ (codes "free_tracks", whole free) ∷ (codes "free_in_a_row", whole row) ∷ (codes "free_slots", whole slots) ∷ [])

made : {E : Type 0} (result : Result Value E) (area : ℕ) (region : Stretch) (room : FreeRoom) (slots start : ℕ) (tracks : Json) (free row : ℕ) → IfOk result (λ value. json_of value ≡ made_of area start tracks free row slots)
    → start ≡ region.start → tracks ≡ tracks_json region → free ≡ room.tracks → row ≡ room.in_a_row → IfOk result (λ value. json_of value ≡ area_json area region room slots)
made (Ok value) area region room slots start tracks free row is at runs frees rows = is ∙ rw (at, runs, frees, rows) refl
made (Err fault) area region room slots start tracks free row is at runs frees rows = is

pub returns : goal.returns
returns c = made c.object.result c.args.area c.args.region c.args.room c.args.free_slots c.from.result (cell_json c.tracks_cell.result) c.from-2.result c.from-3.result c.object.ensures c.from.ensures c.tracks_cell.ensures c.from-2.ensures c.from-3.ensures
