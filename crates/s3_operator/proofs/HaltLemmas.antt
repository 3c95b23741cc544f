-- The last of the halts has its reply.
use Rattle.std.proofs.Common.{◌≡◌, ℕ, ◌-◌, List, [], ◌∷◌, length, map, set, Some, slice_get, get_or, ap, ◌∙◌, refl, sym, ◌<◌, arith}
use Rattle.std.specs.Option.{option_map}
use Rattle.std.proofs.lemmas.List.{map-set, length-map}
use Rattle.std.proofs.lemmas.Option.{slice_get-map, slice_get_read}
use Rattle.s3_operator.specs.declared.halt.Halt.{Halt}
use Rattle.s3_operator.specs.Inner.Halts.{halt_of}
use Rattle.s3_operator.specs.Halts.{with_reply}

pub filled : (digit : ℕ) (items : List Halt) (halt : Halt) (count : ℕ) → count ≡ length items → 0 < count → halt ≡ get_or items (count - 1) halt
    → map halt_of (set items (count - 1) (record halt { reply = Some digit })) ≡ with_reply digit (map halt_of items)
filled digit items halt count counted some is_last =
    let n : length (map halt_of items) ≡ count = length-map items halt_of ∙ sym counted in
    let found : slice_get items (count - 1) ≡ Some halt = slice_get_read items (length items) (count - 1) halt refl (omega (arith, some, counted)) is_last in
    let last : slice_get (map halt_of items) (count - 1) ≡ Some (halt_of halt) = slice_get-map halt_of items (count - 1) ∙ ap (option_map halt_of) found in
    rw (n, last, n) (map-set halt_of items (count - 1) (record halt { reply = Some digit }))

pub none_filled : (digit : ℕ) (items : List Halt) → length items ≡ 0 → map halt_of items ≡ with_reply digit (map halt_of items)
none_filled digit [] none = refl
none_filled digit (halt ∷ halts) none = absurd (omega (arith, none))
