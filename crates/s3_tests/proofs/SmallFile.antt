-- A file over the first two sectors.
use Rattle.std.proofs.Common.{◌≡◌, ℕ, ◌+◌, ◌<◌, ◌≤◌, List, [], ◌∷◌, length, sym, ap, subst, ◌∙◌, arith}
use Rattle.std.proofs.lemmas.List.Elements.{All-append}
use Rattle.std.proofs.lemmas.List.FromFn.{length-range_with_len, get_or-range_with_len}
use Rattle.std.specs.List.{All, range_with_len}
use Rattle.s3_store.specs.Stretches.{sectors_in}
use Rattle.s3_store.specs.declared.stretch.Stretch.{Stretch}
use Rattle.s3_slots.specs.Labels.{sectors_of}
use Rattle.s3_slots.specs.Stretches.{are_apart}
use Rattle.s3_slots.specs.declared.label.FileLabel.{FileLabel}
use Rattle.s3_files.specs.Inner.Files.{HasRoom, AreStored}
use Rattle.s3_files.proofs.Rooms.{all_distinct, length_sectors}
use Rattle.s3_keyed.specs.Inner.Index.{HasIndex}

abbrev pub run : List Stretch
run = record { start = 0; sectors = 2 } ∷ []

run_below : (a n limit : ℕ) → a + n ≤ limit → All (λ m. m < limit) (range_with_len a n)
run_below a n limit few k d below =
    let long = length-range_with_len a n in
    let at = get_or-range_with_len a n k d (omega (arith, long)) in
    omega (arith, at, long)

sectors_below : (limit : ℕ) → 2 ≤ limit → All (λ m. m < limit) (sectors_in run)
sectors_below limit few = All-append (λ m. m < limit) (range_with_len 0 2) [] (run_below 0 2 limit few) (λ k d below. absurd (omega arith))

sectors_length : length (sectors_in run) ≡ 2
sectors_length = length_sectors run

pub run_room : (label : FileLabel) → label.extents ≡ run → label.record_length ≡ 16 → label.capacity ≡ 4 → label.count ≤ 4 → HasRoom label
run_room label at long room counted =
    let sectors : length (sectors_in label.extents) ≡ 2 = ap (λ es. length (sectors_in es)) at ∙ sectors_length in
    record {
      small = subst (λ es. All (λ n. n < 65536) (sectors_in es)) (sym at) (sectors_below 65536 (omega arith));
      distinct = all_distinct label.extents (ap are_apart at);
      fits = rw (long, room) (omega (arith, sectors));
      few = omega (arith, sectors);
      counted = omega (arith, room, counted);
    }

pub run_index : (label : FileLabel) → label.extents ≡ run → label.record_length ≡ 16 → label.capacity ≡ 4 → label.key_length ≡ 2 → label.key_start ≡ 1 → HasIndex label
run_index label at long room key start =
    let sectors : length (sectors_in label.extents) ≡ 2 = ap (λ es. length (sectors_in es)) at ∙ sectors_length in
    record {
      some_key = omega arith;
      short_key = omega arith;
      some_start = omega arith;
      inside = omega arith;
      fits = rw (long, room, key) (omega (arith, sectors));
    }

pub run_stored : (label : FileLabel) (contents : List (List ℕ)) → label.extents ≡ run → 2 ≤ length contents → AreStored (sectors_of label) contents
unfolding sectors_of
run_stored label contents at few = subst (λ es. AreStored (sectors_in es) contents) (sym at) (sectors_below (length contents) few)
