-- The bytes of a file when one of its sectors is read or written.
use Rattle.std.proofs.Common.{◌≡◌, ◌≢◌, ℕ, zero, suc, ◌+◌, ◌*◌, ◌/◌, ◌%◌, ◌<◌, ◌≤◌, List, [], ◌∷◌, ◌++◌, length, take, drop, slice_get, Some, true, false, nat_eq, refl, sym, ap, subst, ◌∙◌, arith, length-append, length-drop, length-take-le, append_assoc}
use Rattle.std.proofs.lemmas.List.{take-append-le}
use Rattle.std.proofs.lemmas.Bool.{eq-eqb}
use Rattle.std.specs.List.{flat_map, All, Contains, IsDistinct, AllByRecursion}
use Rattle.std.proofs.Common.{Result, Ok, Err, OnOk, OnErr, slice_index_or}
use Rattle.s3_store.specs.declared.sector_fault.SectorFault.{SectorFault}
use Rattle.s3_store.proofs.SectorParts.{length-sector_bytes, sector_bytes-there, sector_bytes-same, length-with_part, part-with_part, outside-with_part, piece_there, piece_other}
use Rattle.std.proofs.lemmas.List.Elements.{All-contains}
use Rattle.s3_store.specs.Bytes.{sector_bytes, bytes_at, part}
use Rattle.s3_store.specs.Inner.Bytes.{with_part, with_piece, SameOutside}

-- pieces of 256 bytes, joined
module _ (f : ℕ → List ℕ) (whole : (n : ℕ) → length (f n) ≡ 256) where
  pub length-joined : (xs : List ℕ) → length (flat_map f xs) ≡ 256 * length xs
  length-joined [] = refl
  length-joined (x ∷ xs) = omega (arith, length-append (f x) (flat_map f xs), whole x, length-joined xs)

  pub length-before : (xs : List ℕ) (q : ℕ) → q ≤ length xs → length (flat_map f (take q xs)) ≡ 256 * q
  length-before xs q h = omega (arith, length-joined (take q xs), length-take-le q xs h)

  pub joined-split : (xs : List ℕ) (q n : ℕ) → slice_get xs q ≡ Some n → flat_map f xs ≡ flat_map f (take q xs) ++ (f n ++ flat_map f (drop (suc q) xs))
  joined-split [] q n h = absurd cc
  joined-split (x ∷ xs) zero n h = let same : x ≡ n = cc in rw same refl
  joined-split (x ∷ xs) (suc q) n h = ap (λ l. f x ++ l) (joined-split xs q n h) ∙ sym (append_assoc (f x) (flat_map f (take q xs)) (f n ++ flat_map f (drop (suc q) xs)))

-- where the pieces are the same
joined-agree : (f g : ℕ → List ℕ) (n : ℕ) → ((m : ℕ) → m ≢ n → g m ≡ f m) → (xs : List ℕ) → AllByRecursion (λ y. nat_eq n y ≡ false) xs → flat_map g xs ≡ flat_map f xs
joined-agree f g n same [] apart = refl
joined-agree f g n same (x ∷ xs) apart =
    let other : x ≢ n = λ e. let t : nat_eq n x ≡ true = eq-eqb n x (sym e) in let no = apart.0 in cc in
    let head = same x other in let tail = joined-agree f g n same xs apart.1 in cc

apart_later : (xs : List ℕ) (q n m : ℕ) → slice_get xs q ≡ Some n → AllByRecursion (λ y. nat_eq m y ≡ false) xs → nat_eq m n ≡ false
apart_later [] q n m h apart = absurd cc
apart_later (x ∷ xs) zero n m h apart = let same : x ≡ n = cc in subst (λ y. nat_eq m y ≡ false) same apart.0
apart_later (x ∷ xs) (suc q) n m h apart = apart_later xs q n m h apart.1

-- one piece of distinct ones is another
pub joined-changed : (f g : ℕ → List ℕ) (n : ℕ) → ((m : ℕ) → m ≢ n → g m ≡ f m) → (xs : List ℕ) (q : ℕ) → slice_get xs q ≡ Some n → IsDistinct nat_eq xs → flat_map g xs ≡ flat_map f (take q xs) ++ (g n ++ flat_map f (drop (suc q) xs))
unfolding IsDistinct
joined-changed f g n same [] q h distinct = absurd cc
joined-changed f g n same (x ∷ xs) zero h distinct =
    let at : x ≡ n = cc in
    let tail = joined-agree f g n same xs (subst (λ m. AllByRecursion (λ y. nat_eq m y ≡ false) xs) at distinct.0) in
    rw (at, tail) refl
joined-changed f g n same (x ∷ xs) (suc q) h distinct =
    let other : x ≢ n = λ e. let t : nat_eq x n ≡ true = eq-eqb x n e in let no = apart_later xs q n x h distinct.0 in cc in
    let head = same x other in
    let tail = joined-changed f g n same xs q h distinct.1 in
    rw (head, tail) (sym (append_assoc (f x) (flat_map f (take q xs)) (g n ++ flat_map f (drop (suc q) xs))))

-- ---- a part of one piece

take-past : (a : ℕ) (xs ys : List ℕ) → take (length xs + a) (xs ++ ys) ≡ xs ++ take a ys
take-past a [] ys = let z : 0 + a ≡ a = omega arith in rw z refl
take-past a (x ∷ xs) ys = let s : length (x ∷ xs) + a ≡ suc (length xs + a) = omega arith in rw s (ap (λ l. x ∷ l) (take-past a xs ys))

drop-past : (a : ℕ) (xs ys : List ℕ) → drop (length xs + a) (xs ++ ys) ≡ drop a ys
drop-past a [] ys = let z : 0 + a ≡ a = omega arith in rw z refl
drop-past a (x ∷ xs) ys = let s : length (x ∷ xs) + a ≡ suc (length xs + a) = omega arith in rw s (drop-past a xs ys)

drop-front : (a : ℕ) (xs ys : List ℕ) → a ≤ length xs → drop a (xs ++ ys) ≡ drop a xs ++ ys
drop-front zero xs ys h = refl
drop-front (suc a) [] ys h = absurd (omega arith)
drop-front (suc a) (x ∷ xs) ys h = drop-front a xs ys (omega arith)

-- a part that lies in the piece after p bytes
pub part-inside : (xs ys zs : List ℕ) (p a w : ℕ) → length xs ≡ p → a + w ≤ length ys → part (xs ++ (ys ++ zs)) (p + a) w ≡ part ys a w
part-inside xs ys zs p a w len h =
    ap (λ n. take w (drop (n + a) (xs ++ (ys ++ zs)))) (sym len)
    ∙ ap (take w) (drop-past a xs (ys ++ zs) ∙ drop-front a ys zs (omega arith))
    ∙ take-append-le w (drop a ys) zs (omega (arith, length-drop a ys))

-- another piece there, the same outside the part
pub same-inside : (xs ys ys' zs : List ℕ) (p a w : ℕ) → length xs ≡ p → length ys' ≡ length ys → a + w ≤ length ys → SameOutside a w ys ys' → SameOutside (p + a) w (xs ++ (ys ++ zs)) (xs ++ (ys' ++ zs))
same-inside xs ys ys' zs p a w len same h s =
    let start : (l : List ℕ) → take (p + a) (xs ++ l) ≡ xs ++ take a l = λ l. ap (λ n. take (n + a) (xs ++ l)) (sym len) ∙ take-past a xs l in
    let at_end : p + a + w ≡ length xs + (a + w) = omega arith in
    record {
      before = start (ys' ++ zs) ∙ ap (λ l. xs ++ l) (take-append-le a ys' zs (omega arith) ∙ s.before ∙ sym (take-append-le a ys zs (omega arith))) ∙ sym (start (ys ++ zs));
      after = ap (λ n. drop n (xs ++ (ys' ++ zs))) at_end ∙ drop-past (a + w) xs (ys' ++ zs) ∙ drop-front (a + w) ys' zs (omega arith)
          ∙ ap (λ l. l ++ zs) s.after
          ∙ sym (ap (λ n. drop n (xs ++ (ys ++ zs))) at_end ∙ drop-past (a + w) xs (ys ++ zs) ∙ drop-front (a + w) ys zs (omega arith));
    }

-- ---- a sector of a file is read or written

got : (xs : List ℕ) (i n : ℕ) → slice_get xs i ≡ Some n → i < length xs
got [] i n h = absurd cc
got (x ∷ xs) zero n h = omega arith
got (x ∷ xs) (suc i) n h = let later = got xs i n h in omega arith

module _ (sectors : List ℕ) (at n w : ℕ) (sector : List ℕ) (is : slice_get sectors (at / 256) ≡ Some n) (fits : at % 256 + w ≤ 256) (whole : length sector ≡ 256) where
  length-front : (contents : List (List ℕ)) → length (flat_map (sector_bytes contents) (take (at / 256) sectors)) ≡ 256 * (at / 256)
  length-front contents = let inside = got sectors (at / 256) n is in length-before (sector_bytes contents) (length-sector_bytes contents) sectors (at / 256) (omega arith)

  place : 256 * (at / 256) + at % 256 ≡ at
  place = omega arith

  pub part-read : (contents : List (List ℕ)) → sector_bytes contents n ≡ sector → part (bytes_at sectors contents) at w ≡ part sector (at % 256) w
  unfolding bytes_at
  part-read contents same =
      let f = sector_bytes contents in
      let xs = flat_map f (take (at / 256) sectors) in
      let zs = flat_map f (drop (suc (at / 256)) sectors) in
      let split : bytes_at sectors contents ≡ xs ++ (sector ++ zs) = joined-split f (length-sector_bytes contents) sectors (at / 256) n is ∙ ap (λ l. xs ++ (l ++ zs)) same in
      ap (λ l. part l at w) split
      ∙ ap (λ m. part (xs ++ (sector ++ zs)) m w) (sym place)
      ∙ part-inside xs sector zs (256 * (at / 256)) (at % 256) w (length-front contents) (omega arith)

  pub part-written : (old new : List (List ℕ)) (v : List ℕ) → IsDistinct nat_eq sectors → sector_bytes old n ≡ sector → slice_get new n ≡ Some v → ((m : ℕ) → m ≢ n → slice_get new m ≡ slice_get old m) → length v ≡ 256 → SameOutside (at % 256) w sector v → SameOutside at w (bytes_at sectors old) (bytes_at sectors new)
  unfolding bytes_at
  part-written old new v distinct was now others long same =
      let f = sector_bytes old in let g = sector_bytes new in
      let xs = flat_map f (take (at / 256) sectors) in
      let zs = flat_map f (drop (suc (at / 256)) sectors) in
      let is_now : g n ≡ v = sector_bytes-there new n v now long in
      let before : bytes_at sectors old ≡ xs ++ (sector ++ zs) = joined-split f (length-sector_bytes old) sectors (at / 256) n is ∙ ap (λ l. xs ++ (l ++ zs)) was in
      let after : bytes_at sectors new ≡ xs ++ (v ++ zs) = joined-changed f g n (λ m other. sector_bytes-same old new m (others m other)) sectors (at / 256) is distinct ∙ ap (λ l. xs ++ (l ++ zs)) is_now in
      let inside = same-inside xs sector v zs (256 * (at / 256)) (at % 256) w (length-front old) (long ∙ sym whole) (omega arith) same in
      let placed : SameOutside at w (xs ++ (sector ++ zs)) (xs ++ (v ++ zs)) = subst (λ m. SameOutside m w (xs ++ (sector ++ zs)) (xs ++ (v ++ zs))) place inside in
      rw (before, after) placed

-- a piece of a sector is read
pub piece-read : {T : Type 0} (sectors : List ℕ) (at n w : ℕ) (contents : List (List ℕ)) (piece : List ℕ) (r : Result T SectorFault) → slice_get sectors (at / 256) ≡ Some n → at % 256 + w ≤ 256 → OnOk r (piece ≡ part (sector_bytes contents n) (at % 256) w) → OnOk r (piece ≡ part (bytes_at sectors contents) at w)
piece-read sectors at n w contents piece (Ok x) is fits read =
    read ∙ sym (part-read sectors at n w (sector_bytes contents n) is fits (length-sector_bytes contents n) contents refl)
piece-read sectors at n w contents piece (Err fault) is fits read = tt

-- a piece of a sector is changed
module _ (sectors : List ℕ) (at n : ℕ) (piece : List ℕ) (is : slice_get sectors (at / 256) ≡ Some n) (fits : at % 256 + length piece ≤ 256) (old new : List (List ℕ)) (below : n < length old) where
  abbrev changed : List ℕ
  changed = with_part (sector_bytes old n) (at % 256) piece

  inside : at % 256 + length piece ≤ length (sector_bytes old n)
  inside = omega (arith, fits, length-sector_bytes old n)

  long : length changed ≡ 256
  long = length-with_part (sector_bytes old n) (at % 256) piece inside ∙ length-sector_bytes old n

  there : new ≡ with_piece old n (at % 256) piece → slice_get new n ≡ Some changed
  there set = ap (λ l. slice_get l n) set ∙ piece_there old n (at % 256) piece below

  pub piece-written : {T : Type 0} (r : Result T SectorFault) → OnOk r (new ≡ with_piece old n (at % 256) piece) → OnOk r (part (bytes_at sectors new) at (length piece) ≡ piece)
  piece-written (Ok x) set =
      part-read sectors at n (length piece) changed is fits long new (sector_bytes-there new n changed (there set) long)
      ∙ part-with_part (sector_bytes old n) (at % 256) piece inside
  piece-written (Err fault) set = tt

  pub piece-outside : {T : Type 0} (r : Result T SectorFault) → IsDistinct nat_eq sectors → OnOk r (new ≡ with_piece old n (at % 256) piece) → OnErr r (new ≡ old) → SameOutside at (length piece) (bytes_at sectors old) (bytes_at sectors new)
  piece-outside (Ok x) distinct set same =
      part-written sectors at n (length piece) (sector_bytes old n) is fits (length-sector_bytes old n) old new changed distinct refl (there set)
      (λ m other. ap (λ l. slice_get l m) set ∙ piece_other old n (at % 256) m piece other) long (outside-with_part (sector_bytes old n) (at % 256) piece inside)
  piece-outside (Err fault) distinct set same = record { before = ap (λ l. take at (bytes_at sectors l)) same; after = ap (λ l. drop (at + length piece) (bytes_at sectors l)) same }

pub contains-got : (xs : List ℕ) (i n : ℕ) → slice_get xs i ≡ Some n → Contains xs n
contains-got xs i n h = (i, got xs i n h, value xs i n h)
  where
    value : (xs : List ℕ) (i n : ℕ) → slice_get xs i ≡ Some n → slice_index_or xs i n ≡ n
    value [] i n h = absurd cc
    value (x ∷ xs) zero n h = cc
    value (x ∷ xs) (suc i) n h = value xs i n h

pub got-below : (xs : List ℕ) (contents : List (List ℕ)) (i n : ℕ) → slice_get xs i ≡ Some n → All (λ m. m < length contents) xs → n < length contents
got-below xs contents i n h all = All-contains (λ m. m < length contents) xs n all (contains-got xs i n h)
