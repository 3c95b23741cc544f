-- Lists that are read item by item.
use Rattle.std.proofs.Common.{◌≡◌, ℕ, zero, suc, ◌+◌, ◌<◌, List, [], ◌∷◌, ◌++◌, length, take, get_or, map, Option, Some, None, option_and_then, option_map, refl, ap, sym, subst, ◌∙◌, arith}
use Rattle.std.proofs.lemmas.List.{take_more}
use Rattle.json.specs.Json.{Json}
use Rattle.json.specs.Value.{value_view, items_view}
use Rattle.json.specs.declared.value.Value.{Value}
use Rattle.s3_day_log.specs.Inner.Members.{read_each}

-- a list is read if its first items are, and those after them
pub read_more : {A X : Type 0} (read : Json → Option X) (vs : List (Value A)) (v : Value A) (x : X) (xs : List X)
    → read_each read (items_view vs) ≡ Some xs → read (value_view v) ≡ Some x → read_each read (items_view (vs ++ v ∷ [])) ≡ Some (xs ++ x ∷ [])
read_more read [] v x [] none is = rw is refl
read_more read [] v x (y ∷ ys) none is = absurd cc
read_more {A} {X} read (w ∷ vs) v x xs all is = by (read (value_view w)) (read_each read (items_view vs)) refl (λ more read_so. read_more read vs v x more read_so is) all
  where
    by : (first : Option X) (rest : Option (List X)) → read_each read (items_view vs) ≡ rest
        → ((more : List X) → read_each read (items_view vs) ≡ Some more → read_each read (items_view (vs ++ v ∷ [])) ≡ Some (more ++ x ∷ []))
        → option_and_then (λ one. option_map (λ more. one ∷ more) rest) first ≡ Some xs
        → option_and_then (λ one. option_map (λ more. one ∷ more) (read_each read (items_view (vs ++ v ∷ [])))) first ≡ Some (xs ++ x ∷ [])
    by None rest so_far longer whole = absurd cc
    by (Some one) None so_far longer whole = absurd cc
    by (Some one) (Some more) so_far longer whole =
        let same : one ∷ more ≡ xs = cc in rw (longer more so_far) (ap (λ ys. Some (ys ++ x ∷ [])) same)

pub read_stops : {A X : Type 0} (read : Json → Option X) (vs ws : List (Value A)) (v : Value A)
    → read (value_view v) ≡ None → read_each read (items_view (vs ++ v ∷ ws)) ≡ None
read_stops read [] ws v isnt = rw isnt refl
read_stops {A} {X} read (w ∷ vs) ws v isnt = rw (read_stops read vs ws v isnt) (by (read (value_view w)))
  where
    by : (first : Option X) → option_and_then (λ one. option_map (λ more. one ∷ more) None) first ≡ None
    by None = refl
    by (Some one) = refl

-- an item can't be read
pub none_at : {A X : Type 0} (read : Json → Option X) (vs : List (Value A)) (i : ℕ) (v : Value A) → i < length vs → v ≡ get_or vs i v → read (value_view v) ≡ None → None ≡ read_each read (items_view vs)
none_at read [] i v within at isnt = absurd (omega arith)
none_at read (w ∷ vs) zero v within at isnt = rw (subst (λ u. read (value_view u) ≡ None) at isnt) refl
none_at {A} {X} read (w ∷ vs) (suc i) v within at isnt = rw (← none_at read vs i v (omega (arith, within)) at isnt) (by (read (value_view w)))
  where
    by : (first : Option X) → None ≡ option_and_then (λ one. option_map (λ more. one ∷ more) None) first
    by None = refl
    by (Some one) = refl

map_push : {X Y : Type 0} (view : Y → X) (ys : List Y) (y : Y) → map view (ys ++ y ∷ []) ≡ map view ys ++ view y ∷ []
map_push view [] y = refl
map_push view (z ∷ ys) y = ap (λ xs. view z ∷ xs) (map_push view ys y)

-- an item is read after those before it
pub each_more : {A X Y : Type 0} (read : Json → Option X) (view : Y → X) (vs : List (Value A)) (i : ℕ) (v : Value A) (ys zs : List Y) (y : Y) → i < length vs → v ≡ get_or vs i v → read (value_view v) ≡ Some (view y) → zs ≡ ys ++ y ∷ []
    → read_each read (items_view (take i vs)) ≡ Some (map view ys) → read_each read (items_view (take (i + 1) vs)) ≡ Some (map view zs)
each_more read view vs i v ys zs y within at is pushed before =
    ap (λ ws. read_each read (items_view ws)) (take_more vs i v within ∙ ap (λ w. take i vs ++ w ∷ []) (sym at))
    ∙ (read_more read (take i vs) v (view y) (map view ys) before is
    ∙ ap Some (sym (ap (map view) pushed ∙ map_push view ys y)))
