-- The slot that a refusal names.
use Rattle.std.proofs.Common.{◌≡◌, ◌∙◌, ℕ, false, List, ap, refl, subst, sym}
use Rattle.s3_cards.specs.declared.levels.LevelId.{LevelId}
use Rattle.s3_cards.specs.declared.levels.LevelId.TheVariants.{One, Two}
use Rattle.s3_labels.specs.Areas.{area_of}
use Rattle.s3_labels.specs.Inner.Areas.{Areas, slots_at, slots_in}
use Rattle.s3_pack_check.specs.Inner.Damages.{first_damaged}
use Rattle.s3_pack_care.specs.Inner.Kept.{IsMounted}
use Rattle.s3_load.specs.declared.fault.LoadFault.{LoadFault}
use Rattle.s3_load.specs.declared.fault.LoadFault.TheVariants as refused
use Rattle.s3_load.specs.declared.order.Order.{Order}
use Rattle.s3_load.specs.Inner.Refusals.{NamesDamaged, NamesFirst, NamesNone}

-- a refusal that names no slot
pub none_named : (order : Order) (contents : List (List ℕ)) (fault : LoadFault) → NamesNone fault → NamesDamaged order contents fault
none_named order contents refused.NoMemory h = tt
none_named order contents refused.File h = tt
none_named order contents (refused.OpenQuote line) h = tt
none_named order contents refused.NoHeading h = tt
none_named order contents (refused.Heading faults) h = tt
none_named order contents (refused.Values faults count) h = tt
none_named order contents (refused.Mount fault) h = tt
none_named order contents (refused.Label fault) h = tt
none_named order contents (refused.DamagedSlot slot) h = absurd h
none_named order contents refused.NoName h = tt
none_named order contents refused.NoKey h = tt
none_named order contents refused.NoRoom h = tt
none_named order contents (refused.Full room count) h = tt
none_named order contents refused.OtherKind h = tt
none_named order contents (refused.OtherShape old new) h = tt
none_named order contents refused.BadIndex h = tt

own_slots : (level : LevelId) (areas : Areas) → slots_in (area_of level) areas ≡ slots_at level areas
own_slots One areas = refl
own_slots Two areas = refl

-- a refusal that names the first damaged slot of the level's area
pub first_named : (order : Order) (areas : Areas) (contents : List (List ℕ)) (fault : LoadFault) → order.appends ≡ false → IsMounted areas contents → NamesFirst (slots_in (area_of order.level) areas) fault
    → NamesDamaged order contents fault
first_named order areas contents refused.NoMemory anew is h = tt
first_named order areas contents refused.File anew is h = tt
first_named order areas contents (refused.OpenQuote line) anew is h = tt
first_named order areas contents refused.NoHeading anew is h = tt
first_named order areas contents (refused.Heading faults) anew is h = tt
first_named order areas contents (refused.Values faults count) anew is h = tt
first_named order areas contents (refused.Mount fault) anew is h = tt
first_named order areas contents (refused.Label fault) anew is h = tt
first_named order areas contents (refused.DamagedSlot slot) anew is h = record {
  anew = anew;
  header = areas.header;
  mounts = is.mounts;
  first =
      sym (ap (λ (a : Areas). first_damaged (slots_at order.level a)) is.judged)
      ∙ sym (ap first_damaged (own_slots order.level areas))
      ∙ h;
}
first_named order areas contents refused.NoName anew is h = tt
first_named order areas contents refused.NoKey anew is h = tt
first_named order areas contents refused.NoRoom anew is h = tt
first_named order areas contents (refused.Full room count) anew is h = tt
first_named order areas contents refused.OtherKind anew is h = tt
first_named order areas contents (refused.OtherShape old new) anew is h = tt
first_named order areas contents refused.BadIndex anew is h = tt

-- .. of a pack by its bytes
pub same_named : (order : Order) (pool contents : List (List ℕ)) (fault : LoadFault) → pool ≡ contents → NamesDamaged order pool fault → NamesDamaged order contents fault
same_named order pool contents fault same h = subst (λ (s : List (List ℕ)). NamesDamaged order s fault) same h
