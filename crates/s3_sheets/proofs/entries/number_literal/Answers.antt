use Rattle.std.proofs.Common.{◌≡◌, ◌∙◌, ◌<◌, ◌+◌, ◌-◌, true, sym, ap, arith, rules, length, take, drop, length-drop}
use Rattle.std.specs.Prelude.{Some}
use Rattle.std.proofs.lemmas.Int.{to_z-of_z}
use Rattle.std.proofs.lemmas.List.{length-take-le, take_all}
use mir.Syntax.{w64}
use mir.Val.{SFits}
use Rattle.s3_sheets.specs.Columns.{are_blank}
use Rattle.s3_sheets.specs.Entries.{signed, without_point}
use Rattle.s3_sheets.proofs.EntryLemmas.{digits_in_front, room_behind, literal_read}
use Rattle.s3_sheets.proofs.entries.number_literal.Goals as goal

pub number_onto-requires-clause-all : goal.number_onto-requires-clause-all
number_onto-requires-clause-all c = rw c.digits_in_front-whole.ensures.value (digits_in_front c.without_sign-unsigned.result.now)

pub number_onto-number-requires-clause-all : goal.number_onto-number-requires-clause-all
number_onto-number-requires-clause-all c = rw c.digits_in_front-decimals.ensures.value (digits_in_front c.without_point-fraction.result.now)

pub number_onto-number-requires-clause-fits : goal.number_onto-number-requires-clause-fits
number_onto-number-requires-clause-fits c =
    let unsigned = c.without_sign-unsigned.result.now in
    let fraction = c.without_point-fraction.result.now in
    let whole = c.digits_in_front-whole.result in
    let decimals = c.digits_in_front-decimals.result in
    room_behind c.number_onto.result (length (take whole unsigned)) (length (take decimals fraction)) c.number_onto.ensures.below
    (omega (
      arith,
      length-take-le whole unsigned c.digits_in_front-whole.ensures.within,
      length-take-le decimals fraction c.digits_in_front-decimals.ensures.within,
      length-drop whole unsigned,
      c.without_sign-unsigned.ensures.shorter,
      c.without_point-fraction.ensures.shorter,
      c.requires,
    ))

pub signed-requires : goal.signed-requires
signed-requires c =
    let unsigned = c.without_sign-unsigned.result.now in
    let fraction = c.without_point-fraction.result.now in
    let whole = c.digits_in_front-whole.result in
    let decimals = c.digits_in_front-decimals.result in
    omega (
      arith,
      c.number_onto-number.ensures.below,
      room_behind c.number_onto.result (length (take whole unsigned)) (length (take decimals fraction)) c.number_onto.ensures.below
          (omega (
            arith,
            length-take-le whole unsigned c.digits_in_front-whole.ensures.within,
            length-take-le decimals fraction c.digits_in_front-decimals.ensures.within,
            length-drop whole unsigned,
            c.without_sign-unsigned.ensures.shorter,
            c.without_point-fraction.ensures.shorter,
            c.requires,
          )),
    )

pub returns : goal.returns
returns c =
    let unsigned = c.without_sign-unsigned.result.now in
    let fraction = c.without_point-fraction.result.now in
    let whole = c.digits_in_front-whole.result in
    let decimals = c.digits_in_front-decimals.result in
    let some : 0 < whole + decimals = omega arith in
    let rest : take (length unsigned - whole) (drop whole unsigned) ≡ drop whole unsigned =
    take_all (length unsigned - whole) (drop whole unsigned) (omega (arith, length-drop whole unsigned)) in
    let behind : take (length fraction - decimals) (drop decimals fraction) ≡ drop decimals fraction =
    take_all (length fraction - decimals) (drop decimals fraction) (omega (arith, length-drop decimals fraction)) in
    let blank : are_blank (drop decimals fraction) ≡ true = sym (ap are_blank behind) ∙ (sym c.are_blank.ensures ∙ c.if-not-are_blank.false) in
    let fits : SFits w64 c.signed.result = search rules in
    ap (λ z. Some (record { value = z; digits = whole + decimals; decimals = decimals }))
    (to_z-of_z w64 c.signed.result fits ∙ (c.signed.ensures ∙ ap (λ negative. signed negative c.number_onto-number.result) c.is_negative.ensures))
    ∙ literal_read _ _ _ _ _ _ _ c.without_sign-unsigned.ensures.value c.digits_in_front-whole.ensures.value (c.without_point-fraction.ensures.value ∙ ap without_point rest)
    c.digits_in_front-decimals.ensures.value some blank c.number_onto.ensures.value c.number_onto-number.ensures.value
