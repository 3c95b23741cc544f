use Rattle.std.proofs.Common.{◌≡◌, sym, ◌∙◌, arith, to_z, of_z, w64}
use Rattle.std.proofs.lemmas.Int.{ints}
use Rattle.s3_operations.proofs.ValueLemmas.{number_read}
use Rattle.s3_cycle.proofs.SoughtLemmas.{number_inside, record_inside, seeks_number_of, seeks_text, seeks_zoned, text_few, text_inside}
use Rattle.s3_cycle.proofs.stepper.Stepper.sought.Goals as goal

pub text-requires : goal.text-requires
text-requires c = text_inside c.args.self.now c.requires.chained.line c.args.chained.now c.in-Text.slot c.requires.running c.requires.chained.is c.in-Text.is

pub key_of-requires : goal.key_of-requires
key_of-requires c =
    text_few c.args.self.now c.requires.chained.line c.args.chained.now c.in-Text.slot c.text.result.now c.requires.running c.requires.chained.of_program c.requires.chained.is c.in-Text.is c.text.ensures

pub returns-in-Text : goal.returns-in-Text
returns-in-Text c = λ line of_program is.
    seeks_text c.args.self.now line c.args.chained.now c.in-Text.slot c.text.result.now c.key_of.result.items c.requires.running of_program is c.in-Text.is c.text.ensures c.key_of.ensures

pub number-requires-clause-within : goal.number-requires-clause-within
number-requires-clause-within c = number_inside c.args.self.now c.requires.chained.line c.args.chained.now c.in-Number.slot c.requires.running c.requires.chained.is c.in-Number.is

pub returns-in-Number : goal.returns-in-Number
returns-in-Number c = λ line of_program is.
    seeks_zoned c.args.self.now line c.args.chained.now c.in-Number.slot c.number.result c.zoned_key.result.items c.requires.running of_program is c.in-Number.is c.number.ensures.value c.number.ensures.form c.zoned_key.ensures

pub index-requires : goal.index-requires
index-requires c =
    let within = record_inside c.args.self.now c.requires.chained.line c.args.chained.now c.in-RecordNumber.slot c.requires.running c.requires.chained.is c.in-RecordNumber.is in
    omega (arith, within, c.args.self.now.state.values.numbers.ok.0)

pub returns-in-RecordNumber : goal.returns-in-RecordNumber
returns-in-RecordNumber c = λ line of_program is.
    let s = c.args.self.now in
    let within = record_inside s c.requires.chained.line c.args.chained.now c.in-RecordNumber.slot c.requires.running c.requires.chained.is c.in-RecordNumber.is in
    let back : to_z w64 (of_z w64 c.index.result.now) ≡ c.index.result.now = omega (arith, ints) in
    seeks_number_of s line c.args.chained.now c.in-RecordNumber.slot _ c.requires.running is c.in-RecordNumber.is
    (back ∙ sym (number_read s.state.values.numbers.items c.in-RecordNumber.slot c.index.result.now c.index.result.now within c.index.ensures))
