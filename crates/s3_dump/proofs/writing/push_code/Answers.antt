use Rattle.std.proofs.Common.{◌≡◌}
use Rattle.std.specs.Prelude.{Some}
use Rattle.s3_cards.specs.Codes.{ebcdic_of}
use Rattle.s3_dump.proofs.WriterLemmas.{character_read}
use Rattle.s3_dump.proofs.writing.push_code.Goals as goal

pub returns-in_ok-push-in-Some : goal.returns-in_ok-push-in-Some
returns-in_ok-push-in-Some c =
    let known : ebcdic_of c.host_byte-shown.result ≡ Some c.args.code = cc (c.in-Some.ensures, c.if-same-code.true) in
    character_read c.args.text.now.items c.push.new.text.items c.host_byte-shown.result c.args.code known c.in_ok-push-in-Some.ensures
