use Rattle.std.proofs.Common.{◌≡◌, Some, sym, ap, ◌∙◌}
use Rattle.s3_files.proofs.RecordLemmas.{get_record}
use Rattle.s3_keyed.specs.KeyOrder.{number_of}
use Rattle.s3_keyed.specs.Index.{key_of}
use Rattle.s3_keyed.specs.Inner.Shape.{layout_in, bytes_in}
use Rattle.s3_keyed.specs.Inner.Keyed.{shown, keys_now}
use Rattle.s3_keyed.proofs.Places.{get_key}
use Rattle.s3_keyed.proofs.Ordered.{place_is}
use Rattle.s3_keyed.proofs.keyed.Keyed.get_noted.Goals as goal

pub returns-then-has_key-clause-place : goal.returns-then-has_key-clause-place
returns-then-has_key-clause-place g c =
    let self = c.args.self.now in
    let layout = layout_in self.file in
    let contents = (g.P.Sectors.state c.args.pool.now).contents in
    let bytes = bytes_in self.file contents in
    let place = c.in-Some.place in
    let key : key_of layout.key c.read_record.new.bytes ≡ number_of c.args.key.now = c.has_key.ensures c.if-has_key.true in
    place_is (keys_now (shown self) contents) place (number_of c.args.key.now) c.requires.ordered.distinct
    (get_key layout self.count place bytes c.if-place-self.false ∙ ap Some (ap (key_of layout.key) (sym c.in_ok-read_record.ensures.ok) ∙ key))

pub returns-then-has_key-clause-got : goal.returns-then-has_key-clause-got
returns-then-has_key-clause-got g c =
    let self = c.args.self.now in
    get_record self.file.file.record_length self.count c.in-Some.place (bytes_in self.file (g.P.Sectors.state c.args.pool.now).contents) c.if-place-self.false
    ∙ ap Some (sym c.in_ok-read_record.ensures.ok)
