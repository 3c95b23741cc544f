use Rattle.std.proofs.Common.{◌≡◌, ◌≤◌, ◌*◌, ◌==◌, length, take, drop, refl, sym, ap, ◌∙◌, arith}
use Rattle.std.proofs.lemmas.List.{take-take}
use Rattle.s3_store.specs.Bytes.{part}
use Rattle.s3_keyed.specs.KeyOrder.{number_of}
use Rattle.s3_keyed.specs.Index.{key_of}
use Rattle.s3_keyed.specs.Inner.Shape.{layout_in, bytes_in}
use Rattle.s3_keyed.proofs.Places.{key_there, length_buffer, rest_of}
use Rattle.s3_keyed.proofs.entries.has_key_of.Goals as goal

pub returns-clause-ok : goal.returns-clause-ok
returns-clause-ok g c =
    let f = c.args.file.now in
    let k = f.key_length in
    let place = (layout_in f).key in
    let file = bytes_in f (g.P.Sectors.state c.args.pool.now).contents in
    let given = c.args.bytes.now in
    let at = c.key_place.result in
    let start = c.from-start.result in
    let read = c.read_bytes.new.bytes in
    let short : c.from-key_length.result ≤ 29 = omega (arith, c.from-key_length.ensures, f.short_key) in
    let is : read ≡ part file at k = c.in_ok-read_bytes.ensures.ok ∙ ap (part file at) (length_buffer 29 c.from-key_length.result short ∙ c.from-key_length.ensures) in
    let old : number_of (take k read) ≡ key_of place (part file (c.args.i * f.file.record_length) f.file.record_length) =
    ap (λ l. number_of (take k l)) is
    ∙ ap number_of (take-take k k (drop at file) (omega arith))
    ∙ ap (λ a. number_of (part file a k)) c.key_place.ensures.place
    ∙ sym (key_there (layout_in f) c.args.i file f.some_start f.key_inside) in
    let new : number_of (take k (drop start given)) ≡ key_of place given = ap (λ a. number_of (part given a k)) c.from-start.ensures in
    let said = rw c.from-key_length.ensures at c.are_same_first.ensures in
    said
    ∙ ap (λ l. number_of (take k read) == number_of (take k l)) (rest_of (length given) start given refl)
    ∙ ap (λ n. n == number_of (take k (drop start given))) old
    ∙ ap (λ n. key_of place (part file (c.args.i * f.file.record_length) f.file.record_length) == n) new
