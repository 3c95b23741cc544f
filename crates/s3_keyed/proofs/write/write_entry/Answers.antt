use Rattle.std.proofs.Common.{◌≡◌, ◌+◌, length, ap, ◌∙◌, rules, arith}
use Rattle.s3_keyed.specs.Inner.Shape.{layout_in, bytes_in}
use Rattle.s3_keyed.specs.Index.{entry_at}
use Rattle.s3_keyed.proofs.Places.{other_entry, length_buffer, placed}
use Rattle.s3_keyed.proofs.write.write_entry.Goals as goal

pub returns-clause-ok : goal.returns-clause-ok
unfolding entry_at
returns-clause-ok g c = search rules

pub returns-clause-others : goal.returns-clause-others
returns-clause-others g c =
    let f = c.args.file.now in
    let few = f.short_key in
    let long : length c.encode.new.bytes ≡ f.key_length + 4 = c.encode.auto.bytes ∙ length_buffer 33 (c.from-key_length.result + 4) (omega (arith, c.from-key_length.ensures)) ∙ ap (λ n. n + 4) c.from-key_length.ensures in
    λ j other. other_entry (layout_in f) (bytes_in f (g.P.Sectors.state c.args.pool.now).contents) (bytes_in f (g.P.Sectors.state c.write_bytes.new.pool).contents) j c.args.i few other (placed _ _ _ _ _ _ c.place_of.ensures.place long c.write_bytes.ensures.outside)

pub returns-in_err-write_bytes-clause-others : goal.returns-in_err-write_bytes-clause-others
returns-in_err-write_bytes-clause-others g c =
    let f = c.args.file.now in
    let few = f.short_key in
    let long : length c.encode.new.bytes ≡ f.key_length + 4 = c.encode.auto.bytes ∙ length_buffer 33 (c.from-key_length.result + 4) (omega (arith, c.from-key_length.ensures)) ∙ ap (λ n. n + 4) c.from-key_length.ensures in
    λ j other. other_entry (layout_in f) (bytes_in f (g.P.Sectors.state c.args.pool.now).contents) (bytes_in f (g.P.Sectors.state c.write_bytes.new.pool).contents) j c.args.i few other (placed _ _ _ _ _ _ c.place_of.ensures.place long c.write_bytes.ensures.outside)
