use Rattle.std.proofs.Common.{◌≡◌, ◌-◌, ◌*◌, inl, inr, Some, slice_get, ◌∙◌, sym, ap, subst, arith}
use Rattle.s3_store.specs.Bytes.{part}
use Rattle.s3_keyed.specs.Index.{key_of}
use Rattle.s3_keyed.specs.Inner.Shape.{layout_in, bytes_in, keys_on, entry_here, IsOfRecord}
use Rattle.s3_keyed.proofs.Checked.{below_or_at}
use Rattle.s3_keyed.proofs.Places.{get_key, length_keys}
use Rattle.s3_store.proofs.Calls.{reads_ok, reads_then}
use Rattle.s3_keyed.proofs.Sectors.{too_high, of_another, of_record}
use Rattle.s3_keyed.proofs.record_sector.RecordSector.have_keys.Goals as goal

pub returns-then-number-file-clause-good : goal.returns-then-number-file-clause-good
returns-then-number-file-clause-good g c =
    let f = c.args.file.now in
    let contents = (g.P.Sectors.state c.args.pool.now).contents in
    let number = rw c.from-key_length.ensures at c.number_in-number.ensures in
    (c.loop-j.j, c.loop-j-test.true, too_high (keys_on f contents) _ c.number_in-number.result f.file.count number (length_keys (layout_in f) f.file.count (bytes_in f contents)) c.if-number-file.true)

pub returns-then-not-branch-clause-good : goal.returns-then-not-branch-clause-good
returns-then-not-branch-clause-good g c =
    let f = c.args.file.now in
    let n = c.number_in-number.result in
    let old = (g.P.Sectors.state c.args.pool.now).contents in
    let now = (g.P.Sectors.state c.loop-j.pool).contents in
    let number = rw c.from-key_length.ensures at c.number_in-number.ensures in
    let key = key_of (layout_in f).key (part (bytes_in f now) ((n - 1) * f.file.record_length) f.file.record_length) in
    let read : slice_get (keys_on f old) (n - 1) ≡ Some key =
    ap (λ l. slice_get (keys_on f l) (n - 1)) (sym c.loop-j.invariant.reads.keeps.contents) ∙ get_key (layout_in f) f.file.count (n - 1) (bytes_in f now) (omega (arith, c.if-number-eq0.false, c.if-number-file.false)) in
    (c.loop-j.j, c.loop-j-test.true, of_another (keys_on f old) _ n key number read (sym c.in_ok-has_key.ensures.ok ∙ c.if-not-branch.true))

pub returns-then-not-branch-clause-reads : goal.returns-then-not-branch-clause-reads
returns-then-not-branch-clause-reads g c = reads_ok _ (reads_then c.loop-j.invariant.reads c.in_ok-has_key.ensures.reads)

pub returns-clause-good : goal.returns-clause-good
returns-clause-good g c j below = c.loop-j.invariant.good j (omega (arith, below, c.loop-j-test.false))

pub loop-j-preserved : goal.loop-j-preserved
loop-j-preserved g c =
    let f = c.args.file.now in
    let n = c.number_in-number.result in
    let old = (g.P.Sectors.state c.args.pool.now).contents in
    let now = (g.P.Sectors.state c.loop-j.pool).contents in
    let number = rw c.from-key_length.ensures at c.number_in-number.ensures in
    let key = key_of (layout_in f).key (part (bytes_in f now) ((n - 1) * f.file.record_length) f.file.record_length) in
    let read : slice_get (keys_on f old) (n - 1) ≡ Some key =
    ap (λ l. slice_get (keys_on f l) (n - 1)) (sym c.loop-j.invariant.reads.keeps.contents) ∙ get_key (layout_in f) f.file.count (n - 1) (bytes_in f now) (omega (arith, c.if-number-eq0.false, c.if-number-file.false)) in
    let is : IsOfRecord (keys_on f old) (entry_here f.key_length c.args.index.now c.loop-j.j) =
    of_record (keys_on f old) _ n f.file.count key number (length_keys (layout_in f) f.file.count (bytes_in f old)) (omega (arith, c.if-number-eq0.false)) (omega (arith, c.if-number-file.false)) read (sym c.in_ok-has_key.ensures.ok ∙ c.if-not-branch.false) in
    record {
      good = λ j below. elim (below_or_at j c.loop-j.j below) [
        | inl before ↦ c.loop-j.invariant.good j before
        | inr here ↦ subst (λ m. IsOfRecord (keys_on f old) (entry_here f.key_length c.args.index.now m)) (sym here) is
      ];
      here = c.in_ok-has_key.ensures.here ∙ ap (λ l. part (bytes_in f l) (256 * c.has_key.new.self.place) 256) (sym c.has_key.ensures.reads.keeps.contents);
      reads = reads_ok tt (reads_then c.loop-j.invariant.reads c.in_ok-has_key.ensures.reads);
    }
