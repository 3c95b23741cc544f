use Rattle.std.proofs.Common.{◌≤◌, length, min, sym, ap, ◌∙◌, arith}
use Rattle.std.proofs.lemmas.List.{length-set}
use Rattle.s3_job_files.specs.Inner.Records.{changes_of}
use Rattle.s3_job_files.proofs.Overlaid.{have_all, laid_all, laid_one, past_all}
use Rattle.s3_job_files.proofs.file.overlay.Goals as goal

pub loop-place-preserved : goal.loop-place-preserved
loop-place-preserved c =
    let now = c.loop-place in
    let all = have_all now.place c.min-count.result (length c.args.codes.now) (length c.args.marks.now) (length c.args.bytes.now) (length now.bytes) c.loop-place-test.true (c.min-count.ensures ∙ ap (λ n. min n (length c.args.bytes.now)) c.min.ensures) now.invariant.long in
    record {
      long = length-set now.bytes now.place _ ∙ now.invariant.long;
      laid = laid_one c.args.codes.now c.args.marks.now now.bytes now.place _ all.coded all.marked all.within c.laid_byte.ensures ∙ now.invariant.laid;
    }

pub returns : goal.returns
returns c =
    let now = c.loop-place in
    let past : c.min-count.result ≤ now.place = omega (arith, c.loop-place-test.false) in
    sym (laid_all (changes_of c.args.codes.now c.args.marks.now) now.bytes now.place
    (past_all c.args.codes.now c.args.marks.now now.place c.min-count.result (length c.args.bytes.now) (length now.bytes) past (c.min-count.ensures ∙ ap (λ n. min n (length c.args.bytes.now)) c.min.ensures) now.invariant.long))
    ∙ now.invariant.laid
