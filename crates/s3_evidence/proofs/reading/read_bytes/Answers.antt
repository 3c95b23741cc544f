use Rattle.std.proofs.Common.{◌∙◌, ◌+◌, ◌%◌, ℕ, List, ap, slice_range}
use Rattle.s3_evidence.proofs.reading.read_bytes.Goals as goal

pub returns-in-Some-clause-from : goal.returns-in-Some-clause-from
returns-in-Some-clause-from g c =
    let first = c.args.at % 256 in
    let end = c.args.at % 256 + c.from-wanted.result in
    record {
      all = c.in_ok-bytes.bytes.items;
      read = c.in_ok-bytes.ensures.from;
      from = first;
      to = end;
      part = c.in_ok-from_slice-in-Some.ensures.items ∙ (c.in-Some.ensures.lookup.0.2 ∙ ap (λ (bytes : List ℕ). slice_range bytes first end) c.deref.ensures.value);
    }
