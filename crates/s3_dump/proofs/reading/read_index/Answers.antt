use Rattle.s3_dump.proofs.reading.read_index.Goals as goal

pub returns-in_default-clause-next : goal.returns-in_default-clause-next
returns-in_default-clause-next c = c.with_digit.ensures.next c.args.bytes.now.items
