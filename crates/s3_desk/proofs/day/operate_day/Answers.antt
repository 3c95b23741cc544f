use Rattle.std.proofs.Common.{ℕ, List, IfOk, Ok, ◌≡◌, subst}
use Rattle.s3_slots.specs.Header.{mounted}
use Rattle.s3_slots.specs.declared.header.Header.{Header}
use Rattle.s3_bureau.proofs.Running.{lines_by}
use Rattle.s3_desk.specs.Inner.Days.{EndSo, HasPrinted, IsAnswered, run_of, starts_in}
use Rattle.s3_desk.proofs.day.operate_day.Goals as goal

pub returns-clause-runs : goal.returns-clause-runs
returns-clause-runs g c =
    λ deck1 deck2 script reads1 reads2 reads. lines_by c.args.pack.items deck1 deck2 script c.day_over.new.performed c.from_bytes-store.result (run_of c.day_over.result) c.from_bytes-store.ensures reads (c.day_over.ensures.runs deck1 deck2 reads1 reads2)

pub returns-clause-printed : goal.returns-clause-printed
returns-clause-printed g c =
    subst (λ (contents : List (List ℕ)). IfOk c.day_over.result (λ day. (header : Header) → mounted contents ≡ Ok header → HasPrinted (starts_in header contents c.args.one.cards c.args.two.cards) c.args.one.refusal c.day_over.new.performed day.run))
    c.from_bytes-store.ensures c.day_over.ensures.printed

pub returns-clause-ends : goal.returns-clause-ends
returns-clause-ends g c =
    subst (λ (contents : List (List ℕ)). IfOk c.day_over.result (λ day. (header : Header) → mounted contents ≡ Ok header → EndSo (starts_in header contents c.args.one.cards c.args.two.cards) c.day_over.new.performed day.ends))
    c.from_bytes-store.ensures c.day_over.ensures.ends

pub returns-clause-answered : goal.returns-clause-answered
returns-clause-answered g c =
    subst (λ (contents : List (List ℕ)). IfOk c.day_over.result (λ day. (header : Header) → mounted contents ≡ Ok header → IsAnswered g.O.Operator.meets (starts_in header contents c.args.one.cards c.args.two.cards) c.args.bounds c.day_over.new.performed day.ends c.args.operator.now c.day_over.new.operator))
    c.from_bytes-store.ensures c.day_over.ensures.answered
