use Rattle.std.proofs.Common.{ap, sym, ◌∙◌}
use Rattle.s3_lines.specs.declared.sheet.FileLine.{FileLine}
use Rattle.s3_meaning.specs.Calculating.{forgotten}
use Rattle.s3_match.specs.Inner.Types.{name_of_file}
use Rattle.s3_operations.specs.Inner.Indicators.{is_settable_entry}
use Rattle.s3_cycle.specs.Inner.Going.{CanCalculate, IsPastChain}
use Rattle.s3_cycle.proofs.GoingLemmas.{changed_running, changed_stays}
use Rattle.s3_cycle.proofs.ChainingLemmas.{chain_in, chain_settable, chains_missing, chains_waiting, served_as}
use Rattle.s3_cycle.proofs.SoughtLemmas.{file_as}
use Rattle.s3_cycle.proofs.stepper.Stepper.chain.Goals as goal

pub sought-sought-requires-clause-chained : goal.sought-sought-requires-clause-chained
sought-sought-requires-clause-chained c = record {
  line = c.requires.chain.line;
  of_program = record { place = c.args.place; there = c.requires.chain.there; bears = c.requires.chain.operation };
  is = c.requires.chained c.requires.chain.line c.requires.chain.there;
}

pub forget-requires-clause-within : goal.forget-requires-clause-within
forget-requires-clause-within c = (chain_in c.args.self.now.program c.args.place c.requires.chain.line c.args.chained c.requires.chain.there c.requires.chain.operation (c.requires.chained c.requires.chain.line c.requires.chain.there)).within

pub miss-requires-clause-running : goal.miss-requires-clause-running
miss-requires-clause-running c =
    let s = c.args.self.now in changed_running s c.forget.new.self (λ source. forgotten source (name_of_file s.program c.args.chained.file)) c.forget.ensures c.requires.running

pub miss-requires-clause-calculates : goal.miss-requires-clause-calculates
miss-requires-clause-calculates c =
    let s = c.args.self.now in
    changed_stays (λ p progress. CanCalculate p progress) s c.forget.new.self (λ source. forgotten source (name_of_file s.program c.args.chained.file)) c.forget.ensures c.requires.calculates

pub miss-requires-clause-past : goal.miss-requires-clause-past
miss-requires-clause-past c =
    let s = c.args.self.now in
    changed_stays IsPastChain s c.forget.new.self (λ source. forgotten source (name_of_file s.program c.args.chained.file)) c.forget.ensures
    (record { place = c.args.place; is_chain = c.requires.chain; is_next = c.requires.next })

pub miss-requires-clause-settable : goal.miss-requires-clause-settable
miss-requires-clause-settable c =
    let line = c.requires.chain.line in
    ap is_settable_entry (c.requires.chained line c.requires.chain.there).misses ∙ chain_settable c.args.self.now.program c.args.place line c.requires.chain.there c.requires.chain.operation

pub returns-then-not-is_served : goal.returns-then-not-is_served
returns-then-not-is_served c =
    let s = c.args.self.now in
    let line = c.requires.chain.line in
    let is = c.requires.chained line c.requires.chain.there in
    chains_missing s c.forget.new.self c.miss.new.self c.args.place c.args.chained.file c.args.chained.missing line c.miss.result (chain_in s.program c.args.place line c.args.chained c.requires.chain.there c.requires.chain.operation is) is.misses c.forget.ensures
    (sym c.if-not-is_served.true ∙ served_as s line c.args.chained c.holds-is_served.result is c.holds-is_served.ensures)
    c.miss.ensures

pub returns : goal.returns
returns c =
    let s = c.args.self.now in
    let line = c.requires.chain.line in
    let is = c.requires.chained line c.requires.chain.there in
    chains_waiting s c.forget.new.self c.wait.new.self c.args.place c.args.chained.file c.args.chained.length c.args.chained.missing line c.sought-sought.result c.requires.running c.requires.calculates c.requires.next
    (chain_in s.program c.args.place line c.args.chained c.requires.chain.there c.requires.chain.operation is) is.misses c.forget.ensures
    (sym c.if-not-is_served.false ∙ served_as s line c.args.chained c.holds-is_served.result is c.holds-is_served.ensures)
    (is.size ∙ ap (λ (f : FileLine). f.record_length) (sym (file_as s.program line c.args.chained is)))
    (c.sought-sought.ensures line (record { place = c.args.place; there = c.requires.chain.there; bears = c.requires.chain.operation }) is) c.wait.ensures
