use Rattle.std.proofs.Common.{sym, ap, subst, ◌∙◌, ◌≤◌, length, ℕ}
use Rattle.s3_output.proofs.CompositionLemmas.{clear_filled, clear_view}
use Rattle.s3_output.proofs.composition.Composition.clear.Goals as goal

pub blank-requires : goal.blank-requires
blank-requires c = subst (λ (n : ℕ). c.args.length ≤ n) (sym (ap length c.as_mut.ensures.value ∙ c.self.invariant.codes_size)) c.requires

pub unmark-requires : goal.unmark-requires
unmark-requires c = subst (λ (n : ℕ). c.args.length ≤ n) (sym (ap length c.as_mut-2.ensures.value ∙ c.self.invariant.puts_size)) c.requires

pub invariant_of-self : goal.invariant_of-self
invariant_of-self c = record {
  short = c.requires;
  codes_size = c.blank.ensures.whole;
  puts_size = c.unmark.auto.put ∙ (ap length c.as_mut-2.ensures.value ∙ c.self.invariant.puts_size);
  blanks = clear_filled c.args.length c.args.is_told c.unmark.new.put c.blank.new.codes c.blank.ensures.blanks c.unmark.ensures;
}

pub returns : goal.returns
returns c = clear_view c.args.length c.args.is_told c.unmark.new.put c.blank.new.codes c.blank.ensures.blanks c.unmark.ensures
