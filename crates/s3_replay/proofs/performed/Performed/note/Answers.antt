use Rattle.std.proofs.Common.{◌≡◌, ◌+◌, ◌-◌, ◌<◌, ◌++◌, length, suc, List, replicate, sym, ap, ◌∙◌, arith}
use Rattle.s3_bureau.specs.declared.entry.Entry.{Entry}
use Rattle.s3_replay.specs.declared.performed.Repeated.{Repeated}
use Rattle.s3_replay.specs.Inner.Written.{is_writable}
use Rattle.s3_replay.proofs.Writing.{last_again, last_writable, same_at}
use Rattle.s3_replay.proofs.performed.Performed.note.Goals as goal

pub invariant_of-self-inside : goal.invariant_of-self-inside
invariant_of-self-inside c =
    let parts = c.self.inside.parts.items in
    let at = c.len-many.result - 1 in
    let within : at < length parts = omega (arith, c.len-many.ensures, c.if-many-gt0.true) in
    let last : c.index_mut.result.now ≡ c.index.result.now = same_at parts at c.index_mut.result.now c.index.result.now within c.index_mut.ensures.value c.index.ensures in
    let same = ap (λ (part : Repeated). part.entry) last ∙ c.in-Some.ensures.0 in
    (last_writable parts at c.index_mut.result.now c.in-Some.all (ap (λ (entry : Entry). is_writable entry.action) same ∙ c.requires) c.self.inside.are_writable, tt)

pub returns-in-Some-clause-noted : goal.returns-in-Some-clause-noted
returns-in-Some-clause-noted c =
    let parts = c.self.inside.parts.items in
    let at = c.len-many.result - 1 in
    let within : at < length parts = omega (arith, c.len-many.ensures, c.if-many-gt0.true) in
    let size : length parts ≡ suc at = omega (arith, within, c.len-many.ensures, c.if-many-gt0.true) in
    let last : c.index_mut.result.now ≡ c.index.result.now = same_at parts at c.index_mut.result.now c.index.result.now within c.index_mut.ensures.value c.index.ensures in
    let same = ap (λ (part : Repeated). part.entry) last ∙ c.in-Some.ensures.0 in
    let sum = c.in-Some.ensures.1 ∙ ap (λ (part : Repeated). part.times + c.args.times) (sym last) in
    last_again parts at c.index_mut.result.now c.args.entry c.args.times c.in-Some.all size c.index_mut.ensures.value same sum
    ∙ ap (λ (entries : List Entry). entries ++ replicate c.args.times c.args.entry) c.self.view_is
