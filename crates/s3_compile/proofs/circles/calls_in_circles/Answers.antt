use Rattle.std.proofs.Common.{◌≡◌, ◌∙◌, ap, ◌&&◌, List, length, ℕ, sym}
use Rattle.std.specs.List.{list_any}
use Rattle.std.proofs.lemmas.Bool.{eqb-true}
use Rattle.std.proofs.lemmas.Result.{IfOk-weaker}
use Rattle.indexmap.specs.IndexSet.{contains}
use Rattle.s3_program.specs.declared.call.Call.{Call}
use Rattle.s3_program.specs.Jumps.{is_place, same_call, is_in_circle}
use Rattle.s3_compile.proofs.CircleLemmas.{all_tried, none_tried}
use Rattle.s3_compile.proofs.circles.calls_in_circles.Goals as goal

pub returns : goal.returns
returns c =
    let calls = c.args.calls.now in
    IfOk-weaker c.circles_among-circling.result
    (λ circling. (call : Call) → contains same_call circling call ≡ (list_any (is_place call.caller) c.as_slice.result.now && (list_any (same_call call) calls && is_in_circle calls call)))
    (λ circling. (call : Call) → contains same_call circling call ≡ (list_any (same_call call) calls && is_in_circle calls call))
    (λ circling is call.
    is call
    ∙ (ap (λ (callers : List ℕ). list_any (is_place call.caller) callers && (list_any (same_call call) calls && is_in_circle calls call)) c.as_slice.ensures.keys
    ∙ all_tried calls c.args.ninth.now c.in_ok-subroutines.subroutines.keys c.requires c.in_ok-subroutines.ensures call))
    c.circles_among-circling.ensures

pub returns-then-is_empty : goal.returns-then-is_empty
returns-then-is_empty c = none_tried c.args.calls.now c.args.ninth.now c.new.result c.requires (eqb-true (length c.args.ninth.now) 0 (sym c.is_empty.ensures ∙ c.if-is_empty.true)) c.new.ensures.empty
