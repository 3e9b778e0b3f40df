use Rattle.std.proofs.Common.{rules, ◌<◌, length, refl, subst, List}
use Rattle.ps_compile.specs.Checks.{Check, NoneIsExceeded}
use Rattle.ps_compile.specs.inner.Inside.{inside_of}
use Rattle.ps_compile.specs.Ends.{IsCompileEnd}
use Rattle.ps_compile.specs.inner.Drafts.{Tested}
use Rattle.ps_compile.proofs.Inside.{inside_atomic, inside_if, within_step, within_end}
use Rattle.ps_compile.proofs.Testing.{end_left, end_right, none_append}
use Rattle.ps_compile.proofs.limits_inside.+within.Goals as goal

pub test_kind-returns-in-Atomic : goal.test_kind-returns-in-Atomic
test_kind-returns-in-Atomic t c =
    subst (λ (cs : List Check). Tested c.test_within.result cs) (inside_atomic c.args.kind.now c.in-Atomic.block c.as_slice.result.now c.in-Atomic.is c.as_slice.ensures) c.test_within.ensures

pub test_kind-returns-in-Err : goal.test_kind-returns-in-Err
test_kind-returns-in-Err t c =
    subst (λ (cs : List Check). IsCompileEnd cs c.in-Err.end) (inside_if c.args.kind.now c.in-If._test c.in-If.held c.in-If.failed c.as_slice-in-If.result.now c.in-If.failed c.in-If.is c.as_slice-in-If.ensures refl)
    (end_left (inside_of c.as_slice-in-If.result.now) (inside_of c.in-If.failed) c.in-Err.end c.in-Err.ensures)

pub test_kind-returns-in-Ok-test_within : goal.test_kind-returns-in-Ok-test_within
test_kind-returns-in-Ok-test_within t c =
    subst NoneIsExceeded (inside_if c.args.kind.now c.in-If._test c.in-If.held c.in-If.failed c.as_slice-in-If.result.now c.as_slice-in-If-2.result.now c.in-If.is c.as_slice-in-If.ensures c.as_slice-in-If-2.ensures)
    (none_append (inside_of c.as_slice-in-If.result.now) (inside_of c.as_slice-in-If-2.result.now) c.in-Ok.ensures c.in-Ok-test_within.ensures)

pub test_kind-returns-in-Err-test_within : goal.test_kind-returns-in-Err-test_within
test_kind-returns-in-Err-test_within t c =
    subst (λ (cs : List Check). IsCompileEnd cs c.in-Err-test_within.end)
    (inside_if c.args.kind.now c.in-If._test c.in-If.held c.in-If.failed c.as_slice-in-If.result.now c.as_slice-in-If-2.result.now c.in-If.is c.as_slice-in-If.ensures c.as_slice-in-If-2.ensures)
    (end_right (inside_of c.as_slice-in-If.result.now) (inside_of c.as_slice-in-If-2.result.now) c.in-Err-test_within.end c.in-Ok.ensures c.in-Err-test_within.ensures)

pub test_within-returns-in-Err-test_kind : goal.test_within-returns-in-Err-test_kind
test_within-returns-in-Err-test_kind t c =
    let l : c.loop-stmt.stmt-index < length c.args.block.now = search rules in
    within_end c.args.block.now c.loop-stmt.stmt-index c.stmt-item.result c.in-Err-test_kind.end l c.stmt-item.is c.loop-stmt.invariant c.in-Ok.ensures c.in-Err-test_kind.ensures

pub test_within-loop-stmt-preserved : goal.test_within-loop-stmt-preserved
test_within-loop-stmt-preserved t c =
    let l : c.loop-stmt.stmt-index < length c.args.block.now = search rules in
    within_step c.args.block.now c.loop-stmt.stmt-index c.stmt-item.result l c.stmt-item.is c.loop-stmt.invariant c.in-Ok.ensures c.in-Ok-test_kind.ensures
