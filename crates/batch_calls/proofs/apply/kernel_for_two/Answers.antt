-- The two arguments.
use Rattle.std.proofs.Common.{◌≤◌, length, IfOk, sym, subst, arith}
use Rattle.sub_types.specs.Value.{InKind}
use Rattle.plan_denote.specs.Computed.{Computed}
use Rattle.batch_nodes.specs.Found.{found_values}
use Rattle.call_kernels.specs.Made.{applied_two, at_places}
use Rattle.batch_calls.proofs.KernelLaws.{list_of_two, two_at, at_place, made_at}
use Rattle.batch_calls.proofs.apply.kernel_for_two.Goals as goal

pub kernel_of_two-requires-clause-a : goal.kernel_of_two-requires-clause-a
kernel_of_two-requires-clause-a c =
    let one = c.index-columns-0.result in
    subst (λ column. c.args.n ≤ length (found_values column)) (sym c.index-columns-0.is) (c.requires.long 0 one (omega (arith, c.requires.count)))

pub kernel_of_two-requires-clause-b : goal.kernel_of_two-requires-clause-b
kernel_of_two-requires-clause-b c =
    let one = c.index-columns-1.result in
    subst (λ column. c.args.n ≤ length (found_values column)) (sym c.index-columns-1.is) (c.requires.long 1 one (omega (arith, c.requires.count)))

pub kernel_of_two-requires-clause-in_kind : goal.kernel_of_two-requires-clause-in_kind
kernel_of_two-requires-clause-in_kind c = λ i below.
    let left = c.index-columns-0.result in
    let right = c.index-columns-1.result in
    let kind = c.args.ty.kind in
    let columns = c.args.columns.now in
    let is = list_of_two columns left right c.requires.count c.index-columns-0.is c.index-columns-1.is in
    subst (λ (found : Computed). IfOk found (InKind kind)) (sym (two_at c.args.func kind c.args.mode c.args.given.now columns left right is i)) (c.requires.in_kind i below)

pub returns : goal.returns
returns c =
    let left = c.index-columns-0.result in
    let right = c.index-columns-1.result in
    let kind = c.args.ty.kind in
    let columns = c.args.columns.now in
    let is = list_of_two columns left right c.requires.count c.index-columns-0.is c.index-columns-1.is in
    made_at (at_places (applied_two c.args.func kind c.args.mode c.args.given.now) (found_values left) (found_values right)) (at_place c.args.func kind c.args.mode c.args.given.now columns) c.args.n c.args.ty c.kernel_of_two.result
    (two_at c.args.func kind c.args.mode c.args.given.now columns left right is) c.kernel_of_two.ensures
