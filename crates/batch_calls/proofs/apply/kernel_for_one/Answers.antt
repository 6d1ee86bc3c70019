-- The only argument.
use Rattle.std.proofs.Common.{◌≤◌, length, sym, subst, arith}
use Rattle.batch_nodes.specs.Found.{found_values}
use Rattle.call_kernels.specs.Made.{applied_one, at_places}
use Rattle.batch_calls.proofs.KernelLaws.{list_of_one, one_at, at_place, made_one}
use Rattle.batch_calls.proofs.apply.kernel_for_one.Goals as goal

pub kernel_of_one-requires : goal.kernel_of_one-requires
kernel_of_one-requires c =
    let only = c.index-columns-0.result in
    subst (λ column. c.args.n ≤ length (found_values column)) (sym c.index-columns-0.is) (c.requires.long 0 only (omega (arith, c.requires.count)))

pub returns : goal.returns
returns c =
    let only = c.index-columns-0.result in
    let kind = c.args.ty.kind in
    let columns = c.args.columns.now in
    let is = list_of_one columns only c.requires.count c.index-columns-0.is in
    made_one (λ mode given. at_places (applied_one c.args.func kind mode given) (found_values only) (found_values only)) (at_place c.args.func kind c.args.mode c.args.given.now columns) c.args.mode c.args.given.now c.args.n c.args.ty c.kernel_of_one.result
    (one_at c.args.func kind c.args.mode c.args.given.now columns only is) c.kernel_of_one.ensures
