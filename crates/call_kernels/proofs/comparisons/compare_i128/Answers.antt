-- The numbers are the arguments' values.
use Rattle.std.proofs.Common.{ℤ, map, Ok}
use Rattle.sub_types.specs.Nullable.{bool_value}
use Rattle.plan_denote.specs.Logic.{compared}
use Rattle.kernels.specs.Numbers.{decs, test_of}
use Rattle.call_kernels.specs.Numbers.{listed}
use Rattle.call_kernels.specs.Operand.{values}
use Rattle.call_kernels.proofs.PlaceLaws.{long_decs, zipped_as}
use Rattle.call_kernels.proofs.comparisons.compare_i128.Goals as goal

pub compare_numbers-requires-clause-a : goal.compare_numbers-requires-clause-a
compare_numbers-requires-clause-a c = long_decs {T = ℤ} (λ x. x) (listed c.args.n c.in-Some.left) (values c.args.n c.args.a) c.args.n (c.in-Some.ensures c.args.n) c.requires.a

pub compare_numbers-requires-clause-b : goal.compare_numbers-requires-clause-b
compare_numbers-requires-clause-b c = long_decs {T = ℤ} (λ x. x) (listed c.args.n c.in-Some-i128_numbers.right) (values c.args.n c.args.b) c.args.n (c.in-Some-i128_numbers.ensures c.args.n) c.requires.b

pub returns : goal.returns
returns c =
    zipped_as c.compare_numbers.result (map (λ truth. Ok (bool_value truth))) (compared (test_of c.args.op)) (decs (λ (x : ℤ). x) (listed c.args.n c.in-Some.left)) (decs (λ (x : ℤ). x) (listed c.args.n c.in-Some-i128_numbers.right)) (values c.args.n c.args.a) (values c.args.n c.args.b)
    (c.in-Some.ensures c.args.n) (c.in-Some-i128_numbers.ensures c.args.n) c.compare_numbers.ensures.decimal
