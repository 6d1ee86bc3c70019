-- A constant at each place.
use Rattle.std.proofs.Common.{Ok, map}
use Rattle.sub_types.specs.Nullable.{bool_value}
use Rattle.plan_denote.specs.Logic.{compared}
use Rattle.kernels.specs.Numbers.{int_of, dec_of, test_of}
use Rattle.call_kernels.proofs.PlaceLaws.{right_zipped}
use Rattle.call_kernels.proofs.comparisons.compare_right.Goals as goal

pub returns-clause-whole : goal.returns-clause-whole
returns-clause-whole g c = right_zipped (int_of g.T.Native.number) (compared (test_of c.args.op)) (map (λ truth. Ok (bool_value truth)) c.in_ok-found.found) c.args.a.now c.view.result c.args.b c.args.n c.view.ensures c.requires c.in_ok-found.ensures.whole

pub returns-clause-decimal : goal.returns-clause-decimal
returns-clause-decimal g c = right_zipped (dec_of g.T.Native.number) (compared (test_of c.args.op)) (map (λ truth. Ok (bool_value truth)) c.in_ok-found.found) c.args.a.now c.view.result c.args.b c.args.n c.view.ensures c.requires c.in_ok-found.ensures.decimal
