-- Truth values of the type of truth values.
use Rattle.std.proofs.Common.{◌≡◌, List, Bool, Option, Ok, IfSome, map, subst}
use Rattle.std.specs.Simd.Lanes.{zip2}
use Rattle.sub_types.specs.Nullable.{bool_value}
use Rattle.call_kernels.proofs.MadeLaws.{made_truths}
use Rattle.call_kernels.proofs.made.truths.Goals as goal

pub returns-in-Bool : goal.returns-in-Bool
returns-in-Bool c = λ f a b n long_a long_b is.
    made_truths f a b n c.args.ty c.in-Some.known c.of_truths.result long_a long_b
    (subst (λ (column : Option (List (Option Bool))). IfSome column (λ truths. map (λ truth. Ok (bool_value truth)) truths ≡ zip2 f a b)) c.in-Some.is is)
    c.of_truths.ensures.values c.of_truths.ensures.ty
