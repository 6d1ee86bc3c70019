use Rattle.std.proofs.Common.{◌∙◌, ◌-◌, ap}
use Rattle.std.specs.Ordering.{is_eq, is_lt, int_cmp}
use Rattle.kernels.specs.declared.op.CompareOp.TheVariants.{Ne, Le, Gt, Ge}
use Rattle.kernels.specs.Numbers.{holds}
use Rattle.kernels.proofs.CompareLaws.{mask-other, mask-turned, mask-other_turned, other_eq, other_lt, lt_turned, other_lt_turned}
use Rattle.kernels.proofs.comparison.compare_lanes.Goals as goal

pub returns-in-Ne : goal.returns-in-Ne
returns-in-Ne g c =
    let number = g.T.Native.number in
    rw c.in-Ne.is (ap (λ mask. 255 - mask) c.equal_of_eight-in-Ne.ensures ∙ mask-other (λ x y. is_eq (int_cmp (number x) (number y))) (holds number Ne) (other_eq number) c.args.a.now c.args.b.now c.requires.a c.requires.b)

pub returns-in-Le : goal.returns-in-Le
returns-in-Le g c =
    let number = g.T.Native.number in
    rw c.in-Le.is (ap (λ mask. 255 - mask) c.less_of_eight-in-Le.ensures ∙ mask-other_turned (λ x y. is_lt (int_cmp (number x) (number y))) (holds number Le) (other_lt_turned number) c.args.a.now c.args.b.now c.requires.a c.requires.b)

pub returns-in-Gt : goal.returns-in-Gt
returns-in-Gt g c =
    let number = g.T.Native.number in
    rw c.in-Gt.is (c.less_of_eight-in-Gt.ensures ∙ mask-turned (λ x y. is_lt (int_cmp (number x) (number y))) (holds number Gt) (lt_turned number) c.args.a.now c.args.b.now)

pub returns-in-Ge : goal.returns-in-Ge
returns-in-Ge g c =
    let number = g.T.Native.number in
    rw c.in-Ge.is (ap (λ mask. 255 - mask) c.less_of_eight-in-Ge.ensures ∙ mask-other (λ x y. is_lt (int_cmp (number x) (number y))) (holds number Ge) (other_lt number) c.args.a.now c.args.b.now c.requires.a c.requires.b)
