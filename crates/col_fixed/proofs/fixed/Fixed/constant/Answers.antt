use Rattle.col_fixed.proofs.GatherLaws.{IsColumn-constant, optional-constant, IsColumn-nulls, optional-nulls}
use Rattle.col_fixed.proofs.fixed.Fixed.constant.Goals as goal

pub invariant_of-result : goal.invariant_of-result
invariant_of-result g c = rw (c.in_ok-values.ensures, c.zero.ensures, c.in_ok-valid.ensures) (IsColumn-nulls g.T.Native.zero c.args.n)

pub returns-in_default : goal.returns-in_default
returns-in_default g c = rw (c.in_ok-values.ensures, c.zero.ensures, c.in_ok-valid.ensures, c.in_default.is) (optional-nulls g.T.Native.zero c.args.n)

pub invariant_of-result-2 : goal.invariant_of-result-2
invariant_of-result-2 g c = rw (c.in_ok-values-2.ensures, c.in_ok-valid-2.ensures) (IsColumn-constant g.T.Native.zero c.in-Some.value c.args.n)

pub returns : goal.returns
returns g c = rw (c.in_ok-values-2.ensures, c.in_ok-valid-2.ensures, c.in-Some.is) (optional-constant c.in-Some.value c.args.n)
