use Rattle.col_fixed.proofs.ColumnLaws.{IsColumn-push, optional-push}
use Rattle.col_fixed.proofs.fixed.Fixed.push.Goals as goal

pub invariant_of-self-in_default : goal.invariant_of-self-in_default
invariant_of-self-in_default g c =
    let column = c.self.inside in
    rw (c.in_ok-push.ensures.items, c.in_default.ensures.ok, c.unwrap_or.ensures, c.zero.ensures, c.is_some.ensures) (IsColumn-push _ column.values.items column.valid c.args.value c.self.invariant)

pub returns-clause-ok : goal.returns-clause-ok
returns-clause-ok g c =
    let column = c.self.inside in
    rw (c.in_ok-push.ensures.items, c.in_default.ensures.ok, c.unwrap_or.ensures, c.zero.ensures, c.is_some.ensures, ← c.self.view_is) (optional-push _ column.values.items column.valid c.args.value c.self.invariant.same_length)
