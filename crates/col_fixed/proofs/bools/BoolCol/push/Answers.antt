use Rattle.col_fixed.proofs.ColumnLaws.{IsColumn-push, optional-push}
use Rattle.col_fixed.proofs.bools.BoolCol.push.Goals as goal

pub invariant_of-self-in_default : goal.invariant_of-self-in_default
invariant_of-self-in_default c =
    let column = c.self.inside in
    rw (c.in_ok-push.ensures.ok, c.in_default.ensures.ok, c.unwrap_or.ensures, c.is_some.ensures) (IsColumn-push _ column.values column.valid c.args.value c.self.invariant)

pub returns-clause-ok : goal.returns-clause-ok
returns-clause-ok c =
    let column = c.self.inside in
    rw (c.in_ok-push.ensures.ok, c.in_default.ensures.ok, c.unwrap_or.ensures, c.is_some.ensures, ← c.self.view_is) (optional-push _ column.values column.valid c.args.value c.self.invariant.same_length)
