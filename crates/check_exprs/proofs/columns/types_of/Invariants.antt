use Rattle.std.proofs.Common.{◌≡◌, map, take}
use Rattle.plan_typed.specs.Types.{ty_of}
use Rattle.check_exprs.proofs.columns.types_of.Given as goal

-- the types of the first so many
abbrev pub invariant-loop-expr : goal.invariant-loop-expr
invariant-loop-expr l = l.types ≡ map ty_of (take l.expr-index l.exprs)
