use Rattle.std.proofs.Common.{◌≡◌, ◌++◌, map, take}
use Rattle.plan_typed.specs.Types.{ty_of}
use Rattle.pipe_steps.proofs.stored_types.with_exprs.Given as goal

-- the types of the first so many expressions stand behind those that were given
abbrev pub invariant-loop-expr : goal.invariant-loop-expr
invariant-loop-expr l = l.types.items ≡ l.given ++ map ty_of (take l.expr-index l.exprs)
