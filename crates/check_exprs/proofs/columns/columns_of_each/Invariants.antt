use Rattle.std.proofs.Common.{◌≡◌, map, take}
use Rattle.plan_typed.specs.Types.{columns_of}
use Rattle.check_exprs.proofs.columns.columns_of_each.Given as goal

-- the columns of the first so many
abbrev pub invariant-loop-rel : goal.invariant-loop-rel
invariant-loop-rel l = l.columns ≡ map columns_of (take l.rel-index l.rels)
