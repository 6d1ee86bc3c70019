-- Steps that begin with a read relation's.
use Rattle.std.proofs.Common.{List, [], ◌∷◌}
use Rattle.std.proofs.Props.{props}
use Rattle.plan_pipes.specs.declared.pipe.Step.{Step}
use Rattle.plan_pipes.specs.declared.pipe.Step.TheVariants as steps

-- the first step is that of a read relation
abbrev pub StartsWithRead : List Step → Type 0
StartsWithRead (steps.Read relation names types filter mask ∷ more) = Unit {0}
StartsWithRead _ = ⊥

pub StartsWithRead-prop : (all : List Step) → IsProp (StartsWithRead all)
StartsWithRead-prop [] = hlevel props
StartsWithRead-prop (steps.Read relation names types filter mask ∷ more) = hlevel props
StartsWithRead-prop (_ ∷ more) = hlevel props
