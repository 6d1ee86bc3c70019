-- Tables whose rows fit the types that they are read as.
use Rattle.std.specs.List.{AllByRecursion}
use Rattle.sub_types.specs.Value.{Fits}
use Rattle.plan_typed.specs.declared.rel.Rel.{Rel}
use Rattle.plan_denote.specs.Denote.{Tables}
use Rattle.plan_reads.specs.declared.reads.PlanRead.{PlanRead}
use Rattle.plan_reads.specs.Reads.{reads_in}
use Rattle.plan_typed.specs.declared.sub.Holed.{Holed}
use Rattle.plan_typed.specs.declared.sub.Sub.{Sub}
use Rattle.denote_typed.specs.Kinded.{AreWellKinded}
use Rattle.plan_laws.specs.Tested.{IfNamed}

-- each row of a read's table fits its types
abbrev pub IsFittingTable : Tables → PlanRead → Type 0
IsFittingTable tables read = AllByRecursion (Fits read.types) (tables read.relation).rows

abbrev pub IsFittingRead : Tables → PlanRead → Type 0
IsFittingRead tables read = IfNamed read.origin (IsFittingTable tables read)

-- the tables of a relation and of those below it
abbrev pub AreFitting : Tables → Rel → Type 0
AreFitting tables rel = AllByRecursion (IsFittingRead tables) (reads_in rel)

-- the tables of a plan's subqueries and of its main relation are well kinded
pub record AreWellKindedIn (tables : Tables) (plan : Holed) : Type 0 where
  pub subqueries : AllByRecursion (λ (sub : Sub). AreWellKinded tables sub.rel) plan.subs
  pub main : AreWellKinded tables plan.typed.rel
