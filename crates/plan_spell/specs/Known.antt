-- Which parts of a tree have a form of their own: no member that isn't known, and each message of a oneof's member of that member.
use Rattle.std.specs.Prelude.{◌≡◌, ◌⊎◌, true, List}
use Rattle.plan_scan.specs.declared.shape.Shape.{Shape}
use Rattle.plan_scan.specs.declared.shape.Shape.TheVariants as s
use Rattle.plan_leaves.specs.declared.literal.RawLiteral.{RawLiteral}
use Rattle.plan_leaves.specs.declared.literal.RawLiteral.TheVariants as l
use Rattle.plan_leaves.specs.declared.types.RawType.{RawType, RawType-F, out-RawType}
use Rattle.plan_leaves.specs.declared.types.RawType.TheVariants as t
use Rattle.plan_raw.specs.declared.expr.RawExpr.{RawExpr-F, out-RawExpr}
use Rattle.plan_raw.specs.declared.plan.RootDecl.{RootDecl}
use Rattle.plan_raw.specs.declared.rel.RawRel.{RawRel-F, out-RawRel}
use Rattle.plan_parts.specs.Rels.{no_root}
use Rattle.plan_spell.specs.Nodes.{Node}
use Rattle.plan_spell.specs.Exprs.{Opened}

abbrev pub IsKnownRel : Opened RawRel-F → Type 0
IsKnownRel (RawRel-F.«RawRel::Unknown» number) = ⊥
IsKnownRel _ = Unit {0}

abbrev pub IsRead : Opened RawRel-F → Type 0
IsRead (RawRel-F.Read common schema filter projection source best_effort_filter) = Unit {0}
IsRead _ = ⊥

abbrev pub IsFilter : Opened RawRel-F → Type 0
IsFilter (RawRel-F.Filter common input condition) = Unit {0}
IsFilter _ = ⊥

abbrev pub IsFetch : Opened RawRel-F → Type 0
IsFetch (RawRel-F.Fetch common input offset count) = Unit {0}
IsFetch _ = ⊥

abbrev pub IsAggregate : Opened RawRel-F → Type 0
IsAggregate (RawRel-F.Aggregate common input groupings measures exprs) = Unit {0}
IsAggregate _ = ⊥

abbrev pub IsSort : Opened RawRel-F → Type 0
IsSort (RawRel-F.Sort common input sorts) = Unit {0}
IsSort _ = ⊥

abbrev pub IsJoin : Opened RawRel-F → Type 0
IsJoin (RawRel-F.Join common left right condition post_join_filter type) = Unit {0}
IsJoin _ = ⊥

abbrev pub IsProject : Opened RawRel-F → Type 0
IsProject (RawRel-F.Project common input exprs) = Unit {0}
IsProject _ = ⊥

abbrev pub IsSet : Opened RawRel-F → Type 0
IsSet (RawRel-F.Set common inputs op) = Unit {0}
IsSet _ = ⊥

abbrev pub IsCross : Opened RawRel-F → Type 0
IsCross (RawRel-F.Cross common left right) = Unit {0}
IsCross _ = ⊥

abbrev pub IsKnownExpr : Opened RawExpr-F → Type 0
IsKnownExpr (RawExpr-F.«RawExpr::Unknown» number) = ⊥
IsKnownExpr (RawExpr-F.SubqueryUnknown number) = ⊥
IsKnownExpr _ = Unit {0}

abbrev pub IsSelection : Opened RawExpr-F → Type 0
IsSelection (RawExpr-F.Selection direct root other) = Unit {0}
IsSelection _ = ⊥

abbrev pub IsScalarFunction : Opened RawExpr-F → Type 0
IsScalarFunction (RawExpr-F.ScalarFunction reference output arguments options) = Unit {0}
IsScalarFunction _ = ⊥

abbrev pub IsIfThen : Opened RawExpr-F → Type 0
IsIfThen (RawExpr-F.IfThen ifs other) = Unit {0}
IsIfThen _ = ⊥

abbrev pub IsSwitch : Opened RawExpr-F → Type 0
IsSwitch (RawExpr-F.SwitchExpression ifs other subject) = Unit {0}
IsSwitch _ = ⊥

abbrev pub IsSingularOrList : Opened RawExpr-F → Type 0
IsSingularOrList (RawExpr-F.SingularOrList value options) = Unit {0}
IsSingularOrList _ = ⊥

abbrev pub IsCast : Opened RawExpr-F → Type 0
IsCast (RawExpr-F.Cast ty input failure) = Unit {0}
IsCast _ = ⊥

abbrev pub IsSubquery : Opened RawExpr-F → Type 0
IsSubquery RawExpr-F.SubqueryMissing = Unit {0}
IsSubquery (RawExpr-F.Scalar input) = Unit {0}
IsSubquery (RawExpr-F.InPredicate needles haystack) = Unit {0}
IsSubquery (RawExpr-F.SetPredicate op tuples) = Unit {0}
IsSubquery RawExpr-F.SetComparison = Unit {0}
IsSubquery _ = ⊥

abbrev pub IsScalar : Opened RawExpr-F → Type 0
IsScalar (RawExpr-F.Scalar input) = Unit {0}
IsScalar _ = ⊥

abbrev pub IsInPredicate : Opened RawExpr-F → Type 0
IsInPredicate (RawExpr-F.InPredicate needles haystack) = Unit {0}
IsInPredicate _ = ⊥

abbrev pub IsSetPredicate : Opened RawExpr-F → Type 0
IsSetPredicate (RawExpr-F.SetPredicate op tuples) = Unit {0}
IsSetPredicate _ = ⊥

abbrev pub IsKnownType : RawType-F RawType → Type 0
IsKnownType (RawType-F.Unknown number) = ⊥
IsKnownType _ = Unit {0}

abbrev pub IsDecimalType : RawType → Type 0
IsDecimalType (t.Decimal scale precision nullability) = Unit {0}
IsDecimalType _ = ⊥

abbrev pub IsKnownLiteral : RawLiteral → Type 0
IsKnownLiteral (l.Unknown number) = ⊥
IsKnownLiteral _ = Unit {0}

abbrev pub IsDecimal : RawLiteral → Type 0
IsDecimal (l.Decimal value precision scale nullable) = Unit {0}
IsDecimal _ = ⊥

-- a PlanRel that is no root has nothing else
abbrev pub IsRootOrNone : RootDecl → Type 0
IsRootOrNone root = (root.is_root ≡ true) ⊎ (root ≡ no_root)

-- what a message of a shape is written from has a form that is written
abbrev pub IsKnown : (shape : Shape) → Node shape → Type 0
IsKnown s.PlanRel root = IsRootOrNone root
IsKnown s.RelRoot root = root.is_root ≡ true
IsKnown s.Rel rel = IsKnownRel (out-RawRel rel)
IsKnown s.ReadRel rel = IsRead (out-RawRel rel)
IsKnown s.FilterRel rel = IsFilter (out-RawRel rel)
IsKnown s.FetchRel rel = IsFetch (out-RawRel rel)
IsKnown s.AggregateRel rel = IsAggregate (out-RawRel rel)
IsKnown s.SortRel rel = IsSort (out-RawRel rel)
IsKnown s.JoinRel rel = IsJoin (out-RawRel rel)
IsKnown s.ProjectRel rel = IsProject (out-RawRel rel)
IsKnown s.SetRel rel = IsSet (out-RawRel rel)
IsKnown s.CrossRel rel = IsCross (out-RawRel rel)
IsKnown s.Expression expr = IsKnownExpr (out-RawExpr expr)
IsKnown s.FieldReference expr = IsSelection (out-RawExpr expr)
IsKnown s.ScalarFunction expr = IsScalarFunction (out-RawExpr expr)
IsKnown s.IfThen expr = IsIfThen (out-RawExpr expr)
IsKnown s.SwitchExpression expr = IsSwitch (out-RawExpr expr)
IsKnown s.SingularOrList expr = IsSingularOrList (out-RawExpr expr)
IsKnown s.Cast expr = IsCast (out-RawExpr expr)
IsKnown s.Subquery expr = IsSubquery (out-RawExpr expr)
IsKnown s.ScalarSubquery expr = IsScalar (out-RawExpr expr)
IsKnown s.InPredicate expr = IsInPredicate (out-RawExpr expr)
IsKnown s.SetPredicate expr = IsSetPredicate (out-RawExpr expr)
IsKnown s.Literal literal = IsKnownLiteral literal
IsKnown s.DecimalLiteral literal = IsDecimal literal
IsKnown s.DataType ty = IsKnownType (out-RawType ty)
IsKnown s.DecimalType ty = IsDecimalType ty
IsKnown shape node = Unit {0}
