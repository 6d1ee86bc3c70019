-- What stands in a plan's tree, as the tables of written messages see it.
use Rattle.std.specs.Prelude.{List, [], ◌∷◌, map}
use Rattle.plan_scan.specs.declared.shape.Shape.TheVariants as s
use Rattle.plan_raw.specs.declared.expr.RawExpr.{RawExpr}
use Rattle.plan_raw.specs.declared.rel.RawRel.{RawRel}
use Rattle.plan_spell.specs.Held.{Messages, Part}
use Rattle.plan_spell.specs.Parts.{parts_of}
use Rattle.spell_leaves.specs.Seen.{Group, part_seen}
use Rattle.spell_tree.specs.declared.part.ExprRole.{ExprRole}
use Rattle.spell_tree.specs.declared.part.ExprRole.TheVariants as e
use Rattle.spell_tree.specs.declared.part.RelRole.{RelRole}
use Rattle.spell_tree.specs.declared.part.RelRole.TheVariants as r
use Rattle.spell_tree.specs.declared.part.TreePart.{TreePart}
use Rattle.spell_tree.specs.declared.part.TreePart.TheVariants as p
use Rattle.spell_tree.specs.declared.part.TreesRef.{TreesRef}
use Rattle.spell_tree.specs.declared.part.TreesRef.TheVariants as t

-- relations, by the message that each is written as
abbrev pub rels_seen : RelRole → List RawRel → Group
rels_seen r.Rel rels = record { shape = s.Rel; nodes = rels }
rels_seen r.Read rels = record { shape = s.ReadRel; nodes = rels }
rels_seen r.Filter rels = record { shape = s.FilterRel; nodes = rels }
rels_seen r.Fetch rels = record { shape = s.FetchRel; nodes = rels }
rels_seen r.Aggregate rels = record { shape = s.AggregateRel; nodes = rels }
rels_seen r.Sort rels = record { shape = s.SortRel; nodes = rels }
rels_seen r.Join rels = record { shape = s.JoinRel; nodes = rels }
rels_seen r.Project rels = record { shape = s.ProjectRel; nodes = rels }
rels_seen r.Set rels = record { shape = s.SetRel; nodes = rels }
rels_seen r.Cross rels = record { shape = s.CrossRel; nodes = rels }

-- expressions, by the message that each is written as
abbrev pub exprs_seen : ExprRole → List RawExpr → Group
exprs_seen e.Expression exprs = record { shape = s.Expression; nodes = exprs }
exprs_seen e.ScalarFunction exprs = record { shape = s.ScalarFunction; nodes = exprs }
exprs_seen e.FieldReference exprs = record { shape = s.FieldReference; nodes = exprs }
exprs_seen e.IfThen exprs = record { shape = s.IfThen; nodes = exprs }
exprs_seen e.Switch exprs = record { shape = s.SwitchExpression; nodes = exprs }
exprs_seen e.SingularOrList exprs = record { shape = s.SingularOrList; nodes = exprs }
exprs_seen e.Cast exprs = record { shape = s.Cast; nodes = exprs }
exprs_seen e.Subquery exprs = record { shape = s.Subquery; nodes = exprs }
exprs_seen e.Scalar exprs = record { shape = s.ScalarSubquery; nodes = exprs }
exprs_seen e.InPredicate exprs = record { shape = s.InPredicate; nodes = exprs }
exprs_seen e.SetPredicate exprs = record { shape = s.SetPredicate; nodes = exprs }

-- the messages of a field
abbrev pub trees_seen : TreesRef → Group
trees_seen (t.Plan plan) = record { shape = s.Plan; nodes = plan.now ∷ [] }
trees_seen (t.PlanRel roots) = record { shape = s.PlanRel; nodes = roots.now }
trees_seen (t.RelRoot roots) = record { shape = s.RelRoot; nodes = roots.now }
trees_seen (t.Rels role rels) = rels_seen role rels.now
trees_seen (t.VirtualTable tables) = record { shape = s.VirtualTable; nodes = tables.now }
trees_seen (t.ExpressionRow rows) = record { shape = s.ExpressionRow; nodes = rows.now }
trees_seen (t.Grouping groupings) = record { shape = s.Grouping; nodes = groupings.now }
trees_seen (t.Measure measures) = record { shape = s.Measure; nodes = measures.now }
trees_seen (t.AggregateFunction functions) = record { shape = s.AggregateFunction; nodes = functions.now }
trees_seen (t.SortField sorts) = record { shape = s.SortField; nodes = sorts.now }
trees_seen (t.Exprs role exprs) = exprs_seen role exprs.now
trees_seen (t.FunctionArgument arguments) = record { shape = s.FunctionArgument; nodes = arguments.now }
trees_seen (t.IfClause clauses) = record { shape = s.IfClause; nodes = clauses.now }
trees_seen (t.IfValue values) = record { shape = s.IfValue; nodes = values.now }

-- the fields of a relation as one of its messages
abbrev pub rel_parts_as : RelRole → RawRel → List Part
rel_parts_as r.Rel rel = parts_of s.Rel rel
rel_parts_as r.Read rel = parts_of s.ReadRel rel
rel_parts_as r.Filter rel = parts_of s.FilterRel rel
rel_parts_as r.Fetch rel = parts_of s.FetchRel rel
rel_parts_as r.Aggregate rel = parts_of s.AggregateRel rel
rel_parts_as r.Sort rel = parts_of s.SortRel rel
rel_parts_as r.Join rel = parts_of s.JoinRel rel
rel_parts_as r.Project rel = parts_of s.ProjectRel rel
rel_parts_as r.Set rel = parts_of s.SetRel rel
rel_parts_as r.Cross rel = parts_of s.CrossRel rel

-- the fields of an expression as one of its messages
abbrev pub expr_parts_as : ExprRole → RawExpr → List Part
expr_parts_as e.Expression expr = parts_of s.Expression expr
expr_parts_as e.ScalarFunction expr = parts_of s.ScalarFunction expr
expr_parts_as e.FieldReference expr = parts_of s.FieldReference expr
expr_parts_as e.IfThen expr = parts_of s.IfThen expr
expr_parts_as e.Switch expr = parts_of s.SwitchExpression expr
expr_parts_as e.SingularOrList expr = parts_of s.SingularOrList expr
expr_parts_as e.Cast expr = parts_of s.Cast expr
expr_parts_as e.Subquery expr = parts_of s.Subquery expr
expr_parts_as e.Scalar expr = parts_of s.ScalarSubquery expr
expr_parts_as e.InPredicate expr = parts_of s.InPredicate expr
expr_parts_as e.SetPredicate expr = parts_of s.SetPredicate expr

-- a field
abbrev pub tree_part_seen : TreePart → Part
tree_part_seen (p.Leaf part) = part_seen part
tree_part_seen (p.Trees number trees) = record { number = number; held = Messages (trees_seen trees).shape (trees_seen trees).nodes }

-- the fields of a message
abbrev pub tree_parts_seen : List TreePart → List Part
tree_parts_seen parts = map tree_part_seen parts
