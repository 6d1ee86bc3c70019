-- What the messages of a plan are checked as, message by message: the equations of the folds.
use Rattle.std.proofs.Common.{◌≡◌, ◌∙◌, sym, ap, refl, ℤ, List, [], ◌∷◌, map, not, ◌==◌, Option, Some, None, rules}
use Rattle.std.proofs.lemmas.Simd.{map-map}
use Rattle.plan_leaves.specs.declared.literal.RawLiteral.{RawLiteral}
use Rattle.plan_raw.specs.declared.argument.FunctionArgument.TheFolds.{fold_out-IfValue, fold-roll-RawExpr, fold-roll-RawCount, fold-roll-RawOffset}
use Rattle.plan_raw.specs.declared.expr.IfValue.{IfValue, out-IfValue}
use Rattle.plan_raw.specs.declared.expr.RawExpr.{RawExpr, RawExpr-F, out-RawExpr, roll-RawExpr, roll-out-RawExpr, the_lemmas}
use Rattle.plan_raw.specs.declared.expr.RawExpr.TheVariants as exprs
use Rattle.plan_raw.specs.declared.rel.RawCount.{RawCount, RawCount-F}
use Rattle.plan_raw.specs.declared.rel.RawCount.TheVariants as counts
use Rattle.plan_raw.specs.declared.rel.RawOffset.{RawOffset, RawOffset-F}
use Rattle.plan_raw.specs.declared.rel.RawOffset.TheVariants as offsets
use Rattle.plan_tree.specs.Fold.{Opened}
use Rattle.plan_raw.specs.declared.aggregate.AggregateFunction.{AggregateFunction, out-AggregateFunction}
use Rattle.plan_verdict.specs.Aggregates.{aggregate_function, measure, grouping, is_supported_form}
use Rattle.plan_verdict.specs.Lists.{is_empty}
use Rattle.plan_verdict.specs.Amounts.{amount_of}
use Rattle.plan_verdict.specs.Exprs.{Terms, expression, function_argument, clause, arm}
use Rattle.plan_raw.specs.declared.aggregate.Grouping.{Grouping, out-Grouping}
use Rattle.plan_verdict.proofs.FoldLaws.{checked_grouping-out}
use Rattle.plan_verdict.specs.Meaning.{Arm, Expression, Sets}
use Rattle.plan_verdict.specs.Reads.{source_in}
use Rattle.plan_verdict.specs.Rels.{offset, count, sort_field}
use Rattle.plan_verdict.specs.Verdict.{checked_arm, checked_count, checked_expr, checked_function, checked_grouping, checked_offset, checked_sort, member, row, table}

-- the literal of a switch's arm
pub arm_literal : (terms : Terms) (one : IfValue) → (checked_arm terms one).literal ≡ (out-IfValue one).if_
unfolding checked_arm
arm_literal terms one =
    ap (λ (found : Arm). found.literal)
    (fold_out-IfValue _ _ _ _ _ _ _ _ _ _ _ _ _ _
    function_argument (expression terms) count offset member source_in (aggregate_function terms) grouping measure sort_field clause arm row table one)

-- the literal that an expression is
pub literal_at : (terms : Terms) (expr : RawExpr) (raw : RawLiteral) → expr ≡ exprs.Literal raw → (checked_expr terms expr).literal ≡ Some raw
unfolding checked_expr
literal_at terms expr raw is =
    ap (λ (e : RawExpr). (checked_expr terms e).literal) (is ∙ sym (exprs.rolls-Literal raw))
    ∙ ap (λ (found : Expression). found.literal)
    (fold-roll-RawExpr _ _ _ _ _ _ _ _ _ _ _ _ _ _
    function_argument (expression terms) count offset member source_in (aggregate_function terms) grouping measure sort_field clause arm row table (RawExpr-F.Literal raw))

no_literal : (terms : Terms) (level : Opened RawExpr-F) (expr : RawExpr) → roll-RawExpr level ≡ expr → ((raw : RawLiteral) → expr ≡ exprs.Literal raw → ⊥) → (checked_expr terms (roll-RawExpr level)).literal ≡ None
unfolding checked_expr
no_literal terms (RawExpr-F.Literal raw) expr is other = absurd (other raw (sym is ∙ exprs.rolls-Literal raw))
no_literal terms level expr is other =
    ap (λ (found : Expression). found.literal)
    (fold-roll-RawExpr _ _ _ _ _ _ _ _ _ _ _ _ _ _
    function_argument (expression terms) count offset member source_in (aggregate_function terms) grouping measure sort_field clause arm row table level)

pub literal_of_other : (terms : Terms) (expr : RawExpr) → ((raw : RawLiteral) → expr ≡ exprs.Literal raw → ⊥) → (checked_expr terms expr).literal ≡ None
literal_of_other terms expr other =
    ap (λ (e : RawExpr). (checked_expr terms e).literal) (sym (roll-out-RawExpr expr)) ∙ no_literal terms (out-RawExpr expr) expr (roll-out-RawExpr expr) other

-- the offset of a fetch
pub offset_missing : (terms : Terms) (one : RawOffset) → one ≡ offsets.Missing → checked_offset terms one ≡ Some None
unfolding checked_offset
offset_missing terms one is =
    ap (checked_offset terms) (is ∙ sym (offsets.rolls-Missing))
    ∙ fold-roll-RawOffset _ _ _ _ _ _ _ _ _ _ _ _ _ _
    function_argument (expression terms) count offset member source_in (aggregate_function terms) grouping measure sort_field clause arm row table RawOffset-F.«RawOffset::Missing»

pub offset_number : (terms : Terms) (one : RawOffset) (value : ℤ) → one ≡ offsets.Offset value → checked_offset terms one ≡ Some (Some value)
unfolding checked_offset
offset_number terms one value is =
    ap (checked_offset terms) (is ∙ sym (offsets.rolls-Offset value))
    ∙ fold-roll-RawOffset _ _ _ _ _ _ _ _ _ _ _ _ _ _
    function_argument (expression terms) count offset member source_in (aggregate_function terms) grouping measure sort_field clause arm row table (RawOffset-F.Offset value)

pub offset_expr : (terms : Terms) (one : RawOffset) (expr : RawExpr) → one ≡ offsets.OffsetExpr expr → checked_offset terms one ≡ amount_of (checked_expr terms expr).literal
unfolding checked_offset checked_expr
offset_expr terms one expr is =
    ap (checked_offset terms) (is ∙ sym (offsets.rolls-OffsetExpr expr))
    ∙ fold-roll-RawOffset _ _ _ _ _ _ _ _ _ _ _ _ _ _
    function_argument (expression terms) count offset member source_in (aggregate_function terms) grouping measure sort_field clause arm row table (RawOffset-F.OffsetExpr expr)

-- the count of a fetch
pub count_missing : (terms : Terms) (one : RawCount) → one ≡ counts.Missing → checked_count terms one ≡ Some None
unfolding checked_count
count_missing terms one is =
    ap (checked_count terms) (is ∙ sym (counts.rolls-Missing))
    ∙ fold-roll-RawCount _ _ _ _ _ _ _ _ _ _ _ _ _ _
    function_argument (expression terms) count offset member source_in (aggregate_function terms) grouping measure sort_field clause arm row table RawCount-F.«RawCount::Missing»

pub count_number : (terms : Terms) (one : RawCount) (value : ℤ) → one ≡ counts.Count value → checked_count terms one ≡ Some (Some value)
unfolding checked_count
count_number terms one value is =
    ap (checked_count terms) (is ∙ sym (counts.rolls-Count value))
    ∙ fold-roll-RawCount _ _ _ _ _ _ _ _ _ _ _ _ _ _
    function_argument (expression terms) count offset member source_in (aggregate_function terms) grouping measure sort_field clause arm row table (RawCount-F.Count value)

pub count_expr : (terms : Terms) (one : RawCount) (expr : RawExpr) → one ≡ counts.CountExpr expr → checked_count terms one ≡ amount_of (checked_expr terms expr).literal
unfolding checked_count checked_expr
count_expr terms one expr is =
    ap (checked_count terms) (is ∙ sym (counts.rolls-CountExpr expr))
    ∙ fold-roll-RawCount _ _ _ _ _ _ _ _ _ _ _ _ _ _
    function_argument (expression terms) count offset member source_in (aggregate_function terms) grouping measure sort_field clause arm row table (RawCount-F.CountExpr expr)

-- the literals of a switch's arms
pub arm_literals : {B : Type 0} (f : Option RawLiteral → B) (terms : Terms) (ifs : List IfValue) → map f (map (λ arm. arm.literal) (map (checked_arm terms) ifs)) ≡ map (λ one. f (checked_arm terms one).literal) ifs
arm_literals f terms ifs = map-map f (λ (arm : Arm). arm.literal) (map (checked_arm terms) ifs) ∙ map-map (λ (arm : Arm). f arm.literal) (checked_arm terms) ifs

-- the places that groupings refer to
pub grouping_references : (terms : Terms) (groupings : List Grouping) → map (λ (one : Sets). one.references) (map (checked_grouping terms) groupings) ≡ map (λ one. (out-Grouping one).expression_references) groupings
grouping_references terms [] = refl
grouping_references terms (one ∷ rest) =
    ap (λ (found : Sets). found.references ∷ map (λ (one : Sets). one.references) (map (checked_grouping terms) rest)) (checked_grouping-out terms one)
    ∙ ap (λ others. (out-Grouping one).expression_references ∷ others) (grouping_references terms rest)

-- the form of an aggregate function, and whether it is over distinct values
sorts_made : {A B : Type 0} (f : A → B) (xs : List A) → is_empty (map f xs) ≡ is_empty xs
sorts_made f [] = refl
sorts_made f (x ∷ xs) = refl

form_of : (terms : Terms) (one : AggregateFunction) → (checked_function terms one).is_supported ≡ is_supported_form (not (is_empty (map (checked_sort terms) (out-AggregateFunction one).sorts))) (out-AggregateFunction one).phase (out-AggregateFunction one).invocation
unfolding checked_function checked_sort
form_of terms one = search (rules, the_lemmas)

pub function_form : (terms : Terms) (one : AggregateFunction) → (checked_function terms one).is_supported ≡ is_supported_form (not (is_empty (out-AggregateFunction one).sorts)) (out-AggregateFunction one).phase (out-AggregateFunction one).invocation
function_form terms one = form_of terms one ∙ ap (λ none. is_supported_form (not none) (out-AggregateFunction one).phase (out-AggregateFunction one).invocation) (sorts_made (checked_sort terms) (out-AggregateFunction one).sorts)

pub function_distinct : (terms : Terms) (one : AggregateFunction) → (checked_function terms one).is_distinct ≡ ((out-AggregateFunction one).invocation == 2)
unfolding checked_function
function_distinct terms one = search (rules, the_lemmas)
