-- What expressions and the messages in them are read back as.
use Rattle.std.proofs.Common.{◌≡◌, ◌∙◌, sym, ap, refl, ℕ, ℤ, List, [], ◌∷◌, Bool, true, false, Option, Some, None, unwrap_or, ◌||◌, inl, inr}
use Rattle.std.specs.Option.{option_map, option_map_or, option_and_then, option_to_list}
use Rattle.pb_wire.specs.Records.{Varint, Bytes}
use Rattle.pb_wire.specs.Payloads.{Field, fields_of, uint32_field, int32_numbers, bool_field}
use Rattle.plan_scan.specs.declared.oneof.OneOf.TheVariants.{PlanRelType, EmitKind, ReadType, PathType, OffsetMode, CountMode, RelType, ArgumentType, RexType, LiteralType, TypeKind, SubqueryType}
use Rattle.plan_scan.specs.declared.shape.Shape.TheVariants as s
use Rattle.plan_parts.specs.Words.{part, parts, is_there}
use Rattle.plan_parts.specs.Parts as leaf
use Rattle.plan_parts.specs.Reader.{reader}
use Rattle.plan_spell.specs.Held.{whole_varint, truth_varint, Part}
use Rattle.plan_spell.specs.Spelled.{spelled_at}
use Rattle.plan_spell.specs.Leaves as leaves
use Rattle.plan_spell.specs.Exprs as exprs
use Rattle.plan_spell.specs.Exprs.{Opened}
use Rattle.plan_spell.specs.Rels as rels
use Rattle.plan_spell.specs.Known as known
use Rattle.plan_spell.proofs.HeldLaws.{winner_is, no_winner}
use Rattle.plan_spell.proofs.WrittenLaws.{IsBack, Written, records_in, read, only_back, uint32_is, int32_there, int32_is, int64_there, truth_there, truth_is, texts_are, bytes_there, bytes_are, uint32s_are, int32s_are, presence_is, other_is, absent_is, merged_is, child_is, part_is, children_are, parts_are}
use Rattle.plan_raw.specs.declared.argument.FunctionArgument.{FunctionArgument, FunctionArgument-F, roll-FunctionArgument}
use Rattle.plan_raw.specs.declared.argument.FunctionArgument.TheVariants as a
use Rattle.plan_raw.specs.declared.expr.IfClause.{IfClause, out-IfClause, roll-IfClause, roll-out-IfClause}
use Rattle.plan_raw.specs.declared.expr.IfValue.{IfValue, out-IfValue, roll-IfValue, roll-out-IfValue}
use Rattle.plan_raw.specs.declared.expr.RawExpr.{RawExpr, RawExpr-F, roll-RawExpr}
use Rattle.plan_raw.specs.declared.expr.RawExpr.TheVariants as e
use Rattle.plan_parts.specs.Exprs.{argument_member, argument_by, scalar_function_by, if_clause_by, if_then_by, if_value_by, switch_by, singular_or_list_by, cast_by, scalar_by, in_predicate_by, set_predicate_by, subquery_member, subquery_by, expression_member, expression_by}

or_ends : (d : Bool) → (d || false || false) ≡ d
or_ends true = refl
or_ends false = refl

or_false : {a b c d : Bool} → a ≡ d → b ≡ false → c ≡ false → (a || b || c) ≡ d
or_false {a} {b} {c} {d} p q r = (λ i. p i || q i || r i) ∙ or_ends d

pub reference_step : {n : ℕ} (o : Opened RawExpr-F) (expr : RawExpr) → roll-RawExpr o ≡ expr → known.IsSelection o → Written n s.FieldReference (exprs.reference_parts o) → leaf.selection_of (records_in n (exprs.reference_parts o)) ≡ expr
reference_step {n} (RawExpr-F.Selection direct root other) expr is form w = (λ i. e.Selection ((part_is w 1 (λ b. leaf.segment_of (fields_of b)) (spelled_at n s.ReferenceSegment) (direct) refl (w.back 1)) i) (presence_is w 4 root refl i) ((or_false (other_is w 2 other refl) (absent_is w 3 refl) (absent_is w 5 refl)) i)) ∙ sym (e.rolls-Selection direct root other) ∙ is
reference_step _ expr is form w = absurd form

pub scalar_function_step : {n : ℕ} (o : Opened RawExpr-F) (expr : RawExpr) → roll-RawExpr o ≡ expr → known.IsScalarFunction o → Written n s.ScalarFunction (exprs.scalar_function_parts o) → scalar_function_by (reader n) (records_in n (exprs.scalar_function_parts o)) ≡ expr
scalar_function_step {n} (RawExpr-F.ScalarFunction reference output arguments options) expr is form w = (λ i. e.ScalarFunction ((uint32_is w 1 reference refl) i) ((child_is w 3 (read n s.DataType) (spelled_at n s.DataType) (output) refl (w.back 3)) i) ((children_are w 4 (read n s.FunctionArgument) (spelled_at n s.FunctionArgument) (arguments) refl (w.back 4)) i) ((parts_are w 5 (λ b. leaf.option_of (fields_of b)) (spelled_at n s.FunctionOption) (options) refl (w.back 5)) i)) ∙ sym (e.rolls-ScalarFunction reference output arguments options) ∙ is
scalar_function_step _ expr is form w = absurd form

pub if_then_step : {n : ℕ} (o : Opened RawExpr-F) (expr : RawExpr) → roll-RawExpr o ≡ expr → known.IsIfThen o → Written n s.IfThen (exprs.if_then_parts o) → if_then_by (reader n) (records_in n (exprs.if_then_parts o)) ≡ expr
if_then_step {n} (RawExpr-F.IfThen ifs other) expr is form w = (λ i. e.IfThen ((children_are w 1 (read n s.IfClause) (spelled_at n s.IfClause) (ifs) refl (w.back 1)) i) ((child_is w 2 (read n s.Expression) (spelled_at n s.Expression) (other) refl (w.back 2)) i)) ∙ sym (e.rolls-IfThen ifs other) ∙ is
if_then_step _ expr is form w = absurd form

pub switch_step : {n : ℕ} (o : Opened RawExpr-F) (expr : RawExpr) → roll-RawExpr o ≡ expr → known.IsSwitch o → Written n s.SwitchExpression (exprs.switch_parts o) → switch_by (reader n) (records_in n (exprs.switch_parts o)) ≡ expr
switch_step {n} (RawExpr-F.SwitchExpression ifs other subject) expr is form w = (λ i. e.SwitchExpression ((children_are w 1 (read n s.IfValue) (spelled_at n s.IfValue) (ifs) refl (w.back 1)) i) ((child_is w 2 (read n s.Expression) (spelled_at n s.Expression) (other) refl (w.back 2)) i) ((child_is w 3 (read n s.Expression) (spelled_at n s.Expression) (subject) refl (w.back 3)) i)) ∙ sym (e.rolls-SwitchExpression ifs other subject) ∙ is
switch_step _ expr is form w = absurd form

pub singular_or_list_step : {n : ℕ} (o : Opened RawExpr-F) (expr : RawExpr) → roll-RawExpr o ≡ expr → known.IsSingularOrList o → Written n s.SingularOrList (exprs.singular_or_list_parts o) → singular_or_list_by (reader n) (records_in n (exprs.singular_or_list_parts o)) ≡ expr
singular_or_list_step {n} (RawExpr-F.SingularOrList value options) expr is form w = (λ i. e.SingularOrList ((child_is w 1 (read n s.Expression) (spelled_at n s.Expression) (value) refl (w.back 1)) i) ((children_are w 2 (read n s.Expression) (spelled_at n s.Expression) (options) refl (w.back 2)) i)) ∙ sym (e.rolls-SingularOrList value options) ∙ is
singular_or_list_step _ expr is form w = absurd form

pub cast_step : {n : ℕ} (o : Opened RawExpr-F) (expr : RawExpr) → roll-RawExpr o ≡ expr → known.IsCast o → Written n s.Cast (exprs.cast_parts o) → cast_by (reader n) (records_in n (exprs.cast_parts o)) ≡ expr
cast_step {n} (RawExpr-F.Cast ty input failure) expr is form w = (λ i. e.Cast ((child_is w 1 (read n s.DataType) (spelled_at n s.DataType) (ty) refl (w.back 1)) i) ((child_is w 2 (read n s.Expression) (spelled_at n s.Expression) (input) refl (w.back 2)) i) ((uint32_is w 3 failure refl) i)) ∙ sym (e.rolls-Cast ty input failure) ∙ is
cast_step _ expr is form w = absurd form

pub scalar_step : {n : ℕ} (o : Opened RawExpr-F) (expr : RawExpr) → roll-RawExpr o ≡ expr → known.IsScalar o → Written n s.ScalarSubquery (exprs.scalar_parts o) → scalar_by (reader n) (records_in n (exprs.scalar_parts o)) ≡ expr
scalar_step {n} (RawExpr-F.Scalar input) expr is form w = (λ i. e.Scalar ((child_is w 1 (read n s.Rel) (spelled_at n s.Rel) (input) refl (w.back 1)) i)) ∙ sym (e.rolls-Scalar input) ∙ is
scalar_step _ expr is form w = absurd form

pub in_predicate_step : {n : ℕ} (o : Opened RawExpr-F) (expr : RawExpr) → roll-RawExpr o ≡ expr → known.IsInPredicate o → Written n s.InPredicate (exprs.in_predicate_parts o) → in_predicate_by (reader n) (records_in n (exprs.in_predicate_parts o)) ≡ expr
in_predicate_step {n} (RawExpr-F.InPredicate needles haystack) expr is form w = (λ i. e.InPredicate ((children_are w 1 (read n s.Expression) (spelled_at n s.Expression) (needles) refl (w.back 1)) i) ((child_is w 2 (read n s.Rel) (spelled_at n s.Rel) (haystack) refl (w.back 2)) i)) ∙ sym (e.rolls-InPredicate needles haystack) ∙ is
in_predicate_step _ expr is form w = absurd form

pub set_predicate_step : {n : ℕ} (o : Opened RawExpr-F) (expr : RawExpr) → roll-RawExpr o ≡ expr → known.IsSetPredicate o → Written n s.SetPredicate (exprs.set_predicate_parts o) → set_predicate_by (reader n) (records_in n (exprs.set_predicate_parts o)) ≡ expr
set_predicate_step {n} (RawExpr-F.SetPredicate op tuples) expr is form w = (λ i. e.SetPredicate ((uint32_is w 1 op refl) i) ((child_is w 2 (read n s.Rel) (spelled_at n s.Rel) (tuples) refl (w.back 2)) i)) ∙ sym (e.rolls-SetPredicate op tuples) ∙ is
set_predicate_step _ expr is form w = absurd form

pub if_clause_step : {n : ℕ} (node : IfClause) → Written n s.IfClause (exprs.if_clause_parts node) → if_clause_by (reader n) (records_in n (exprs.if_clause_parts node)) ≡ node
if_clause_step {n} node w = (λ i. roll-IfClause (record { if_ = (child_is w 1 (read n s.Expression) (spelled_at n s.Expression) ((out-IfClause node).if_) refl (w.back 1)) i; «then» = (child_is w 2 (read n s.Expression) (spelled_at n s.Expression) ((out-IfClause node).«then») refl (w.back 2)) i })) ∙ roll-out-IfClause node

pub if_value_step : {n : ℕ} (node : IfValue) → Written n s.IfValue (exprs.if_value_parts node) → if_value_by (reader n) (records_in n (exprs.if_value_parts node)) ≡ node
if_value_step {n} node w = (λ i. roll-IfValue (record { if_ = (child_is w 1 (read n s.Literal) (spelled_at n s.Literal) ((out-IfValue node).if_) refl (w.back 1)) i; «then» = (child_is w 2 (read n s.Expression) (spelled_at n s.Expression) ((out-IfValue node).«then») refl (w.back 2)) i })) ∙ roll-out-IfValue node

pub argument_step : {n : ℕ} (o : Opened FunctionArgument-F) (argument : FunctionArgument) → roll-FunctionArgument o ≡ argument → Written n s.FunctionArgument (exprs.argument_parts o) → argument_by (reader n) (records_in n (exprs.argument_parts o)) ≡ argument
argument_step {n} FunctionArgument-F.«FunctionArgument::Missing» argument is w = no_winner ArgumentType a.Missing (argument_member (reader n)) (spelled_at n) (exprs.argument_parts FunctionArgument-F.«FunctionArgument::Missing») refl ∙ sym a.rolls-Missing ∙ is
argument_step {n} (FunctionArgument-F.Enum name) argument is w = winner_is ArgumentType a.Missing (argument_member (reader n)) (spelled_at n) (exprs.argument_parts (FunctionArgument-F.Enum name)) 1 (Bytes name) refl refl ∙ ap a.Enum (bytes_there w 1 name refl) ∙ sym (a.rolls-Enum name) ∙ is
argument_step {n} (FunctionArgument-F.TypeArgument ty) argument is w = winner_is ArgumentType a.Missing (argument_member (reader n)) (spelled_at n) (exprs.argument_parts (FunctionArgument-F.TypeArgument ty)) 2 (Bytes (spelled_at n s.DataType ty)) refl refl
    ∙ ap (λ o. option_map_or a.TypeArgument o a.Missing) (child_is w 2 (read n s.DataType) (spelled_at n s.DataType) (Some ty) refl (w.back 2)) ∙ sym (a.rolls-TypeArgument ty) ∙ is
argument_step {n} (FunctionArgument-F.Value value) argument is w = winner_is ArgumentType a.Missing (argument_member (reader n)) (spelled_at n) (exprs.argument_parts (FunctionArgument-F.Value value)) 3 (Bytes (spelled_at n s.Expression value)) refl refl
    ∙ ap (λ o. option_map_or a.Value o a.Missing) (child_is w 3 (read n s.Expression) (spelled_at n s.Expression) (Some value) refl (w.back 3)) ∙ sym (a.rolls-Value value) ∙ is

pub subquery_step : {n : ℕ} (o : Opened RawExpr-F) (expr : RawExpr) → roll-RawExpr o ≡ expr → known.IsSubquery o → Written n s.Subquery (exprs.subquery_parts expr o) → subquery_by (reader n) (records_in n (exprs.subquery_parts expr o)) ≡ expr
subquery_step {n} RawExpr-F.SubqueryMissing expr is form w = no_winner SubqueryType e.SubqueryMissing (subquery_member (reader n)) (spelled_at n) (exprs.subquery_parts expr RawExpr-F.SubqueryMissing) refl ∙ sym e.rolls-SubqueryMissing ∙ is
subquery_step {n} RawExpr-F.SetComparison expr is form w = winner_is SubqueryType e.SubqueryMissing (subquery_member (reader n)) (spelled_at n) (exprs.subquery_parts expr RawExpr-F.SetComparison) 4 (Bytes []) refl refl ∙ sym e.rolls-SetComparison ∙ is
subquery_step {n} (RawExpr-F.Scalar input) expr is form w = winner_is SubqueryType e.SubqueryMissing (subquery_member (reader n)) (spelled_at n) (exprs.subquery_parts expr (RawExpr-F.Scalar input)) 1 (Bytes (spelled_at n s.ScalarSubquery expr)) refl refl
    ∙ ap (λ o. unwrap_or o e.SubqueryMissing) (child_is w 1 (read n s.ScalarSubquery) (spelled_at n s.ScalarSubquery) (Some expr) refl (w.back 1))
subquery_step {n} (RawExpr-F.InPredicate needles haystack) expr is form w = winner_is SubqueryType e.SubqueryMissing (subquery_member (reader n)) (spelled_at n) (exprs.subquery_parts expr (RawExpr-F.InPredicate needles haystack)) 2 (Bytes (spelled_at n s.InPredicate expr)) refl refl
    ∙ ap (λ o. unwrap_or o e.SubqueryMissing) (child_is w 2 (read n s.InPredicate) (spelled_at n s.InPredicate) (Some expr) refl (w.back 2))
subquery_step {n} (RawExpr-F.SetPredicate op tuples) expr is form w = winner_is SubqueryType e.SubqueryMissing (subquery_member (reader n)) (spelled_at n) (exprs.subquery_parts expr (RawExpr-F.SetPredicate op tuples)) 3 (Bytes (spelled_at n s.SetPredicate expr)) refl refl
    ∙ ap (λ o. unwrap_or o e.SubqueryMissing) (child_is w 3 (read n s.SetPredicate) (spelled_at n s.SetPredicate) (Some expr) refl (w.back 3))
subquery_step _ expr is form w = absurd form

pub expression_step : {n : ℕ} (o : Opened RawExpr-F) (expr : RawExpr) → roll-RawExpr o ≡ expr → known.IsKnownExpr o → Written n s.Expression (exprs.expression_parts expr o) → expression_by (reader n) (records_in n (exprs.expression_parts expr o)) ≡ expr
expression_step {n} RawExpr-F.«RawExpr::Missing» expr is form w = no_winner RexType e.Missing (expression_member (reader n)) (spelled_at n) (exprs.expression_parts expr RawExpr-F.«RawExpr::Missing») refl ∙ sym e.rolls-Missing ∙ is
expression_step (RawExpr-F.«RawExpr::Unknown» number) expr is form w = absurd form
expression_step (RawExpr-F.SubqueryUnknown number) expr is form w = absurd form
expression_step {n} (RawExpr-F.Literal literal) expr is form w = winner_is RexType e.Missing (expression_member (reader n)) (spelled_at n) (exprs.expression_parts expr (RawExpr-F.Literal literal)) 1 (Bytes (spelled_at n s.Literal literal)) refl refl
    ∙ ap (λ o. option_map_or e.Literal o e.Missing) (child_is w 1 (read n s.Literal) (spelled_at n s.Literal) (Some literal) refl (w.back 1)) ∙ sym (e.rolls-Literal literal) ∙ is
expression_step {n} (RawExpr-F.Selection direct root other) expr is form w = winner_is RexType e.Missing (expression_member (reader n)) (spelled_at n) (exprs.expression_parts expr (RawExpr-F.Selection direct root other)) 2 (Bytes (spelled_at n s.FieldReference expr)) refl refl
    ∙ ap (λ o. unwrap_or o e.Missing) (part_is w 2 (λ b. leaf.selection_of (fields_of b)) (spelled_at n s.FieldReference) (Some expr) refl (w.back 2))
expression_step {n} (RawExpr-F.ScalarFunction reference output arguments options) expr is form w = winner_is RexType e.Missing (expression_member (reader n)) (spelled_at n) (exprs.expression_parts expr (RawExpr-F.ScalarFunction reference output arguments options)) 3 (Bytes (spelled_at n s.ScalarFunction expr)) refl refl
    ∙ ap (λ o. unwrap_or o e.Missing) (child_is w 3 (read n s.ScalarFunction) (spelled_at n s.ScalarFunction) (Some expr) refl (w.back 3))
expression_step {n} (RawExpr-F.IfThen ifs other) expr is form w = winner_is RexType e.Missing (expression_member (reader n)) (spelled_at n) (exprs.expression_parts expr (RawExpr-F.IfThen ifs other)) 6 (Bytes (spelled_at n s.IfThen expr)) refl refl
    ∙ ap (λ o. unwrap_or o e.Missing) (child_is w 6 (read n s.IfThen) (spelled_at n s.IfThen) (Some expr) refl (w.back 6))
expression_step {n} (RawExpr-F.SwitchExpression ifs other subject) expr is form w = winner_is RexType e.Missing (expression_member (reader n)) (spelled_at n) (exprs.expression_parts expr (RawExpr-F.SwitchExpression ifs other subject)) 7 (Bytes (spelled_at n s.SwitchExpression expr)) refl refl
    ∙ ap (λ o. unwrap_or o e.Missing) (child_is w 7 (read n s.SwitchExpression) (spelled_at n s.SwitchExpression) (Some expr) refl (w.back 7))
expression_step {n} (RawExpr-F.SingularOrList value options) expr is form w = winner_is RexType e.Missing (expression_member (reader n)) (spelled_at n) (exprs.expression_parts expr (RawExpr-F.SingularOrList value options)) 8 (Bytes (spelled_at n s.SingularOrList expr)) refl refl
    ∙ ap (λ o. unwrap_or o e.Missing) (child_is w 8 (read n s.SingularOrList) (spelled_at n s.SingularOrList) (Some expr) refl (w.back 8))
expression_step {n} (RawExpr-F.Cast ty input failure) expr is form w = winner_is RexType e.Missing (expression_member (reader n)) (spelled_at n) (exprs.expression_parts expr (RawExpr-F.Cast ty input failure)) 11 (Bytes (spelled_at n s.Cast expr)) refl refl
    ∙ ap (λ o. unwrap_or o e.Missing) (child_is w 11 (read n s.Cast) (spelled_at n s.Cast) (Some expr) refl (w.back 11))
expression_step {n} RawExpr-F.SubqueryMissing expr is form w = winner_is RexType e.Missing (expression_member (reader n)) (spelled_at n) (exprs.expression_parts expr RawExpr-F.SubqueryMissing) 12 (Bytes (spelled_at n s.Subquery expr)) refl refl
    ∙ ap (λ o. unwrap_or o e.Missing) (child_is w 12 (read n s.Subquery) (spelled_at n s.Subquery) (Some expr) refl (w.back 12))
expression_step {n} (RawExpr-F.Scalar input) expr is form w = winner_is RexType e.Missing (expression_member (reader n)) (spelled_at n) (exprs.expression_parts expr (RawExpr-F.Scalar input)) 12 (Bytes (spelled_at n s.Subquery expr)) refl refl
    ∙ ap (λ o. unwrap_or o e.Missing) (child_is w 12 (read n s.Subquery) (spelled_at n s.Subquery) (Some expr) refl (w.back 12))
expression_step {n} (RawExpr-F.InPredicate needles haystack) expr is form w = winner_is RexType e.Missing (expression_member (reader n)) (spelled_at n) (exprs.expression_parts expr (RawExpr-F.InPredicate needles haystack)) 12 (Bytes (spelled_at n s.Subquery expr)) refl refl
    ∙ ap (λ o. unwrap_or o e.Missing) (child_is w 12 (read n s.Subquery) (spelled_at n s.Subquery) (Some expr) refl (w.back 12))
expression_step {n} (RawExpr-F.SetPredicate op tuples) expr is form w = winner_is RexType e.Missing (expression_member (reader n)) (spelled_at n) (exprs.expression_parts expr (RawExpr-F.SetPredicate op tuples)) 12 (Bytes (spelled_at n s.Subquery expr)) refl refl
    ∙ ap (λ o. unwrap_or o e.Missing) (child_is w 12 (read n s.Subquery) (spelled_at n s.Subquery) (Some expr) refl (w.back 12))
expression_step {n} RawExpr-F.SetComparison expr is form w = winner_is RexType e.Missing (expression_member (reader n)) (spelled_at n) (exprs.expression_parts expr RawExpr-F.SetComparison) 12 (Bytes (spelled_at n s.Subquery expr)) refl refl
    ∙ ap (λ o. unwrap_or o e.Missing) (child_is w 12 (read n s.Subquery) (spelled_at n s.Subquery) (Some expr) refl (w.back 12))
