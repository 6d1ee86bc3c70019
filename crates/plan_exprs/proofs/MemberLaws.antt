-- An expression read by its winner.
use Rattle.std.proofs.Common.{◌≡◌, ◌∙◌, ℕ, ◌+◌, List, Some, unwrap_or, refl, sym, ap}
use Rattle.std.specs.Option.{option_map, option_map_or, option_and_then}
use Rattle.pb_wire.specs.Payloads.{Field, fields_of, merged_message}
use Rattle.plan_scan.specs.declared.shape.Shape.{Shape}
use Rattle.plan_scan.specs.declared.shape.Shape.TheVariants as s
use Rattle.plan_scan.specs.Table.{use_of, HoldsMessage}
use Rattle.plan_raw.specs.declared.expr.RawExpr.TheVariants as expr
use Rattle.plan_parts.specs.Shapes.{Reader, child}
use Rattle.plan_parts.specs.Words.{part}
use Rattle.plan_parts.specs.Parts.{selection_of}
use Rattle.plan_parts.specs.Types.{literal_by}
use Rattle.plan_parts.specs.Exprs.{expression_member}
use Rattle.plan_parts.specs.Reader.{reader}
use Rattle.plan_parts.proofs.ReaderLaws.{by_number, not_this, reader-child, found_is}
use Rattle.plan_exprs.specs.Member.{expr_in}

literal_found : (below above number : ℕ) (fields : List Field) (bytes : List ℕ) → below + 1 ≡ above → number ≡ 1 → merged_message number fields ≡ Some bytes → option_map_or expr.Literal (child (reader above) s.Literal 1 fields) expr.Missing ≡ expr.Literal (literal_by (reader below) (fields_of bytes))
literal_found below above number fields bytes one same merged =
    let here : merged_message 1 fields ≡ Some bytes = ap (λ n. merged_message n fields) (sym same) ∙ merged in
    ap (λ o. option_map_or expr.Literal (option_and_then (λ b. reader above s.Literal (fields_of b)) o) expr.Missing) here ∙ ap (λ o. option_map_or expr.Literal o expr.Missing) (reader-child below above s.Literal (fields_of bytes) one)

selection_found : (number : ℕ) (fields : List Field) (bytes : List ℕ) → number ≡ 2 → merged_message number fields ≡ Some bytes → unwrap_or (part selection_of 2 fields) expr.Missing ≡ selection_of (fields_of bytes)
selection_found number fields bytes same merged =
    ap (λ o. unwrap_or (option_map (λ b. selection_of (fields_of b)) o) expr.Missing) (ap (λ n. merged_message n fields) (sym same) ∙ merged)

-- a member whose message was found
pub member_found : (below above number : ℕ) (fields : List Field) (bytes : List ℕ) → below + 1 ≡ above → merged_message number fields ≡ Some bytes → expression_member (reader above) number fields ≡ expr_in (reader below) number (fields_of bytes)
member_found below above number fields bytes one merged =
    by_number number 1 _ _ _ _ (λ e. literal_found below above number fields bytes one e merged) (
    by_number number 2 _ _ _ _ (λ e. selection_found number fields bytes e merged) (
    by_number number 3 _ _ _ _ (λ e. found_is below above s.ScalarFunction number 3 fields bytes expr.Missing one e merged) (
    by_number number 6 _ _ _ _ (λ e. found_is below above s.IfThen number 6 fields bytes expr.Missing one e merged) (
    by_number number 7 _ _ _ _ (λ e. found_is below above s.SwitchExpression number 7 fields bytes expr.Missing one e merged) (
    by_number number 8 _ _ _ _ (λ e. found_is below above s.SingularOrList number 8 fields bytes expr.Missing one e merged) (
    by_number number 11 _ _ _ _ (λ e. found_is below above s.Cast number 11 fields bytes expr.Missing one e merged) (
    by_number number 12 _ _ _ _ (λ e. found_is below above s.Subquery number 12 fields bytes expr.Missing one e merged) (
    refl))))))))

-- a member that isn't named
pub member_unknown : (r : Reader) (number : ℕ) (fields : List Field) → ((inner : Shape) → HoldsMessage s.Expression number inner → ⊥) → expression_member r number fields ≡ expr.Unknown number
member_unknown r number fields unnamed =
    not_this number 1 _ _ _ (λ e. unnamed s.Literal (ap (use_of s.Expression) e)) (
    not_this number 2 _ _ _ (λ e. unnamed s.FieldReference (ap (use_of s.Expression) e)) (
    not_this number 3 _ _ _ (λ e. unnamed s.ScalarFunction (ap (use_of s.Expression) e)) (
    not_this number 6 _ _ _ (λ e. unnamed s.IfThen (ap (use_of s.Expression) e)) (
    not_this number 7 _ _ _ (λ e. unnamed s.SwitchExpression (ap (use_of s.Expression) e)) (
    not_this number 8 _ _ _ (λ e. unnamed s.SingularOrList (ap (use_of s.Expression) e)) (
    not_this number 11 _ _ _ (λ e. unnamed s.Cast (ap (use_of s.Expression) e)) (
    not_this number 12 _ _ _ (λ e. unnamed s.Subquery (ap (use_of s.Expression) e)) (
    refl))))))))
