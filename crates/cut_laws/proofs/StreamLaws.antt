-- What joins and filters give where a condition is absent or a right input was built.
use Rattle.std.proofs.Common.{◌≡◌, ◌∙◌, ℕ, List, [], ◌∷◌, Option, Some, None, map, length, refl, sym, ap}
use Rattle.std.proofs.lemmas.List.{append-nil}
use Rattle.sub_types.specs.declared.fault.Fault.{Fault}
use Rattle.sub_types.specs.declared.kind.Ty.{Ty}
use Rattle.sub_types.specs.Stream.{Stream, rows_alone, ended, followed_by, glue}
use Rattle.plan_typed.specs.declared.expr.Expr.{Expr}
use Rattle.plan_typed.specs.declared.rel.JoinKind.{JoinKind}
use Rattle.plan_denote.specs.Conjuncts.{keys_of, rest_of}
use Rattle.plan_denote.specs.Denote.{maybe_condition, join_of}
use Rattle.plan_denote.specs.Eval.{eval}
use Rattle.plan_denote.specs.Filter.{filtered}
use Rattle.plan_denote.specs.Join.{Join, match_of, joined, crossed}
use Rattle.plan_denote.specs.Rows.{Row, from_all}
use Rattle.rel_specs.specs.declared.join.JoinSpec.{JoinSpec}
use Rattle.plan_pipes.specs.RowMeaning.{join_by, key_of_columns}
use Rattle.rel_parts.specs.Parts.{IsJoinSpec, IsCrossSpec}

each_alone : (rows : List Row) → glue (map (λ row. rows_alone (row ∷ [])) rows) ≡ rows_alone rows
each_alone [] = refl
each_alone (row ∷ rows) = ap (followed_by (rows_alone (row ∷ []))) (each_alone rows)

-- an absent condition keeps every row
pub filtered_always : (number : ℕ) (s : Stream Row) → filtered number (maybe_condition None) s ≡ s
unfolding filtered
filtered_always number s =
    ap (λ all. followed_by all (ended s.end)) (each_alone s.rows)
    ∙ ap (λ rows. record { rows = rows; end = s.end }) (append-nil s.rows)

joined_by_end : (kind : JoinKind) (join : Join) (left : Stream Row) (rows : List Row) (end : Option Fault)
    → joined kind join left (from_all rows_alone (record { rows = rows; end = end })) ≡ joined kind join left (record { rows = rows; end = end })
unfolding joined
joined_by_end kind join left rows None = refl
joined_by_end kind join left rows (Some fault) = refl

-- right rows that end in a fault count for nothing but their fault
pub joined_whole : (kind : JoinKind) (join : Join) (left right : Stream Row) → joined kind join left (from_all rows_alone right) ≡ joined kind join left right
joined_whole kind join left right = joined_by_end kind join left right.rows right.end

-- a join by its spec
pub join_is : (number : ℕ) (kind : JoinKind) (left right : List Ty) (on : Expr) (spec : JoinSpec) (width other : ℕ) → IsJoinSpec number kind left right on spec → width ≡ length left → other ≡ length right
    → join_by spec ≡ join_of number width other on
unfolding join_of
join_is number kind left right on spec width other is first second =
    let many : length spec.left.items ≡ width = ap length is.left_is ∙ sym first in
    let others : length spec.right.items ≡ other = ap length is.right_is ∙ sym second in
    let keys = is.keys_are ∙ ap (λ count. keys_of count on) (sym first) in
    let rest = is.rest_is ∙ ap (λ count. rest_of count on) (sym first) in
    λ i. record { number = is.number_is i; left_width = many i; right_width = others i; matches = match_of (keys i) (map eval (rest i)) }

pub cross_is : (number : ℕ) (left right : List Ty) (spec : JoinSpec) (width other : ℕ) (lefts rights : Stream Row) → IsCrossSpec number left right spec → width ≡ length left → other ≡ length right
    → joined spec.kind (join_by spec) lefts rights ≡ crossed number width other lefts rights
unfolding crossed match_of
cross_is number left right spec width other lefts rights is first second =
    let many : length spec.left.items ≡ width = ap length is.left_is ∙ sym first in
    let others : length spec.right.items ≡ other = ap length is.right_is ∙ sym second in
    λ i. joined (is.kind_is i) (record { number = is.number_is i; left_width = many i; right_width = others i; matches = match_of (map key_of_columns (is.keys_are i)) (map eval (is.rest_is i)) }) lefts rights
