-- A relation with the values put in, by what it does, and what it does by its inputs and its expressions.
use Rattle.std.proofs.Common.{◌≡◌, ◌∙◌, ℕ, List, Option, map, sym, rules}
use Rattle.sub_types.specs.declared.kind.Ty.{Ty}
use Rattle.plan_typed.specs.declared.expr.Expr.{Expr}
use Rattle.plan_typed.specs.declared.rel.JoinKind.{JoinKind}
use Rattle.plan_typed.specs.declared.rel.SetOp.{SetOp}
use Rattle.plan_typed.specs.declared.rel.SetMeasure.{SetMeasure}
use Rattle.plan_typed.specs.declared.rel.SortKey.{SortKey}
use Rattle.plan_typed.specs.declared.rel.TypedMeasure.{TypedMeasure}
use Rattle.plan_typed.specs.declared.rel.Source.{Source}
use Rattle.plan_typed.specs.declared.rel.Op.{Op, the_lemmas}
use Rattle.plan_typed.specs.declared.rel.Op.TheVariants as ops
use Rattle.plan_typed.specs.declared.rel.Rel.{Rel, out-Rel, roll-Rel}
use Rattle.plan_denote.specs.Holes.{Worth, Known, worth_at, filled, filled_expr, all_from, size_of_all, maybe_from, source_from, size_of_source, keys_from, measures_from, set_measures_from}
use Rattle.sub_query.specs.Parts.{op_with}

module _ (known : Known) where
  pub filled_is : (rel : Rel)
      → filled known rel ≡ roll-Rel (record { number = (out-Rel rel).number; op = op_with known (worth_at known (out-Rel rel).number) (out-Rel rel).op; emit = (out-Rel rel).emit; columns = (out-Rel rel).columns })
  unfolding filled op_with
  filled_is rel = search (rules, the_lemmas)

  module _ (here : ℕ → Option Worth) where
    pub op-Read : (source : Source) (names : List (List ℕ)) (types : List Ty) (filter : Option Expr) (mask : List ℕ)
        → op_with known here (ops.Read source names types filter mask) ≡ ops.Read (source_from here source) names types (maybe_from here (size_of_source here source) filter) mask
    unfolding filled op_with
    op-Read source names types filter mask = search (rules, the_lemmas)

    pub op-Filter : (input : Rel) (condition : Expr) → op_with known here (ops.Filter input condition) ≡ ops.Filter (filled known input) ((filled_expr here condition).at 0)
    unfolding filled op_with
    op-Filter input condition = search (rules, the_lemmas)

    pub op-Project : (input : Rel) (exprs : List Expr) → op_with known here (ops.Project input exprs) ≡ ops.Project (filled known input) (all_from here 0 exprs)
    unfolding filled op_with
    op-Project input exprs = search (rules, the_lemmas)

    pub op-Fetch : (input : Rel) (offset : ℕ) (count : Option ℕ) → op_with known here (ops.Fetch input offset count) ≡ ops.Fetch (filled known input) offset count
    unfolding filled op_with
    op-Fetch input offset count = search (rules, the_lemmas)

    pub op-Sort : (input : Rel) (keys : List SortKey) → op_with known here (ops.Sort input keys) ≡ ops.Sort (filled known input) (keys_from here 0 keys)
    unfolding filled op_with
    op-Sort input keys = search (rules, the_lemmas)

    pub op-Aggregate : (input : Rel) (groups : List Expr) (measures : List TypedMeasure)
        → op_with known here (ops.Aggregate input groups measures) ≡ ops.Aggregate (filled known input) (all_from here 0 groups) (measures_from here (size_of_all here groups) measures)
    unfolding filled op_with
    op-Aggregate input groups measures = search (rules, the_lemmas)

    pub op-GroupSets : (input : Rel) (groups : List Expr) (sets : List (List ℕ)) (measures : List SetMeasure)
        → op_with known here (ops.GroupSets input groups sets measures) ≡ ops.GroupSets (filled known input) (all_from here 0 groups) sets (set_measures_from here (size_of_all here groups) measures)
    unfolding filled op_with
    op-GroupSets input groups sets measures = search (rules, the_lemmas)

    pub op-Join : (left right : Rel) (kind : JoinKind) (on : Expr) (post : Option Expr)
        → op_with known here (ops.Join left right kind on post) ≡ ops.Join (filled known left) (filled known right) kind ((filled_expr here on).at 0) (maybe_from here (filled_expr here on).size post)
    unfolding filled op_with
    op-Join left right kind on post = search (rules, the_lemmas)

    pub op-Cross : (left right : Rel) → op_with known here (ops.Cross left right) ≡ ops.Cross (filled known left) (filled known right)
    unfolding filled op_with
    op-Cross left right = search (rules, the_lemmas)

    pub op-Set : (inputs : List Rel) (op : SetOp) → op_with known here (ops.Set inputs op) ≡ ops.Set (map (filled known) inputs) op
    unfolding filled op_with
    op-Set inputs op = search (rules, the_lemmas)

  -- a relation of parts that are made
  pub rel_made : (rel : Rel) (here : ℕ → Option Worth) (op : Op) (emit : List ℕ) (columns : List Ty) → ((node : ℕ) → here node ≡ worth_at known (out-Rel rel).number node)
      → op ≡ op_with known here (out-Rel rel).op → emit ≡ (out-Rel rel).emit → columns ≡ (out-Rel rel).columns
      → roll-Rel (record { number = (out-Rel rel).number; op = op; emit = emit; columns = columns }) ≡ filled known rel
  rel_made rel here op emit columns is_here is_op is_emit is_columns =
      let whole : op ≡ op_with known (worth_at known (out-Rel rel).number) (out-Rel rel).op = is_op ∙ (λ i. op_with known (λ node. is_here node i) (out-Rel rel).op) in
      (λ i. roll-Rel (record { number = (out-Rel rel).number; op = whole i; emit = is_emit i; columns = is_columns i })) ∙ sym (filled_is rel)
