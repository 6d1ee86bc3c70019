-- A `singular_or_list` over constants, row by row up to the first fault.
use Rattle.std.proofs.Common.{◌≡◌, ◌∙◌, ℕ, List, [], ◌∷◌, Result, Ok, Err, Bool, true, false, map, refl, sym, ap, ap₂, subst, if◌then◌else◌}
use Rattle.sub_types.specs.ResultSteps.{◌>>=◌}
use Rattle.sub_types.specs.declared.fault.FaultKind.{FaultKind}
use Rattle.sub_types.specs.declared.kind.Kind.{Kind}
use Rattle.sub_types.specs.declared.kind.Kind.TheVariants as kinds
use Rattle.sub_types.specs.declared.kind.Ty.{Ty}
use Rattle.sub_types.specs.Value.{InKind}
use Rattle.sub_types.specs.declared.value.Value.{Value}
use Rattle.sub_types.specs.declared.value.Value.TheVariants as values
use Rattle.plan_typed.specs.declared.expr.Expr.{Expr}
use Rattle.plan_typed.specs.declared.expr.Expr.TheVariants as exprs
use Rattle.plan_denote.specs.Computed.{Computed, is_null}
use Rattle.plan_denote.specs.Eval.{eval}
use Rattle.plan_denote.specs.Logic.{one_of}
use Rattle.plan_denote.proofs.EvalLaws.{eval-OneOf}
use Rattle.batch.specs.declared.batch.Batch.{Batch}
use Rattle.batch.specs.declared.column.Column.{Column}
use Rattle.batch.specs.ColumnValues.{values_of}
use Rattle.kernels.specs.declared.selection.Stop.{Stop}
use Rattle.kernels.specs.Until.{Until, step, until}
use Rattle.batch_nodes.specs.declared.found.Found.{Found}
use Rattle.batch_nodes.specs.declared.found.Found.TheVariants as found
use Rattle.batch_nodes.specs.Evaluated.{eval_at, row_at}
use Rattle.batch_nodes.specs.Found.{IsUntil, found_values}
use Rattle.value_sets.specs.declared.set.ValueSet.{ValueSet}
use Rattle.value_sets.specs.Sets.{answer_by, has, IsSetOf}
use Rattle.value_sets.proofs.AnswerLaws.{set_answers}

until_same : {X : Type 0} (f g : ℕ → Result X FaultKind) → ((i : ℕ) → f i ≡ g i) → (rows : List ℕ) → until f rows ≡ until g rows
until_same f g same [] = refl
until_same f g same (row ∷ rows) = ap₂ (step row) (same row) (until_same f g same rows)

abbrev mapped : (Value → Value) → Until Value → Until Value
mapped h out = record { values = map h out.values; stop = out.stop }

mapped_one : (h : Value → Value) (row : ℕ) (r : Computed) (rest : Until Value) → step row (r >>= (λ one. Ok (h one))) (mapped h rest) ≡ mapped h (step row r rest)
mapped_one h row (Ok value) rest = refl
mapped_one h row (Err kind) rest = refl

until_mapped : (h : Value → Value) (f : ℕ → Computed) (rows : List ℕ) → until (λ i. f i >>= (λ one. Ok (h one))) rows ≡ mapped h (until f rows)
until_mapped h f [] = refl
until_mapped h f (row ∷ rows) = ap (step row (f row >>= (λ one. Ok (h one)))) (until_mapped h f rows) ∙ mapped_one h row (f row) (until f rows)

bound : (r : Computed) (f g : Value → Computed) → ((value : Value) → f value ≡ g value) → (r >>= f) ≡ (r >>= g)
bound (Ok value) f g same = same value
bound (Err kind) f g same = refl

pub one_of_until : (set : ValueSet) (first : Expr) (rest : List Expr) → IsSetOf set (first ∷ rest) → (value : Expr) (ty : Ty) (batch : Batch) (rows : List ℕ) (kind : Kind) (values : Found) (stop : Stop) (column : Column)
    → IsUntil (eval_at value batch) rows kind values stop → values_of column.values ≡ map (answer_by (has set)) (found_values values) → column.ty ≡ ty → ty.kind ≡ kinds.Bool
    → IsUntil (eval_at (exprs.OneOf value (first ∷ rest) ty) batch) rows kinds.Bool (found.Made column) stop
one_of_until set first rest of value ty batch rows kind values stop column is answers ty_is bool =
    let h = answer_by (has set) in
    let f = eval_at value batch in
    let row = λ (i : ℕ). row_at batch i in
    let each : (i : ℕ) → eval_at (exprs.OneOf value (first ∷ rest) ty) batch i ≡ (f i >>= (λ one. Ok (h one))) = λ i.
    eval-OneOf value (first ∷ rest) ty (row i)
    ∙ bound (f i) (λ one. one_of one (map (λ option. eval option (row i)) (first ∷ rest))) (λ one. Ok (h one)) (λ one. set_answers set first rest of one (row i)) in
    let all = until_same (eval_at (exprs.OneOf value (first ∷ rest) ty) batch) (λ i. f i >>= (λ one. Ok (h one))) each rows ∙ until_mapped h f rows in
    record {
      values = answers ∙ ap (map h) is.values ∙ sym (ap (λ (out : Until Value). out.values) all);
      stop = is.stop ∙ sym (ap (λ (out : Until Value). out.stop) all);
      kind = sym bool ∙ sym (ap (λ (one : Ty). one.kind) ty_is);
    }

pub one_of_some : (set : ValueSet) (options : List Expr) → (options ≡ [] → ⊥) → IsSetOf set options → (value : Expr) (ty : Ty) (batch : Batch) (rows : List ℕ) (kind : Kind) (values : Found) (stop : Stop) (column : Column)
    → IsUntil (eval_at value batch) rows kind values stop → values_of column.values ≡ map (answer_by (has set)) (found_values values) → column.ty ≡ ty → ty.kind ≡ kinds.Bool
    → IsUntil (eval_at (exprs.OneOf value options ty) batch) rows kinds.Bool (found.Made column) stop
one_of_some set [] some of value ty batch rows kind values stop column is answers ty_is bool = absurd (some refl)
one_of_some set (first ∷ rest) some of value ty batch rows kind values stop column is answers ty_is bool = one_of_until set first rest of value ty batch rows kind values stop column is answers ty_is bool

-- what is said is a truth value or null
word_in_kind : (null hit lack : Bool) → InKind kinds.Bool (if null then values.Null else if hit then values.Bool true else if lack then values.Null else values.Bool false)
word_in_kind true hit lack = tt
word_in_kind false true lack = tt
word_in_kind false false true = tt
word_in_kind false false false = tt

pub answer_in_kind : (among : Value → Bool) (value answer : Value) → answer ≡ answer_by among value → InKind kinds.Bool answer
answer_in_kind among value answer is = subst (InKind kinds.Bool) (sym is) (word_in_kind (is_null value) (among value) (among values.Null))
