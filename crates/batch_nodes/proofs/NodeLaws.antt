-- Each node of more than one operand is a narrowing.
use Rattle.std.proofs.Common.{◌≡◌, ◌∙◌, ℕ, map, List, ◌∷◌, Bool, true, false, Option, Some, None, Result, Ok, Err, refl, ap, not, ◌&&◌, if◌then◌else◌}
use Rattle.sub_types.specs.declared.fault.FaultKind.{FaultKind}
use Rattle.sub_types.specs.declared.value.Value.{Value}
use Rattle.sub_types.specs.declared.value.Value.TheVariants as values
use Rattle.plan_denote.specs.Computed.{Computed, ◌>>=◌, collect, truth, is_null, is_true}
use Rattle.plan_denote.specs.Logic.{is_truth, three_valued, ends_at, coalesce, first_true, first_equal, one_of, compared}
use Rattle.plan_denote.specs.Order.{is_same}
use Rattle.std.specs.Ordering.{is_eq}
use Rattle.kernels.specs.Until.{Until, until}
use Rattle.kernels.proofs.UntilLaws.{until-same}
use Rattle.batch_nodes.specs.Narrowed.{opened, narrowed, strict, open_rows, joined}
use Rattle.batch_nodes.proofs.NarrowLaws.{until-narrowed}

-- ---- a list of strict operands

abbrev pub in_front : Value → List Value → Result (List Value) FaultKind
in_front value rest = Ok (value ∷ rest)

pub collect-narrowed : (arg : Computed) (args : List Computed) → collect (arg ∷ args) ≡ narrowed strict in_front arg (collect args)
collect-narrowed (Ok value) args = by (collect args)
  where
    by : (rest : Result (List Value) FaultKind) → (rest >>= (λ xs. Ok (value ∷ xs))) ≡ opened in_front value None rest
    by (Ok xs) = refl
    by (Err kind) = refl
collect-narrowed (Err kind) args = refl

-- ---- `and` and `or`

abbrev pub ended : Bool → Bool → Option Value
ended end is_end = if is_end then Some (values.Bool end) else None

abbrev pub ends : Bool → Value → Option Value
ends end value = ended end (is_truth end value)

abbrev pub three : Bool → Value → Value → Computed
three end value rest = Ok (three_valued end value rest)

pub ends_at-narrowed : (end : Bool) (arg : Computed) (args : List Computed) → ends_at end (arg ∷ args) ≡ narrowed (ends end) (three end) arg (ends_at end args)
ends_at-narrowed end (Ok value) args = by (is_truth end value) (ends_at end args)
  where
    by : (is_end : Bool) (rest : Computed) → (if is_end then truth end else (rest >>= (λ found. Ok (three_valued end value found)))) ≡ opened (three end) value (ended end is_end) rest
    by true rest = refl
    by false (Ok found) = refl
    by false (Err kind) = refl
ends_at-narrowed end (Err kind) args = refl

-- ---- the first value that isn't null

abbrev pub unless_null : Value → Bool → Option Value
unless_null value null = if null then None else Some value

abbrev pub first : Value → Option Value
first value = unless_null value (is_null value)

abbrev pub later : {X : Type 0} → X → Value → Computed
later x value = Ok value

pub coalesce-narrowed : (arg : Computed) (args : List Computed) → coalesce (arg ∷ args) ≡ narrowed first later arg (coalesce args)
coalesce-narrowed (Ok value) args = by (is_null value) (coalesce args)
  where
    by : (null : Bool) (rest : Computed) → (if null then rest else Ok value) ≡ opened later value (unless_null value null) rest
    by true (Ok found) = refl
    by true (Err kind) = refl
    by false rest = refl
coalesce-narrowed (Err kind) args = refl

-- ---- a condition with two ways on: first on the rows where it holds, then on the others that are left before a stop

module _ {X : Type 0} (test : X → Bool) where
  abbrev pub fork : Result X FaultKind → Computed → Computed → Computed
  fork r here other = r >>= (λ x. if test x then here else other)

  abbrev pub passed_by : Bool → Option (Option Value)
  passed_by holds = if holds then None else Some None

  abbrev pub passes : X → Option (Option Value)
  passes x = passed_by (test x)

  abbrev pub taken : X → Value → Result (Option Value) FaultKind
  taken x value = Ok (Some value)

  abbrev pub undecided : Option Value → Option Value
  undecided value = value

  pub fork-narrowed : (r : Result X FaultKind) (here other : Computed) → fork r here other ≡ narrowed undecided later (narrowed passes taken r here) other
  fork-narrowed (Ok x) here other = by (test x) here other
    where
      by : (holds : Bool) (here other : Computed) → (if holds then here else other) ≡ narrowed undecided later (opened taken x (passed_by holds) here) other
      by true (Ok value) other = refl
      by true (Err kind) other = refl
      by false here (Ok value) = refl
      by false here (Err kind) = refl
  fork-narrowed (Err kind) here other = refl

  -- both ways put together, where the second is wanted
  abbrev pub decided : List ℕ → (ℕ → Computed) → Until (Option Value) → Until Value
  decided rows other so_far = let others = until other (open_rows undecided rows so_far.values) in joined undecided later rows so_far.values so_far.stop others.values others.stop

  -- the test on all rows, one way on those where it holds, the other on those that are left before the stop
  pub until-fork : (g : ℕ → Result X FaultKind) (here other : ℕ → Computed) (rows : List ℕ)
      → until (λ i. fork (g i) (here i) (other i)) rows
      ≡ (let tests = until g rows in let found = until here (open_rows passes rows tests.values) in
      decided rows other (joined passes taken rows tests.values tests.stop found.values found.stop))
  until-fork g here other rows =
      until-same (λ i. fork (g i) (here i) (other i)) (λ i. narrowed undecided later (narrowed passes taken (g i) (here i)) (other i)) (λ i. fork-narrowed (g i) (here i) (other i)) rows
      ∙ until-narrowed undecided later (λ i. narrowed passes taken (g i) (here i)) other rows
      ∙ ap (decided rows other) (until-narrowed passes taken g here rows)

-- an arm of a conditional, and one of a choice among literals
pub first_true-fork : (condition value other : Computed) (arms : List (Computed × Computed)) → first_true ((condition, value) ∷ arms) other ≡ fork is_true condition value (first_true arms other)
first_true-fork condition value other arms = refl

abbrev pub equals : Value → Value → Bool
equals literal subject = not (is_null subject) && is_same subject literal

pub first_equal-fork : (subject value other : Computed) (literal : Value) (arms : List (Value × Computed))
    → (subject >>= (λ one. first_equal one ((literal, value) ∷ arms) other)) ≡ fork (equals literal) subject value (subject >>= (λ one. first_equal one arms other))
first_equal-fork (Ok subject) value other literal arms = refl
first_equal-fork (Err kind) value other literal arms = refl

-- an option, against which a value is compared
pub one_of-narrowed : (value option : Computed) (options : List Computed)
    → (value >>= (λ one. one_of one (option ∷ options))) ≡ narrowed (ends true) (three true) (value >>= (λ one. option >>= (λ other. compared is_eq one other))) (value >>= (λ one. one_of one options))
one_of-narrowed (Ok one) option options = ends_at-narrowed true (option >>= (λ other. compared is_eq one other)) (map (λ option. option >>= (λ other. compared is_eq one other)) options)
one_of-narrowed (Err kind) option options = refl
