-- Filters and projections of the rows of a batch, by what their expressions are worth up to the first fault.
use Rattle.std.proofs.Common.{◌≡◌, ◌∙◌, ℕ, List, [], ◌∷◌, ◌++◌, Bool, true, false, Option, None, Result, Ok, Err, map, refl, ap, if◌then◌else◌}
use Rattle.sub_types.specs.declared.fault.Fault.{Fault}
use Rattle.sub_types.specs.declared.fault.FaultKind.{FaultKind}
use Rattle.sub_types.specs.declared.value.Value.{Value}
use Rattle.sub_types.specs.ResultSteps.{◌>>=◌}
use Rattle.sub_types.specs.Stream.{Stream, ended, followed_by, glue, stream_of}
use Rattle.sub_types.proofs.StreamLaws.{followed_by_assoc}
use Rattle.plan_denote.specs.Computed.{Computed, is_true}
use Rattle.plan_denote.specs.Rows.{Row, Formula, at_relation, each_row, only_if, values_at}
use Rattle.plan_denote.specs.Filter.{filter_row, filtered}
use Rattle.plan_denote.specs.Project.{project_row, projected}
use Rattle.kernels.specs.Until.{Until, step, until}
use Rattle.row_ops.specs.Stepped.{end_by, chosen_by}

abbrev stream : {R : Type 0} → List R → Option Fault → Stream R
stream rows end = record { rows = rows; end = end }

-- one row more in front
each_more : {A B : Type 0} (number : ℕ) (f : A → Result (List B) FaultKind) (row : A) (rows : List A) (end : Option Fault) → each_row number f (stream (row ∷ rows) end) ≡ followed_by (stream_of (at_relation number (f row))) (each_row number f (stream rows end))
each_more number f row rows end = followed_by_assoc (stream_of (at_relation number (f row))) (glue (map (λ one. stream_of (at_relation number (f one))) rows)) (ended end)

-- ---- filters

abbrev kept_of : ℕ → (ℕ → Row) → List ℕ → Until Value → Option Fault → Stream Row
kept_of number g rows out end = stream (map g (chosen_by rows out.values)) (end_by number out.stop end)

test_one : (number : ℕ) (g : ℕ → Row) (row : ℕ) (rows : List ℕ) (rest : Until Value) (end : Option Fault) (test : Value) (is : Bool) → is_true test ≡ is
    → followed_by (stream (only_if is (g row)) None) (kept_of number g rows rest end)
    ≡ stream (map g (if is then row ∷ chosen_by rows rest.values else chosen_by rows rest.values)) (end_by number rest.stop end)
test_one number g row rows rest end test true e = refl
test_one number g row rows rest end test false e = refl

filter_one : (number : ℕ) (g : ℕ → Row) (row : ℕ) (rows : List ℕ) (r : Computed) (rest : Until Value) (end : Option Fault)
    → followed_by (stream_of (at_relation number (r >>= λ test. Ok (only_if (is_true test) (g row))))) (kept_of number g rows rest end) ≡ kept_of number g (row ∷ rows) (step row r rest) end
filter_one number g row rows (Ok test) rest end = test_one number g row rows rest end test (is_true test) refl
filter_one number g row rows (Err kind) rest end = refl

pub filter_until : (number : ℕ) (condition : Formula) (g : ℕ → Row) (rows : List ℕ) (end : Option Fault) → filtered number condition (stream (map g rows) end) ≡ kept_of number g rows (until (λ i. condition (g i)) rows) end
unfolding filtered
filter_until number condition g [] end = refl
filter_until number condition g (row ∷ rows) end =
    each_more number (filter_row condition) (g row) (map g rows) end
    ∙ ap (followed_by (stream_of (at_relation number (filter_row condition (g row))))) (filter_until number condition g rows end)
    ∙ filter_one number g row rows (condition (g row)) (until (λ i. condition (g i)) rows) end

-- ---- projections

abbrev pub behind_each : (ℕ → Row) → List ℕ → List Row → List Row
behind_each g (row ∷ rows) (values ∷ more) = (g row ++ values) ∷ behind_each g rows more
behind_each g _ _ = []

abbrev widened : ℕ → (ℕ → Row) → List ℕ → Until Row → Option Fault → Stream Row
widened number g rows out end = stream (behind_each g rows out.values) (end_by number out.stop end)

project_one : (number : ℕ) (g : ℕ → Row) (row : ℕ) (rows : List ℕ) (r : Result Row FaultKind) (rest : Until Row) (end : Option Fault)
    → followed_by (stream_of (at_relation number (r >>= λ values. Ok ((g row ++ values) ∷ [])))) (widened number g rows rest end) ≡ widened number g (row ∷ rows) (step row r rest) end
project_one number g row rows (Ok values) rest end = refl
project_one number g row rows (Err kind) rest end = refl

pub project_until : (number : ℕ) (exprs : List Formula) (g : ℕ → Row) (rows : List ℕ) (end : Option Fault) → projected number exprs (stream (map g rows) end) ≡ widened number g rows (until (λ i. values_at exprs (g i)) rows) end
unfolding projected
project_until number exprs g [] end = refl
project_until number exprs g (row ∷ rows) end =
    each_more number (project_row exprs) (g row) (map g rows) end
    ∙ ap (followed_by (stream_of (at_relation number (project_row exprs (g row))))) (project_until number exprs g rows end)
    ∙ project_one number g row rows (values_at exprs (g row)) (until (λ i. values_at exprs (g i)) rows) end
