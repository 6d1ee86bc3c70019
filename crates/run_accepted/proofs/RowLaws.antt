-- The rows of batches, counted, and a plan with too many.
use Rattle.std.proofs.Common.{◌≡◌, ◌<◌, ◌≤◌, refl, subst, ℕ, ◌^◌, List, [], ◌∷◌, length, length-append, arith, Ok, Err, true, false, nat_le}
use Rattle.std.proofs.lemmas.Bool.{le-leb, lt-leb}
use Rattle.std.specs.List.{flat_map, sum_by}
use Rattle.std.proofs.lemmas.List.Sums.{sum_by-cons}
use Rattle.sub_types.specs.declared.value.Value.TheVariants.{Null}
use Rattle.sub_types.specs.declared.fault.FaultKind.TheVariants as kinds
use Rattle.batch.specs.declared.batch.Batch.{Batch}
use Rattle.batch.specs.BatchRows.{rows_of, columns_of}
use Rattle.batch.proofs.RowLaws.{length-transpose}
use Rattle.plan_denote.specs.Rows.{Row}
use Rattle.plan_typed.specs.declared.sub.Holed.{Holed}
use Rattle.run_words.specs.declared.status.Status.TheVariants as status
use Rattle.run_words.specs.Words.{Reading}
use Rattle.run_accepted.specs.Done.{MAX_ROWS, done_of, done_with}

-- there are as many rows as the batches have
pub length_rows : (batches : List Batch) → length (flat_map rows_of batches) ≡ sum_by (λ (b : Batch). b.rows) batches
length_rows [] = refl
length_rows (batch ∷ batches) =
    let rest = length_rows batches in
    omega (arith, rest, length-append (rows_of batch) (flat_map rows_of batches), length-transpose Null batch.rows (columns_of batch), sum_by-cons (λ (b : Batch). b.rows) batch batches)

pub few_rows : (batches : List Batch) → length (flat_map rows_of batches) ≤ MAX_ROWS → sum_by (λ (b : Batch). b.rows) batches ≤ 2 ^ 36
few_rows batches few = subst (λ (n : ℕ). n ≤ MAX_ROWS) (length_rows batches) few

module _ (reading : Reading) (plan : Holed) (inputs : List (ℕ × ℕ)) (rows : List Row) where
  -- too many rows
  pub too_many : MAX_ROWS < length rows → done_with reading plan inputs rows ≡ Err (status.DataFault (record { relation = 0; kind = kinds.TooManyRows }))
  unfolding done_with
  too_many over = let test : nat_le (length rows) MAX_ROWS ≡ false = lt-leb (length rows) MAX_ROWS over in rw test refl

  -- no more than there may be
  pub few_enough : length rows ≤ MAX_ROWS → done_with reading plan inputs rows ≡ Ok (done_of reading plan inputs rows)
  unfolding done_with
  few_enough within = let test : nat_le (length rows) MAX_ROWS ≡ true = le-leb (length rows) MAX_ROWS within in rw test refl
