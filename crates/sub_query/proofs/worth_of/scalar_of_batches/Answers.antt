-- No row so far or one, and then one batch more.
use Rattle.std.proofs.Common.{◌≡◌, ◌∙◌, ◌+◌, ◌<◌, [], Bool, Err, get_or, ap, sym, subst, take, inl, inr, arith, length}
use Rattle.std.specs.List.{flat_map}
use Rattle.std.proofs.Math.Seq.{take-length}
use Rattle.batch.specs.BatchRows.{rows_of}
use Rattle.batch.specs.declared.batch.Batch.{Batch}
use Rattle.sub_types.specs.declared.value.Value.{Value}
use Rattle.plan_denote.specs.Subqueries.{value_in}
use Rattle.sub_query.proofs.RowLaws.{IsFound, None, single_found, too_many, found_none, found_one}
use Rattle.sub_query.proofs.worth_of.scalar_of_batches.Goals as goal
use Rattle.sub_query.proofs.worth_of.scalar_of_batches.Goals.{then-is_found-via-then-is_found, then-is_found-via-else-is_found+then-batch-gt1, then-batch-gt0+else-is_found+else-batch-gt1+in_ok-found, else-batch-gt0}

pub loop-batch-init : goal.loop-batch-init
loop-batch-init c = None

pub returns-then-is_found : goal.returns-then-is_found
returns-then-is_found c =
    let batches = c.args.batches.now in
    let some = subst (λ (batch : Batch). 0 < batch.rows) c.batch-item.is c.if-batch-gt0.true in
    ap Err c.many_rows.ensures
    ∙ too_many c.args.number batches c.loop-batch.batch-index c.batch-item.result c.loop-batch.is_found c.loop-batch.found c.loop-batch-test.true c.loop-batch.invariant some
    (elim c.then-is_found.branch [
      | then-is_found-via-then-is_found w ↦ inl w.if-is_found.true
      | then-is_found-via-else-is_found+then-batch-gt1 w ↦ inr (subst (λ (batch : Batch). 1 < batch.rows) c.batch-item.is w.if-batch-gt1.true)
    ])

pub loop-batch-preserved : goal.loop-batch-preserved
loop-batch-preserved c =
    let batches = c.args.batches.now in
    let i = c.loop-batch.batch-index in
    let batch = c.batch-item.result in
    let same : batch ≡ get_or batches i batch = c.batch-item.is in
    elim c.if-batch-gt0.branch [
      | then-batch-gt0+else-is_found+else-batch-gt1+in_ok-found w ↦
          let one : (get_or batches i batch).rows ≡ 1 = subst (λ (one : Batch). one.rows ≡ 1) same (omega arith) in
          let empty = subst (λ (is_found : Bool). IsFound is_found c.loop-batch.found (flat_map rows_of (take i batches))) w.if-is_found.false c.loop-batch.invariant in
          let value = subst (λ (one : Batch). c.if-batch-gt0.found ≡ value_in (get_or (rows_of one) 0 [])) same (w.found-is ∙ w.in_ok-found.ensures) in
          subst (λ (is_found : Bool). IsFound is_found c.if-batch-gt0.found (flat_map rows_of (take (i + 1) batches))) (sym w.is_found-is)
          (found_one batches i batch c.loop-batch.found c.if-batch-gt0.found c.loop-batch-test.true empty one value)
      | else-batch-gt0 w ↦
          let none : (get_or batches i batch).rows ≡ 0 = subst (λ (one : Batch). one.rows ≡ 0) same (omega arith) in
          subst (λ (is_found : Bool). IsFound is_found c.if-batch-gt0.found (flat_map rows_of (take (i + 1) batches))) (sym w.is_found-is)
          (subst (λ (found : Value). IsFound c.loop-batch.is_found found (flat_map rows_of (take (i + 1) batches))) (sym w.found-is)
          (found_none batches i batch c.loop-batch.is_found c.loop-batch.found c.loop-batch-test.true c.loop-batch.invariant none))
    ]

pub returns : goal.returns
returns c =
    let batches = c.args.batches.now in
    let end : c.loop-batch.batch-index ≡ length batches = omega arith in
    let whole = ap (λ n. flat_map rows_of (take n batches)) end ∙ ap (flat_map rows_of) (take-length batches) in
    single_found c.args.number c.loop-batch.is_found c.loop-batch.found (flat_map rows_of batches) (subst (IsFound c.loop-batch.is_found c.loop-batch.found) whole c.loop-batch.invariant)
