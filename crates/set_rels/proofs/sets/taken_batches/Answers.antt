use Rattle.std.proofs.Common.{◌≡◌, ◌∙◌, All, ap, sym, subst, length}
use Rattle.std.proofs.lemmas.Result.{IfOk-weaker}
use Rattle.batch.specs.declared.batch.Batch.{Batch}
use Rattle.batch.specs.BatchRows.{rows_of, types_of}
use Rattle.batch_places.proofs.PlaceLaws.{length-rows}
use Rattle.set_places.specs.Taken.{AreEnds}
use Rattle.set_rels.specs.Keyed.{all_rows}
use Rattle.set_rels.proofs.sets.taken_batches.Goals as goal

pub taken_of_one-requires : goal.taken_of_one-requires
taken_of_one-requires c =
    let whole = c.in_ok-whole.whole in
    let rows : rows_of whole ≡ all_rows c.args.runs.items = c.in_ok-whole.ensures.rows ∙ ap all_rows c.deref-2.ensures.value in
    subst (AreEnds 0 c.args.ends.now) (ap length (sym rows) ∙ length-rows whole) c.requires.ends

pub returns-clause-rows : goal.returns-clause-rows
returns-clause-rows c = λ inputs h rows_are ends_is.
    let rows = c.in_ok-whole.ensures.rows ∙ ap all_rows c.deref-2.ensures.value in
    c.taken_of_one.ensures.rows inputs h (rows ∙ rows_are) ends_is

pub returns-clause-types : goal.returns-clause-types
returns-clause-types c =
    IfOk-weaker c.taken_of_one.result (λ batches. All (λ (batch : Batch). types_of batch ≡ types_of c.in_ok-whole.whole) batches.items) (λ batches. All (λ (batch : Batch). types_of batch ≡ c.args.types.now) batches.items) (λ batches all.
    subst (λ types. All (λ (batch : Batch). types_of batch ≡ types) batches.items) c.in_ok-whole.ensures.types all) c.taken_of_one.ensures.types
