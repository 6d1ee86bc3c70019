use Rattle.std.proofs.Common.{◌≡◌, ◌∙◌, take, drop, ap, sym, subst, arith}
use Rattle.std.specs.List.{flat_map}
use Rattle.batch.specs.BatchRows.{rows_of, types_of}
use Rattle.arrow_write.specs.Cut.{IsWhole, AreRows, rows_before, place_of_parts}
use Rattle.arrow_write.specs.Progress.{IsMessage}
use Rattle.arrow_write.proofs.OkLaws.{if_ok}
use Rattle.arrow_write.proofs.CutLaws.{kinds-of-batches, batch_there, rows-of-whole, place_of_parts-follow}
use Rattle.arrow_write.proofs.next.next_message.Goals as goal

pub batch_of_parts-requires-clause-kinds : goal.batch_of_parts-requires-clause-kinds
batch_of_parts-requires-clause-kinds c =
    let batches = c.args.batches.now in
    let cursor = c.args.cursor.now in
    let there = batch_there batches cursor.batch cursor.row c.args.count c.requires.enough (omega arith) in
    kinds-of-batches c.args.types.now batches c.requires.alike (omega (arith, there))

pub returns-in-Some-clause-message : goal.returns-in-Some-clause-message
returns-in-Some-clause-message c =
    let types = c.args.types.now in
    let batches = c.args.batches.now in
    let parts = c.in_ok-parts.parts.items in
    let i = c.in-Some.i in
    let batch = c.index-batches-i.result in
    let next = take c.args.count (drop (rows_before batches c.args.cursor.now) (flat_map rows_of batches)) in
    let whole = subst (λ ps. IsWhole batches ps i) c.deref.ensures.value c.in-Some.ensures in
    let rows : rows_of batch ≡ next = rows-of-whole batches parts (rows_before batches c.args.cursor.now) c.args.count i batch c.in_ok-parts.ensures.lie c.in_ok-parts.ensures.rows whole c.index-batches-i.is in
    let same : types_of batch ≡ types = ap types_of c.index-batches-i.is ∙ c.requires.alike i batch whole.exists in
    if_ok (IsMessage (types_of batch) (rows_of batch)) (IsMessage types next) c.batch_message.result (λ message is. subst (λ ts. IsMessage ts next message) same (subst (λ rs. IsMessage (types_of batch) rs message) rows is)) c.batch_message.ensures

pub batch_of_parts-requires-clause-rows : goal.batch_of_parts-requires-clause-rows
batch_of_parts-requires-clause-rows c =
    let batches = c.args.batches.now in
    let parts = c.in_ok-parts.parts.items in
    let rows = c.in_ok-parts.ensures.rows in
    subst (λ ps. AreRows batches (place_of_parts batches ps) c.args.count ps) (sym c.deref-2.ensures.value)
    (subst (λ place. AreRows batches place c.args.count parts) (sym (place_of_parts-follow batches (rows_before batches c.args.cursor.now) c.args.count parts rows (omega arith))) rows)

pub batch_of_parts-requires-clause-enough : goal.batch_of_parts-requires-clause-enough
batch_of_parts-requires-clause-enough c =
    let batches = c.args.batches.now in
    let parts = c.in_ok-parts.parts.items in
    let place = place_of_parts-follow batches (rows_before batches c.args.cursor.now) c.args.count parts c.in_ok-parts.ensures.rows (omega arith) in
    omega (arith, place, ap (place_of_parts batches) c.deref-2.ensures.value, c.requires.enough)

pub returns-clause-message : goal.returns-clause-message
returns-clause-message c =
    let types = c.args.types.now in
    let batches = c.args.batches.now in
    let all = flat_map rows_of batches in
    let batch = c.in_ok-batch.batch in
    let begin = rows_before batches c.args.cursor.now in
    let next = take c.args.count (drop begin all) in
    let place : place_of_parts batches c.deref-2.result.now ≡ begin =
    ap (place_of_parts batches) c.deref-2.ensures.value ∙ place_of_parts-follow batches begin c.args.count c.in_ok-parts.parts.items c.in_ok-parts.ensures.rows (omega arith) in
    let rows : rows_of batch ≡ next = c.in_ok-batch.ensures.rows ∙ ap (λ p. take c.args.count (drop p all)) place in
    if_ok (IsMessage (types_of batch) (rows_of batch)) (IsMessage types next) c.batch_message-2.result
    (λ message is. subst (λ ts. IsMessage ts next message) c.in_ok-batch.ensures.types (subst (λ rs. IsMessage (types_of batch) rs message) rows is)) c.batch_message-2.ensures
