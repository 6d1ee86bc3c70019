use Rattle.std.proofs.Common.{◌≡◌, ◌∙◌, ◌≤◌, [], All, ap, sym, subst, arith}
use Rattle.std.specs.List.{flat_map}
use Rattle.std.proofs.lemmas.Result.{IfOk-weaker}
use Rattle.sub_types.specs.Rows.{picked}
use Rattle.batch.specs.declared.batch.Batch.{Batch}
use Rattle.batch.specs.BatchRows.{rows_of, types_of}
use Rattle.hash_chains.specs.First.{rows_where}
use Rattle.plan_denote.specs.Sets.{set_in}
use Rattle.set_places.specs.Taken.{AreEnds, takes, same_in}
use Rattle.set_places.proofs.CountLaws.{ends_within}
use Rattle.set_rels.specs.Inputs.{first_end, other_ends}
use Rattle.set_rels.specs.Keyed.{all_rows}
use Rattle.set_rels.proofs.TakenLaws.{parted_ends, taken_is, taken_alike, rows_below}
use Rattle.set_rels.proofs.sets.taken_of_one.Goals as goal

pub taken_rows-requires-clause-first : goal.taken_rows-requires-clause-first
taken_rows-requires-clause-first c =
    let keyed = c.in_ok-chains.chains.keys in
    let whole : keyed.batch ≡ c.args.whole = ap (λ k. k.batch) c.in_ok-chains.ensures.keys ∙ c.in_ok-keyed.ensures in
    let count : keyed.batch.rows ≡ c.args.whole.rows = ap (λ (one : Batch). one.rows) whole in
    let are : AreEnds (first_end c.args.op c.args.ends.now) (other_ends c.args.op c.args.ends.now) c.args.whole.rows = parted_ends c.args.op c.args.ends.now c.args.whole.rows c.requires in
    omega (arith, ends_within (first_end c.args.op c.args.ends.now) (other_ends c.args.op c.args.ends.now) c.args.whole.rows are, count, c.first_input-first.ensures.first)

pub taken_rows-requires-clause-ends : goal.taken_rows-requires-clause-ends
taken_rows-requires-clause-ends c =
    let keyed = c.in_ok-chains.chains.keys in
    let whole : keyed.batch ≡ c.args.whole = ap (λ k. k.batch) c.in_ok-chains.ensures.keys ∙ c.in_ok-keyed.ensures in
    let count : keyed.batch.rows ≡ c.args.whole.rows = ap (λ (one : Batch). one.rows) whole in
    let are : AreEnds (first_end c.args.op c.args.ends.now) (other_ends c.args.op c.args.ends.now) c.args.whole.rows = parted_ends c.args.op c.args.ends.now c.args.whole.rows c.requires in
    subst (λ n. AreEnds c.first_input-first.result.0 c.first_input-first.result.1.now n) (sym count)
    (subst (λ n. AreEnds n c.first_input-first.result.1.now c.args.whole.rows) (sym c.first_input-first.ensures.first)
    (subst (λ l. AreEnds (first_end c.args.op c.args.ends.now) l c.args.whole.rows) (sym c.first_input-first.ensures.others) are))

pub gather_in_parts-requires : goal.gather_in_parts-requires
gather_in_parts-requires c =
    let keyed = c.in_ok-chains.chains.keys in
    let all = rows_of keyed.batch in
    let first = c.first_input-first.result.0 in
    let others = c.first_input-first.result.1.now in
    let whole : keyed.batch ≡ c.args.whole = ap (λ k. k.batch) c.in_ok-chains.ensures.keys ∙ c.in_ok-keyed.ensures in
    let count : keyed.batch.rows ≡ c.args.whole.rows = ap (λ (one : Batch). one.rows) whole in
    let are : AreEnds (first_end c.args.op c.args.ends.now) (other_ends c.args.op c.args.ends.now) c.args.whole.rows = parted_ends c.args.op c.args.ends.now c.args.whole.rows c.requires in
    let within : first ≤ keyed.batch.rows = omega (arith, ends_within (first_end c.args.op c.args.ends.now) (other_ends c.args.op c.args.ends.now) c.args.whole.rows are, count, c.first_input-first.ensures.first) in
    let rows : c.deref-2.result.now ≡ rows_where (takes (same_in all) c.args.op first others) first = c.deref-2.ensures.value ∙ c.in_ok-rows.ensures in
    rw (rows, c.keys-2.ensures) (rows_below (takes (same_in all) c.args.op first others) first keyed.batch.rows within)

pub returns-clause-rows : goal.returns-clause-rows
returns-clause-rows c = λ inputs h rows_are ends_is.
    let keyed = c.in_ok-chains.chains.keys in
    let op = c.args.op in
    let all = rows_of c.args.whole in
    let ends = c.args.ends.now in
    let whole : keyed.batch ≡ c.args.whole = ap (λ k. k.batch) c.in_ok-chains.ensures.keys ∙ c.in_ok-keyed.ensures in
    let again : c.keys-2.result.now.batch ≡ c.args.whole = ap (λ k. k.batch) c.keys-2.ensures ∙ whole in
    IfOk-weaker c.gather_in_parts.result (λ batches. flat_map rows_of batches.items ≡ picked [] c.deref-2.result.now (rows_of c.keys-2.result.now.batch)) (λ batches. all_rows batches.items ≡ set_in op inputs) (λ batches is.
    is
    ∙ taken_alike op all (rows_of c.keys-2.result.now.batch) (rows_of keyed.batch) c.deref-2.result.now (first_end op ends) c.first_input-first.result.0 (other_ends op ends) c.first_input-first.result.1.now
    (ap rows_of again) (ap rows_of whole) c.first_input-first.ensures.first c.first_input-first.ensures.others (c.deref-2.ensures.value ∙ c.in_ok-rows.ensures)
    ∙ taken_is op inputs all ends h rows_are ends_is) c.gather_in_parts.ensures.rows

pub returns-clause-types : goal.returns-clause-types
returns-clause-types c =
    let again : c.keys-2.result.now.batch ≡ c.args.whole = ap (λ k. k.batch) c.keys-2.ensures ∙ ap (λ k. k.batch) c.in_ok-chains.ensures.keys ∙ c.in_ok-keyed.ensures in
    IfOk-weaker c.gather_in_parts.result (λ batches. All (λ (batch : Batch). types_of batch ≡ types_of c.keys-2.result.now.batch) batches.items) (λ batches. All (λ (batch : Batch). types_of batch ≡ types_of c.args.whole) batches.items) (λ batches all.
    subst (λ (one : Batch). All (λ (batch : Batch). types_of batch ≡ types_of one) batches.items) again all) c.gather_in_parts.ensures.types
