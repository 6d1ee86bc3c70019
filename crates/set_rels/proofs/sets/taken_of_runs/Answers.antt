use Rattle.std.proofs.Common.{◌≡◌, ◌∙◌, ◌≤◌, All, map, ap, sym, subst, length, arith}
use Rattle.std.proofs.lemmas.Result.{IfOk-weaker}
use Rattle.batch.specs.BatchRows.{types_of}
use Rattle.hash_chains.specs.First.{rows_where}
use Rattle.plan_denote.specs.Sets.{row_at, set_in}
use Rattle.std.proofs.lemmas.List.{length-map}
use Rattle.set_places.specs.Taken.{AreEnds, takes, same_in}
use Rattle.set_places.proofs.CountLaws.{ends_within}
use Rattle.batch_places.specs.Places.{row_there}
use Rattle.set_rels.specs.Inputs.{first_end, other_ends}
use Rattle.set_rels.specs.Keyed.{all_rows}
use Rattle.set_rels.proofs.TakenLaws.{parted_ends, taken_is, taken_alike, rows_below}
use Rattle.set_rels.proofs.sets.taken_of_runs.Goals as goal

pub taken_rows-requires-clause-first : goal.taken_rows-requires-clause-first
taken_rows-requires-clause-first c =
    let keyed = c.in_ok-chains.chains.keys in
    let runs : keyed.runs ≡ c.args.runs = ap (λ k. k.runs) c.in_ok-chains.ensures.keys ∙ c.in_ok-keyed.ensures in
    let count : length keyed.places.items ≡ length (all_rows c.args.runs.items) = sym (length-map keyed.places.items (row_there keyed.runs.items)) ∙ ap length keyed.placed ∙ ap (λ r. length (all_rows r.items)) runs in
    let are : AreEnds (first_end c.args.op c.args.ends.now) (other_ends c.args.op c.args.ends.now) (length (all_rows c.args.runs.items)) = parted_ends c.args.op c.args.ends.now (length (all_rows c.args.runs.items)) c.requires.ends in
    omega (arith, ends_within (first_end c.args.op c.args.ends.now) (other_ends c.args.op c.args.ends.now) (length (all_rows c.args.runs.items)) are, count, c.first_input-first.ensures.first)

pub taken_rows-requires-clause-ends : goal.taken_rows-requires-clause-ends
taken_rows-requires-clause-ends c =
    let keyed = c.in_ok-chains.chains.keys in
    let runs : keyed.runs ≡ c.args.runs = ap (λ k. k.runs) c.in_ok-chains.ensures.keys ∙ c.in_ok-keyed.ensures in
    let count : length keyed.places.items ≡ length (all_rows c.args.runs.items) = sym (length-map keyed.places.items (row_there keyed.runs.items)) ∙ ap length keyed.placed ∙ ap (λ r. length (all_rows r.items)) runs in
    let are : AreEnds (first_end c.args.op c.args.ends.now) (other_ends c.args.op c.args.ends.now) (length (all_rows c.args.runs.items)) = parted_ends c.args.op c.args.ends.now (length (all_rows c.args.runs.items)) c.requires.ends in
    subst (λ n. AreEnds c.first_input-first.result.0 c.first_input-first.result.1.now n) (sym count)
    (subst (λ n. AreEnds n c.first_input-first.result.1.now (length (all_rows c.args.runs.items))) (sym c.first_input-first.ensures.first)
    (subst (λ l. AreEnds (first_end c.args.op c.args.ends.now) l (length (all_rows c.args.runs.items))) (sym c.first_input-first.ensures.others) are))

pub batches_at-requires-clause-within : goal.batches_at-requires-clause-within
batches_at-requires-clause-within c =
    let keyed = c.in_ok-chains.chains.keys in
    let all = all_rows keyed.runs.items in
    let first = c.first_input-first.result.0 in
    let others = c.first_input-first.result.1.now in
    let runs : keyed.runs ≡ c.args.runs = ap (λ k. k.runs) c.in_ok-chains.ensures.keys ∙ c.in_ok-keyed.ensures in
    let count : length keyed.places.items ≡ length (all_rows c.args.runs.items) = sym (length-map keyed.places.items (row_there keyed.runs.items)) ∙ ap length keyed.placed ∙ ap (λ r. length (all_rows r.items)) runs in
    let are : AreEnds (first_end c.args.op c.args.ends.now) (other_ends c.args.op c.args.ends.now) (length (all_rows c.args.runs.items)) = parted_ends c.args.op c.args.ends.now (length (all_rows c.args.runs.items)) c.requires.ends in
    let within : first ≤ length keyed.places.items = omega (arith, ends_within (first_end c.args.op c.args.ends.now) (other_ends c.args.op c.args.ends.now) (length (all_rows c.args.runs.items)) are, count, c.first_input-first.ensures.first) in
    let rows : c.deref-2.result.now ≡ rows_where (takes (same_in all) c.args.op first others) first = c.deref-2.ensures.value ∙ c.in_ok-rows.ensures in
    rw (rows, c.keys-2.ensures) (rows_below (takes (same_in all) c.args.op first others) first (length keyed.places.items) within)

pub returns-clause-rows : goal.returns-clause-rows
returns-clause-rows c = λ inputs h rows_are ends_is.
    let keyed = c.in_ok-chains.chains.keys in
    let op = c.args.op in
    let all = all_rows c.args.runs.items in
    let ends = c.args.ends.now in
    let runs : keyed.runs ≡ c.args.runs = ap (λ k. k.runs) c.in_ok-chains.ensures.keys ∙ c.in_ok-keyed.ensures in
    let again : c.keys-2.result.now.runs ≡ c.args.runs = ap (λ k. k.runs) c.keys-2.ensures ∙ runs in
    IfOk-weaker c.batches_at.result (λ batches. all_rows batches.items ≡ map (row_at (all_rows c.keys-2.result.now.runs.items)) c.deref-2.result.now) (λ batches. all_rows batches.items ≡ set_in op inputs) (λ batches is.
    is
    ∙ taken_alike op all (all_rows c.keys-2.result.now.runs.items) (all_rows keyed.runs.items) c.deref-2.result.now (first_end op ends) c.first_input-first.result.0 (other_ends op ends) c.first_input-first.result.1.now
    (ap (λ r. all_rows r.items) again) (ap (λ r. all_rows r.items) runs) c.first_input-first.ensures.first c.first_input-first.ensures.others (c.deref-2.ensures.value ∙ c.in_ok-rows.ensures)
    ∙ taken_is op inputs all ends h rows_are ends_is) c.batches_at.ensures.rows

pub returns-clause-types : goal.returns-clause-types
returns-clause-types c =
    let again : c.keys-2.result.now.runs ≡ c.args.runs = ap (λ k. k.runs) c.keys-2.ensures ∙ ap (λ k. k.runs) c.in_ok-chains.ensures.keys ∙ c.in_ok-keyed.ensures in
    c.batches_at.ensures.types c.args.types.now (subst (λ r. All (λ run. types_of run ≡ c.args.types.now) r.items) (sym again) c.requires.types)
