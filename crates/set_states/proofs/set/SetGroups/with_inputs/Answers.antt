use Rattle.std.proofs.Common.{true, ◌≡◌, ◌∙◌, ◌+◌, ◌<◌, ◌++◌, suc, length, map, All, ap, sym, subst, refl, arith}
use Rattle.std.proofs.lemmas.List.FromFn.{length-map-range_with_len}
use Rattle.std.specs.List.{list_any}
use Rattle.plan_typed.specs.declared.rel.SetMeasure.{SetMeasure}
use Rattle.row_keys.specs.Keys.{key_of}
use Rattle.plan_denote.specs.GroupSets.{entry_in}
use Rattle.group_tallies.specs.Kept.{keeping_in}
use Rattle.group_numbers.specs.Keys.{AreAt, with_keys, keys_at}
use Rattle.group_columns.specs.Columns.{IsWhole, keys_of}
use Rattle.group_states.specs.States.{AreEntries}
use Rattle.group_states.proofs.StateLaws.{as_many_numbers}
use Rattle.set_inputs.specs.Inputs.{columns_over}
use Rattle.set_inputs.proofs.KeyLaws.{set_below, set_entries, set_keys}
use Rattle.set_states.specs.States.{keeping, AreKept, ArePairs}
use Rattle.set_states.proofs.SetLaws.{as_kept, plain_none, keys_more, again, nothing_kept, set_grown, sound_again, knows_again, set_rows, pairs_in_set}
use Rattle.set_states.proofs.set.SetGroups.with_inputs.Goals as goal

pub with_batch-requires-clause-sound : goal.with_batch-requires-clause-sound
with_batch-requires-clause-sound c = c.requires.known.1.sound

pub with_batch-requires-clause-columns : goal.with_batch-requires-clause-columns
with_batch-requires-clause-columns c =
    subst (All (λ column. column < length c.args.inputs.now.batch.columns.items)) (sym (c.as_slice-places.ensures.value ∙ c.in_ok-columns.ensures))
    (set_below c.args.width c.args.measures.now c.requires.inputs.0 c.args.inputs.now c.requires.inputs.1 c.args.set.now)

pub with_batch-requires-clause-all : goal.with_batch-requires-clause-all
with_batch-requires-clause-all c =
    ap length c.as_slice-taken.ensures.value ∙ c.requires.inputs.1.all ∙ sym (as_kept keeping_in keeping c.args.self.groups.columns.items c.args.measures.now c.requires.known.1.kept)

pub with_batch-requires-clause-whole : goal.with_batch-requires-clause-whole
with_batch-requires-clause-whole c = subst (All (IsWhole c.args.inputs.now.batch.rows)) (sym c.as_slice-taken.ensures.value) c.requires.inputs.1.whole

pub with_batch-requires-clause-room : goal.with_batch-requires-clause-room
with_batch-requires-clause-room c = omega (arith, set_rows c.args.measures.now c.args.set.now c.requires.known.0 c.args.self c.requires.known.1, c.requires.known.2)

pub returns-then-plain : goal.returns-then-plain
returns-then-plain c =
    let measures = c.args.measures.now in
    let set = c.args.set.now in
    let width = c.args.width in
    let inputs = c.args.inputs.now in
    let batch = inputs.batch in
    let old = c.args.self.groups.keys.rows in
    let cols = columns_over inputs.nulls width set in
    let view = c.as_slice-places.ensures.value ∙ c.in_ok-columns.ensures in
    let places = c.as_slice-places.result.now in
    let grown = c.in_ok-grown.grown in
    let e = c.in_ok-grown.ensures in
    let none = plain_none (list_any (λ (one : SetMeasure). one.distinct) measures) true c.if-plain.ensures refl in
    let keys_grown : grown.keys.rows ≡ with_keys old (keys_at cols batch) = e.keys ∙ ap (λ l. with_keys old (keys_at l batch)) view in
    λ entries later known are.
    let own = map (entry_in set) entries in
    let more = map (entry_in set) later in
    let given : AreEntries places batch c.as_slice-taken.result.now more =
    subst (λ l. AreEntries l batch c.as_slice-taken.result.now more) (sym view) (subst (λ l. AreEntries cols batch l more) (sym c.as_slice-taken.ensures.value) (set_entries width measures later inputs are set)) in
    set_grown measures set entries later _ (map keeping_in c.args.self.groups.columns.items) e.sound e.keeping known.kept
    (keys_more set entries later old grown.keys.rows (keys_at cols batch) known.keys (set_keys width measures later inputs are set) keys_grown)
    (e.knows (map keeping measures) own more known.knows given)
    (nothing_kept measures old grown.keys.rows own (own ++ more) c.args.self.firsts.items none known.firsts)

pub numbered-requires-clause-columns : goal.numbered-requires-clause-columns
numbered-requires-clause-columns c =
    subst (All (λ column. column < length c.args.inputs.now.batch.columns.items)) (sym (c.as_slice-places.ensures.value ∙ c.in_ok-columns.ensures))
    (set_below c.args.width c.args.measures.now c.requires.inputs.0 c.args.inputs.now c.requires.inputs.1 c.args.set.now)

pub firsts_with_rows-requires-clause-kept : goal.firsts_with_rows-requires-clause-kept
firsts_with_rows-requires-clause-kept c = (c.args.self.groups.keys.rows, map (entry_in c.args.set.now) c.requires.known.0, c.requires.known.1.firsts)

pub firsts_with_rows-requires-clause-columns : goal.firsts_with_rows-requires-clause-columns
firsts_with_rows-requires-clause-columns c =
    subst (All (λ column. column < length c.args.inputs.now.batch.columns.items)) (sym (c.as_slice-places.ensures.value ∙ c.in_ok-columns.ensures))
    (set_below c.args.width c.args.measures.now c.requires.inputs.0 c.args.inputs.now c.requires.inputs.1 c.args.set.now)

pub firsts_with_rows-requires-clause-there : goal.firsts_with_rows-requires-clause-there
firsts_with_rows-requires-clause-there c = omega (arith, c.requires.inputs.1.wide)

pub firsts_with_rows-requires-clause-all : goal.firsts_with_rows-requires-clause-all
firsts_with_rows-requires-clause-all c =
    let batch = c.args.inputs.now.batch in
    let places = c.as_slice-places.result.now in
    let more = c.in_ok-more.more in
    ap length c.as_slice.ensures.value ∙ as_many_numbers more.groups.keys.rows more.numbers.items (keys_at places batch) c.in_ok-more.ensures.numbers ∙ length-map-range_with_len (key_of places batch) 0 batch.rows

pub returns : goal.returns
returns c =
    let measures = c.args.measures.now in
    let set = c.args.set.now in
    let width = c.args.width in
    let inputs = c.args.inputs.now in
    let batch = inputs.batch in
    let old = c.args.self.groups.keys.rows in
    let cols = columns_over inputs.nulls width set in
    let view = c.as_slice-places.ensures.value ∙ c.in_ok-columns.ensures in
    let places = c.as_slice-places.result.now in
    let grown = c.in_ok-grown.grown in
    let e = c.in_ok-grown.ensures in
    let last = c.in_ok-more.more.groups in
    let numbers = c.in_ok-more.more.numbers.items in
    let n = c.in_ok-more.ensures in
    let keys_grown : grown.keys.rows ≡ with_keys old (keys_at cols batch) = e.keys ∙ ap (λ l. with_keys old (keys_at l batch)) view in
    let same : last.keys.rows ≡ grown.keys.rows = again old grown.keys.rows last.keys.rows (keys_at cols batch) keys_grown (n.keys ∙ ap (λ l. with_keys grown.keys.rows (keys_at l batch)) view) in
    let next : suc inputs.nulls ≡ inputs.nulls + 1 = omega arith in
    λ entries later known are.
    let own = map (entry_in set) entries in
    let more = map (entry_in set) later in
    let keys_are : keys_of more ≡ keys_at cols batch = set_keys width measures later inputs are set in
    let all : last.keys.rows ≡ with_keys old (keys_of more) = same ∙ keys_grown ∙ ap (with_keys old) (sym keys_are) in
    let given : AreEntries places batch c.as_slice-taken.result.now more =
    subst (λ l. AreEntries l batch c.as_slice-taken.result.now more) (sym view) (subst (λ l. AreEntries cols batch l more) (sym c.as_slice-taken.ensures.value) (set_entries width measures later inputs are set)) in
    let pairs : ArePairs measures (inputs.nulls + 1) places batch more =
    subst (λ l. ArePairs measures (inputs.nulls + 1) l batch more) (sym view) (subst (λ m. ArePairs measures m cols batch more) next (pairs_in_set width measures later inputs are set)) in
    let at : AreAt (with_keys old (keys_of more)) numbers (keys_of more) =
    subst (λ l. AreAt (with_keys old (keys_of more)) numbers l) (ap (λ l. keys_at l batch) view ∙ sym keys_are) (subst (λ l. AreAt l numbers (keys_at places batch)) all n.numbers) in
    set_grown measures set entries later _ (map keeping_in c.args.self.groups.columns.items) (sound_again grown last n.rest.1 n.rest.0 n.kept same e.sound)
    (ap (λ columns. map keeping_in columns.items) n.rest.1 ∙ e.keeping) known.kept
    (keys_more set entries later old last.keys.rows (keys_at cols batch) known.keys keys_are (same ∙ keys_grown))
    (knows_again (map keeping measures) (own ++ more) grown last n.rest.1 n.rest.0 same (e.knows (map keeping measures) own more known.knows given))
    (subst (λ l. AreKept measures l (own ++ more) c.in_ok-firsts.firsts.items) (sym all)
    (c.in_ok-firsts.ensures old own more known.firsts pairs (subst (λ l. AreAt (with_keys old (keys_of more)) l (keys_of more)) (sym c.as_slice.ensures.value) at)))
