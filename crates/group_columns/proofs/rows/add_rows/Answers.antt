use Rattle.std.proofs.Common.{◌≡◌, ◌∙◌, ◌<◌, Bool, true, cond, length, get_or, slice_index_or, sym, ap, subst, refl}
use Rattle.std.proofs.lemmas.List.Elements.{All-get_or}
use Rattle.sub_types.specs.declared.value.Value.TheVariants.{Null}
use Rattle.plan_denote.specs.Computed.{is_true}
use Rattle.group_tallies.specs.Kept.{tallies_in, keeping_in, with_tally, kept_of}
use Rattle.group_columns.specs.Columns.{count_in, tests_of, values_of}
use Rattle.group_columns.proofs.StepLaws.{row_done, trues_done, value_there, count_done, length_done, place_done}
use Rattle.group_columns.proofs.rows.add_rows.Goals as goal

pub loop-row-preserved : goal.loop-row-preserved
loop-row-preserved c =
    let keeping = keeping_in c.args.tallies.now in
    let old = tallies_in c.loop-row.tallies in
    let new = tallies_in c.add_row.new.tallies in
    let numbers = c.args.numbers.now in
    let tests = tests_of (length numbers) c.args.taken.now in
    let values = values_of (length numbers) c.args.taken.now in
    let row = c.loop-row.row in
    let place = c.loop-row.place in
    let next = c.in_ok-place.place in
    let number = get_or numbers row 0 in
    let value = get_or values place Null in
    let b : Bool = is_true (slice_index_or tests row Null) in
    let h : row < length numbers = c.loop-row-test.true in
    let g : row < length tests = subst (λ n. row < n) (sym c.requires.whole.tests) h in
    let there : b ≡ true → place < length values = λ e. value_there tests row place (length values) g c.loop-row.invariant.values e in
    let stepped : new ≡ cond b (with_tally old number (kept_of keeping value)) old
    = c.in_ok-place.ensures.tallies ∙ ap (λ k. cond b (with_tally old number (kept_of k value)) old) c.loop-row.invariant.keeping in
    let within : number < length old = subst (λ n. number < n) (sym c.loop-row.invariant.groups) (All-get_or (λ one. one < length (tallies_in c.args.tallies.now)) numbers row 0 h c.requires.numbers) in
    record {
      tallies = row_done keeping old new numbers tests values row place next b h g there refl stepped c.in_ok-place.ensures.next ∙ c.loop-row.invariant.tallies;
      keeping = c.in_ok-place.ensures.keeping ∙ c.loop-row.invariant.keeping;
      groups = length_done old new number (kept_of keeping value) b stepped ∙ c.loop-row.invariant.groups;
      counts = count_done keeping old new number value row (count_in (tallies_in c.args.tallies.now)) b within stepped c.loop-row.invariant.counts;
      behind = place_done row place next b c.in_ok-place.ensures.next c.loop-row.invariant.behind;
      values = trues_done tests row place next (length values) b g refl c.in_ok-place.ensures.next c.loop-row.invariant.values;
    }
