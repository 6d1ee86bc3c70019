use Rattle.std.proofs.Common.{◌≡◌, ◌∙◌, ◌<◌, ◌≤◌, ◌^◌, ◌++◌, length, map, All, sym, ap, subst, arith}
use Rattle.std.proofs.lemmas.List.{length-map, length-append}
use Rattle.group_laws.specs.Columns.{zipped}
use Rattle.group_tallies.specs.Kept.{tallies_in, keeping_in}
use Rattle.group_columns.specs.Columns.{count_in, Covers}
use Rattle.group_states.specs.States.{kept_in, with_groups}
use Rattle.group_states.proofs.StateLaws.{kinds, kinds_in, kinds_with_groups, are_there, as_many_numbers, longer, each_of, covers_more, groups_known}
use Rattle.group_states.proofs.groups.Groups.with_later.Goals as goal

pub columns_with_groups-requires-clause-keeping : goal.columns_with_groups-requires-clause-keeping
columns_with_groups-requires-clause-keeping c = c.requires.keeping ∙ sym (ap (map keeping_in) c.as_slice-2.ensures.value)

pub columns_with_groups-requires-clause-all : goal.columns_with_groups-requires-clause-all
columns_with_groups-requires-clause-all c =
    let others = c.args.later.now.keys.rows in
    let many : length c.as_slice.result.now ≡ length others
    = ap length c.as_slice.ensures.value ∙ as_many_numbers c.numbers_from.new.self.rows c.in_ok-numbers.numbers.items others c.in_ok-numbers.ensures.numbers in
    subst (All (λ tallies. length c.as_slice.result.now ≡ length (tallies_in tallies))) (sym c.as_slice-2.ensures.value)
    (each_of (λ tallies. length (tallies_in tallies) ≡ length others) (λ tallies. length c.as_slice.result.now ≡ length (tallies_in tallies)) (λ tallies e. many ∙ sym e) c.args.later.now.columns.items c.requires.later.sized)

pub columns_with_groups-requires-clause-numbers : goal.columns_with_groups-requires-clause-numbers
columns_with_groups-requires-clause-numbers c =
    let grown = c.numbers_from.new.self.rows in
    let numbers = c.in_ok-numbers.numbers.items in
    let there = are_there grown numbers c.args.later.now.keys.rows c.in_ok-numbers.ensures.numbers in
    subst (λ l. All (λ one. one < c.len.result) l) (sym c.as_slice.ensures.value) (subst (λ n. All (λ one. one < n) numbers) (sym c.len.ensures) there)

pub columns_with_groups-requires-clause-groups : goal.columns_with_groups-requires-clause-groups
columns_with_groups-requires-clause-groups c =
    let old = c.args.self.keys.rows in
    let long : length old ≤ length c.numbers_from.new.self.rows
    = subst (λ k. length old ≤ length k) (sym c.in_ok-numbers.ensures.rows) (longer old c.args.later.now.keys.rows) in
    each_of (λ tallies. length (tallies_in tallies) ≡ length old) (λ tallies. length (tallies_in tallies) ≤ c.len.result) (λ tallies e. omega (arith, e, long, c.len.ensures)) c.args.self.columns.items c.requires.sound.sized

pub columns_with_groups-requires-clause-few : goal.columns_with_groups-requires-clause-few
columns_with_groups-requires-clause-few c =
    each_of (λ tallies. count_in (tallies_in tallies) ≤ c.args.self.rows) (λ tallies. count_in (tallies_in tallies) ≤ 2 ^ 61) (λ tallies h. omega (arith, h, c.requires.few)) c.args.self.columns.items c.requires.sound.counted

pub columns_with_groups-requires-clause-later_few : goal.columns_with_groups-requires-clause-later_few
columns_with_groups-requires-clause-later_few c =
    subst (All (λ tallies. count_in (tallies_in tallies) ≤ 2 ^ 61)) (sym c.as_slice-2.ensures.value)
    (each_of (λ tallies. count_in (tallies_in tallies) ≤ c.args.later.now.rows) (λ tallies. count_in (tallies_in tallies) ≤ 2 ^ 61) (λ tallies h. omega (arith, h, c.requires.later_few)) c.args.later.now.columns.items c.requires.later.counted)

pub returns-clause-sound : goal.returns-clause-sound
returns-clause-sound c =
    record {
      kept = c.in_ok-numbers.ensures.kept;
      sized = subst (λ n. All (λ tallies. length (tallies_in tallies) ≡ n) c.in_ok-columns.columns.items) c.len.ensures c.in_ok-columns.ensures.groups;
      counted = c.in_ok-columns.ensures.counts c.args.self.rows c.args.later.now.rows c.requires.sound.counted (subst (All (λ tallies. count_in (tallies_in tallies) ≤ c.args.later.now.rows)) (sym c.as_slice-2.ensures.value) c.requires.later.counted);
    }

pub returns-clause-knows : goal.returns-clause-knows
returns-clause-knows c =
    let old = c.args.self.keys.rows in
    let others = c.args.later.now.keys.rows in
    let grown = c.numbers_from.new.self.rows in
    let numbers = c.in_ok-numbers.numbers.items in
    let before = map kept_in c.args.self.columns.items in
    λ keepings entries more known was.
    record {
      rows = omega (arith, known.rows, was.rows, length-append entries more);
      covers = subst (λ k. Covers k (entries ++ more)) (sym c.in_ok-numbers.ensures.rows) (covers_more old others entries more known.covers was.covers);
      columns =
          c.in_ok-columns.ensures.kept
          ∙ ap (λ n. zipped (with_groups n c.as_slice.result.now) before (map kept_in c.as_slice-2.result.now)) c.len.ensures
          ∙ ap (λ l. zipped (with_groups (length grown) l) before (map kept_in c.as_slice-2.result.now)) c.as_slice.ensures.value
          ∙ ap (λ l. zipped (with_groups (length grown) numbers) before (map kept_in l)) c.as_slice-2.ensures.value
          ∙ groups_known keepings entries more old others grown numbers before (map kept_in c.args.later.now.columns.items) c.in_ok-numbers.ensures.rows known.covers was.covers c.in_ok-numbers.ensures.kept.once c.requires.later.kept.once
          c.in_ok-numbers.ensures.numbers known.columns was.columns;
    }

pub returns-clause-keeping : goal.returns-clause-keeping
returns-clause-keeping c =
    let before = map kept_in c.args.self.columns.items in
    let later = c.args.later.now.columns.items in
    let view = c.as_slice-2.result.now in
    let same : length (map keeping_in c.args.self.columns.items) ≡ length (map keeping_in later) = ap length c.requires.keeping in
    let seen : length view ≡ length later = ap length c.as_slice-2.ensures.value in
    let long : length (map kept_in view) ≡ length before
    = omega (arith, same, seen, length-map c.args.self.columns.items keeping_in, length-map later keeping_in, length-map view kept_in, length-map c.args.self.columns.items kept_in) in
    kinds_in c.in_ok-columns.columns.items ∙ ap kinds c.in_ok-columns.ensures.kept
    ∙ kinds_with_groups c.len.result c.as_slice.result.now before (map kept_in view) long ∙ sym (kinds_in c.args.self.columns.items)
