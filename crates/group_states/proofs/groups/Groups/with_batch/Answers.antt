use Rattle.std.proofs.Common.{◌≡◌, ◌∙◌, ◌+◌, ◌<◌, ◌≤◌, ◌^◌, ◌++◌, length, map, All, sym, ap, subst, arith}
use Rattle.std.proofs.lemmas.List.{length-map, length-append}
use Rattle.std.proofs.lemmas.List.FromFn.{length-map-range_with_len}
use Rattle.group_laws.specs.Columns.{zipped}
use Rattle.row_keys.specs.Keys.{key_of}
use Rattle.group_tallies.specs.Kept.{tallies_in}
use Rattle.group_numbers.specs.Keys.{AreAt, keys_at, with_keys}
use Rattle.group_columns.specs.Columns.{IsWhole, count_in, keys_of, Covers}
use Rattle.group_states.specs.States.{kept_in, with_rows}
use Rattle.group_states.proofs.StateLaws.{kinds, kinds_in, kinds_with_rows, are_there, as_many_numbers, longer, each_of, covers_more, rows_known}
use Rattle.group_states.proofs.groups.Groups.with_batch.Goals as goal

pub columns_with_rows-requires-clause-whole : goal.columns_with_rows-requires-clause-whole
columns_with_rows-requires-clause-whole c =
    let batch = c.args.batch.now in
    let keys = keys_at c.args.columns.now batch in
    let many : length c.as_slice.result.now ≡ batch.rows
    = ap length c.as_slice.ensures.value ∙ as_many_numbers c.numbers_of.new.self.rows c.in_ok-numbers.numbers.items keys c.in_ok-numbers.ensures.numbers ∙ length-map-range_with_len (key_of c.args.columns.now batch) 0 batch.rows in
    subst (λ n. All (IsWhole n) c.args.taken.now) (sym many) c.requires.whole

pub columns_with_rows-requires-clause-numbers : goal.columns_with_rows-requires-clause-numbers
columns_with_rows-requires-clause-numbers c =
    let grown = c.numbers_of.new.self.rows in
    let numbers = c.in_ok-numbers.numbers.items in
    let there = are_there grown numbers (keys_at c.args.columns.now c.args.batch.now) c.in_ok-numbers.ensures.numbers in
    subst (λ l. All (λ one. one < c.len.result) l) (sym c.as_slice.ensures.value) (subst (λ n. All (λ one. one < n) numbers) (sym c.len.ensures) there)

pub columns_with_rows-requires-clause-groups : goal.columns_with_rows-requires-clause-groups
columns_with_rows-requires-clause-groups c =
    let old = c.args.self.keys.rows in
    let long : length old ≤ length c.numbers_of.new.self.rows
    = subst (λ k. length old ≤ length k) (sym c.in_ok-numbers.ensures.rows) (longer old (keys_at c.args.columns.now c.args.batch.now)) in
    each_of (λ tallies. length (tallies_in tallies) ≡ length old) (λ tallies. length (tallies_in tallies) ≤ c.len.result) (λ tallies e. omega (arith, e, long, c.len.ensures)) c.args.self.columns.items c.requires.sound.sized

pub columns_with_rows-requires-clause-room : goal.columns_with_rows-requires-clause-room
columns_with_rows-requires-clause-room c =
    let batch = c.args.batch.now in
    let keys = keys_at c.args.columns.now batch in
    let many : length c.as_slice.result.now ≡ batch.rows
    = ap length c.as_slice.ensures.value ∙ as_many_numbers c.numbers_of.new.self.rows c.in_ok-numbers.numbers.items keys c.in_ok-numbers.ensures.numbers ∙ length-map-range_with_len (key_of c.args.columns.now batch) 0 batch.rows in
    each_of (λ tallies. count_in (tallies_in tallies) ≤ c.args.self.rows) (λ tallies. count_in (tallies_in tallies) + length c.as_slice.result.now ≤ 2 ^ 62) (λ tallies h. omega (arith, h, many, c.requires.room)) c.args.self.columns.items c.requires.sound.counted

pub returns-clause-sound : goal.returns-clause-sound
returns-clause-sound c =
    let batch = c.args.batch.now in
    let keys = keys_at c.args.columns.now batch in
    let many : length c.as_slice.result.now ≡ batch.rows
    = ap length c.as_slice.ensures.value ∙ as_many_numbers c.numbers_of.new.self.rows c.in_ok-numbers.numbers.items keys c.in_ok-numbers.ensures.numbers ∙ length-map-range_with_len (key_of c.args.columns.now batch) 0 batch.rows in
    record {
      kept = c.in_ok-numbers.ensures.kept;
      sized = subst (λ n. All (λ tallies. length (tallies_in tallies) ≡ n) c.in_ok-columns.columns.items) c.len.ensures c.in_ok-columns.ensures.groups;
      counted = subst (λ n. All (λ tallies. count_in (tallies_in tallies) ≤ c.args.self.rows + n) c.in_ok-columns.columns.items) many (c.in_ok-columns.ensures.counts c.args.self.rows c.requires.sound.counted);
    }

pub returns-clause-knows : goal.returns-clause-knows
returns-clause-knows c =
    let batch = c.args.batch.now in
    let old = c.args.self.keys.rows in
    let grown = c.numbers_of.new.self.rows in
    let numbers = c.in_ok-numbers.numbers.items in
    let taken = c.args.taken.now in
    let keys = keys_at c.args.columns.now batch in
    let before = map kept_in c.args.self.columns.items in
    let many : length numbers ≡ batch.rows
    = as_many_numbers grown numbers keys c.in_ok-numbers.ensures.numbers ∙ length-map-range_with_len (key_of c.args.columns.now batch) 0 batch.rows in
    λ keepings entries later known are.
    let is : grown ≡ with_keys old (keys_of later) = c.in_ok-numbers.ensures.rows ∙ ap (with_keys old) (sym are.keys) in
    let rows : length (keys_of later) ≡ batch.rows = ap length are.keys ∙ length-map-range_with_len (key_of c.args.columns.now batch) 0 batch.rows in
    record {
      rows = omega (arith, known.rows, rows, length-map later (λ entry. entry.0), length-append entries later);
      covers = subst (λ k. Covers k (entries ++ later)) (sym is) (covers_more old (keys_of later) entries later known.covers (λ k e. e));
      columns =
          c.in_ok-columns.ensures.kept
          ∙ ap (λ n. zipped (with_rows n c.as_slice.result.now (length c.as_slice.result.now)) before taken) c.len.ensures
          ∙ ap (λ l. zipped (with_rows (length grown) l (length l)) before taken) c.as_slice.ensures.value
          ∙ ap (λ n. zipped (with_rows (length grown) numbers n) before taken) many
          ∙ rows_known keepings entries later old grown numbers taken batch.rows before is known.covers c.in_ok-numbers.ensures.kept.once (subst (AreAt grown numbers) (sym are.keys) c.in_ok-numbers.ensures.numbers)
          known.columns (c.requires.all ∙ sym (length-map c.args.self.columns.items kept_in)) are.takes;
    }

pub returns-clause-keeping : goal.returns-clause-keeping
returns-clause-keeping c =
    let before = map kept_in c.args.self.columns.items in
    let long : length c.args.taken.now ≡ length before = c.requires.all ∙ sym (length-map c.args.self.columns.items kept_in) in
    kinds_in c.in_ok-columns.columns.items ∙ ap kinds c.in_ok-columns.ensures.kept
    ∙ kinds_with_rows c.len.result (length c.as_slice.result.now) c.as_slice.result.now before c.args.taken.now long ∙ sym (kinds_in c.args.self.columns.items)
