use Rattle.std.proofs.Common.{◌∙◌, map}
use Rattle.row_keys.specs.Keys.{key_of}
use Rattle.group_numbers.proofs.PlaceLaws.{told_of, of_kept, to_kept, kept_more, rows_more, found_key}
use Rattle.group_numbers.proofs.keys.GroupKeys.number_of.Goals as goal

pub returns-clause-kept : goal.returns-clause-kept
returns-clause-kept c =
    let key = key_of c.args.columns.now c.args.batch.now c.args.row in
    let told = told_of key c.write_key.new.bytes.items c.in_ok-write_key.ensures.bytes c.in_ok-write_key.ensures.held c.in_ok-write_key.ensures.equal in
    let before = of_kept c.args.self.now c.requires.kept c.requires.mode in
    let after = kept_more c.args.self.now.rows c.push_if.new.rows key (map (λ k. k.items) c.args.self.now.set.keys) (map (λ k. k.items) c.place_of.new.set.keys) c.as_slice.result.now c.in_ok-place.place.is_new before told
    (c.as_slice.ensures.value ∙ c.in_ok-write_key.ensures.bytes) c.in_ok-place.ensures.is_new c.in_ok-push_if.ensures c.in_ok-place.ensures.keys in
    to_kept _ c.requires.mode after

pub returns-clause-rows : goal.returns-clause-rows
returns-clause-rows c =
    let key = key_of c.args.columns.now c.args.batch.now c.args.row in
    let told = told_of key c.write_key.new.bytes.items c.in_ok-write_key.ensures.bytes c.in_ok-write_key.ensures.held c.in_ok-write_key.ensures.equal in
    rows_more c.args.self.now.rows c.push_if.new.rows key (map (λ k. k.items) c.args.self.now.set.keys) c.as_slice.result.now c.in_ok-place.place.is_new (c.requires.kept.bytes c.requires.mode).bytes (c.requires.kept.bytes c.requires.mode).told told
    (c.as_slice.ensures.value ∙ c.in_ok-write_key.ensures.bytes) c.in_ok-place.ensures.is_new c.in_ok-push_if.ensures

pub returns-clause-number : goal.returns-clause-number
returns-clause-number c =
    let key = key_of c.args.columns.now c.args.batch.now c.args.row in
    let told = told_of key c.write_key.new.bytes.items c.in_ok-write_key.ensures.bytes c.in_ok-write_key.ensures.held c.in_ok-write_key.ensures.equal in
    let before = of_kept c.args.self.now c.requires.kept c.requires.mode in
    let after = kept_more c.args.self.now.rows c.push_if.new.rows key (map (λ k. k.items) c.args.self.now.set.keys) (map (λ k. k.items) c.place_of.new.set.keys) c.as_slice.result.now c.in_ok-place.place.is_new before told
    (c.as_slice.ensures.value ∙ c.in_ok-write_key.ensures.bytes) c.in_ok-place.ensures.is_new c.in_ok-push_if.ensures c.in_ok-place.ensures.keys in
    found_key c.push_if.new.rows (map (λ k. k.items) c.place_of.new.set.keys) c.in_ok-place.place.number key c.as_slice.result.now after told (c.as_slice.ensures.value ∙ c.in_ok-write_key.ensures.bytes) c.in_ok-place.ensures.number
