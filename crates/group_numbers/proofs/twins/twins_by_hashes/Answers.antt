use Rattle.std.proofs.Common.{◌≡◌, ◌≤◌, ◌∙◌, ◌+◌, ap, length, arith}
use Rattle.std.proofs.lemmas.List.{length-set}
use Rattle.std.proofs.lemmas.List.Elements.{All-set}
use Rattle.std.proofs.lemmas.List.FromFn.{length-map-range_with_len}
use Rattle.key_hashes.specs.KeyHash.{key_hash}
use Rattle.row_keys.specs.Keys.{key_of}
use Rattle.group_numbers.proofs.TwinLaws.{one_more_twin, remembered_more}
use Rattle.group_numbers.proofs.twins.twins_by_hashes.Goals as goal

pub index-requires : goal.index-requires
index-requires c =
    let hashes = c.in_ok-hashes.hashes in
    let all : length hashes.items ≡ c.args.batch.now.rows
    = ap length c.in_ok-hashes.ensures ∙ length-map-range_with_len (λ row. key_hash 0 (key_of c.args.columns.now c.args.batch.now row)) 0 c.args.batch.now.rows in
    omega (arith, all, hashes.ok.0, c.loop-row-test.true)

pub loop-row-preserved : goal.loop-row-preserved
loop-row-preserved c =
    let l = c.loop-row in
    let remembered = l.remembered.items in
    let place = c.place_of_hash-place.result in record {
      twins = one_more_twin c.args.columns.now c.args.batch.now l.row l.twins.items c.push.new.self.items c.twin_of-twin.result l.invariant.twins c.in_ok-push.ensures.items c.twin_of-twin.ensures.before c.twin_of-twin.ensures.same;
      remembered = All-set (λ rows. rows ≤ l.row + 1) remembered place (l.row + 1) (omega arith) (remembered_more remembered l.row l.invariant.remembered);
      places = length-set remembered place (l.row + 1) ∙ l.invariant.places;
    }
