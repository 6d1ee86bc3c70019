use Rattle.std.proofs.Common.{rules, ◌≡◌, ◌∙◌, ap}
use Rattle.std.specs.Int.{w128, to_le_bytes, cast_unsigned}
use Rattle.row_keys.proofs.WrittenLaws.{tagged}
use Rattle.row_keys.proofs.bytes.push_dec.Goals as goal

pub returns-clause-bytes : goal.returns-clause-bytes
returns-clause-bytes c =
    let bits : c.cast_unsigned.result ≡ cast_unsigned w128 c.in-Some.number = search rules in
    rw c.in-Some.is (tagged c.args.bytes.now.items c.push-2.new.self.items c.extend_from_slice.new.self.items c.to_le_bytes.result (to_le_bytes w128 (cast_unsigned w128 c.in-Some.number)) 4 c.in_ok-push-2.ensures.items c.in_ok-extend_from_slice.ensures.items (c.to_le_bytes.ensures ∙ ap (to_le_bytes w128) bits))
