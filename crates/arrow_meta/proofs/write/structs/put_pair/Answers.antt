use Rattle.std.proofs.Common.{◌++◌, ◌∙◌, ap, rules}
use Rattle.std.specs.Int.{w64, cast_unsigned}
use Rattle.std.proofs.lemmas.Int.{to_z-of_z}
use Rattle.byteorder.specs.Endian.{little_bytes}
use Rattle.arrow_meta.proofs.Lengths.{appended}
use Rattle.arrow_meta.proofs.write.structs.put_pair.Goals as goal

pub returns-clause-bytes : goal.returns-clause-bytes
returns-clause-bytes c =
    let out = c.args.out.now.items in
    let first = ap (λ z. little_bytes 8 (cast_unsigned w64 z)) (to_z-of_z w64 c.args.pair.now.0 (search rules)) in
    let second = ap (λ z. little_bytes 8 (cast_unsigned w64 z)) (to_z-of_z w64 c.args.pair.now.1 (search rules)) in
    appended out c.put_i64.new.out.items c.put_i64-2.new.out.items (little_bytes 8 (cast_unsigned w64 c.args.pair.now.0)) (little_bytes 8 (cast_unsigned w64 c.args.pair.now.1)) _
    (c.in_ok-put_i64.ensures ∙ ap (λ bytes. out ++ bytes) first) c.in_ok-put_i64-2.ensures second
