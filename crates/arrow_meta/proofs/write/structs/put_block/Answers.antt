use Rattle.std.proofs.Common.{◌++◌, ◌∙◌, ap, refl, replicate, rules}
use Rattle.std.specs.Int.{w32, w64, cast_unsigned}
use Rattle.std.proofs.lemmas.Int.{to_z-of_z}
use Rattle.byteorder.specs.Endian.{little_bytes}
use Rattle.arrow_meta.proofs.Lengths.{appended}
use Rattle.arrow_meta.proofs.write.structs.put_block.Goals as goal

pub returns-clause-bytes : goal.returns-clause-bytes
returns-clause-bytes c =
    let out = c.args.out.now.items in
    let offset = little_bytes 8 (cast_unsigned w64 c.args.block.now.offset) in
    let meta_len = little_bytes 4 (cast_unsigned w32 c.args.block.now.meta_len) in
    let body_len = little_bytes 8 (cast_unsigned w64 c.args.block.now.body_len) in
    let e = ap (λ z. out ++ little_bytes 8 (cast_unsigned w64 z)) (to_z-of_z w64 c.args.block.now.offset (search rules)) in
    let m = ap (λ z. little_bytes 4 (cast_unsigned w32 z)) (to_z-of_z w32 c.args.block.now.meta_len (search rules)) in
    let b = ap (λ z. little_bytes 8 (cast_unsigned w64 z)) (to_z-of_z w64 c.args.block.now.body_len (search rules)) in
    let f = appended out c.put_i64.new.out.items c.put_i32.new.out.items offset meta_len _ (c.in_ok-put_i64.ensures ∙ e) c.in_ok-put_i32.ensures m in
    let g = appended out c.put_i32.new.out.items c.put_i32-2.new.out.items (offset ++ meta_len) (replicate 4 0) (replicate 4 0) f c.in_ok-put_i32-2.ensures refl in
    appended out c.put_i32-2.new.out.items c.put_i64-2.new.out.items ((offset ++ meta_len) ++ replicate 4 0) body_len _ g c.in_ok-put_i64-2.ensures b
