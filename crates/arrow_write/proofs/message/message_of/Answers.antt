use Rattle.std.proofs.Common.{◌≡◌, ◌++◌, ◌∙◌, length, ap, arith}
use Rattle.std.specs.Int.{w64, cast_unsigned}
use mir.Val.{to_z, of_z}
use Rattle.arrow_meta.specs.File.{framed}
use Rattle.arrow_write.proofs.MessageLaws.{message_is, kept_number}
use Rattle.arrow_write.proofs.message.message_of.Goals as goal

pub returns : goal.returns
returns c = λ types rows long has.
    let body = c.args.body in
    let metadata = c.in_ok-metadata.metadata.items in
    let len = to_z w64 (of_z w64 c.cast_signed.result) in
    let body_len = to_z w64 (of_z w64 c.cast_signed-2.result) in
    let count : cast_unsigned w64 len ≡ c.args.rows = kept_number c.args.rows c.cast_signed.result c.cast_signed.ensures c.ranges.rows.fits in
    let body_size : c.len-body_len.result ≡ length body.bytes.items = omega (arith, c.len-body_len.ensures, body.bytes.ok.0) in
    let size : cast_unsigned w64 body_len ≡ length body.bytes.items = kept_number c.len-body_len.result c.cast_signed-2.result c.cast_signed-2.ensures c.len-body_len.type_inv ∙ body_size in
    let meta_size : c.len.result ≡ length metadata = omega (arith, c.len.ensures, c.in_ok-metadata.metadata.ok.0) in
    message_is types rows body _ metadata c.args.rows len body_len c.from_vec.result c.from_vec-2.result has long count c.from_vec.ensures c.from_vec-2.ensures size c.in_ok-metadata.ensures.bytes
    (c.in_ok-put_message.ensures ∙ ap (λ front. front ++ framed c.deref.result.now c.deref-2.result.now) c.new-bytes.ensures.items
    ∙ ap (λ m. framed m c.deref-2.result.now) c.deref.ensures.value ∙ ap (framed metadata) c.deref-2.ensures.value) meta_size body_size (omega (arith, c.len.ensures, c.in_ok-metadata.ensures.small))
