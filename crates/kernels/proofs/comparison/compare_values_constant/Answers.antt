use Rattle.std.proofs.Common.{◌∙◌, ◌*◌, ◌++◌, ◌∷◌, [], length, map, sym, ap, arith}
use lib.Lanes.{mask_l}
use Rattle.std.proofs.lemmas.List.{length-map}
use Rattle.sub_types.specs.Bits.{bits_of}
use Rattle.kernels.specs.Numbers.{holds}
use Rattle.kernels.proofs.CompareLaws.{bytes_of, bytes_of-more, bits_of-bytes_of, packed_bytes, chunk-slices_constant}
use Rattle.kernels.proofs.comparison.compare_values_constant.Goals as goal

pub loop-i-init : goal.loop-i-init
loop-i-init g c = c.in_ok-bytes.ensures.items

pub loop-i-preserved : goal.loop-i-preserved
loop-i-preserved g c =
    let f = holds g.T.Native.number c.args.op in
    let tests = map (λ value. holds g.T.Native.number c.args.op value c.args.constant) c.args.a.now in
    c.in_ok-push.ensures.items
    ∙ ap (λ bytes. bytes ++ c.compare_eight.result ∷ []) c.loop-i.invariant
    ∙ ap (λ byte. bytes_of tests c.loop-i.i ++ byte ∷ []) (c.compare_eight.ensures ∙ ap mask_l (chunk-slices_constant f c.args.a.now c.args.constant c.deref.result.now (8 * c.loop-i.i) c.end_of_byte-to.result (c.deref.ensures.value ∙ c.in_ok-constants.ensures) (omega arith) c.end_of_byte-to.ensures))
    ∙ sym (bytes_of-more tests c.loop-i.i)

pub from_packed-requires : goal.from_packed-requires
from_packed-requires g c =
    packed_bytes (map (λ value. holds g.T.Native.number c.args.op value c.args.constant) c.args.a.now) (length c.args.a.now) c.loop-i.i c.loop-i.bytes.items c.loop-i.invariant (omega arith) (omega arith)

pub returns : goal.returns
returns g c =
    let tests = map (λ value. holds g.T.Native.number c.args.op value c.args.constant) c.args.a.now in
    c.from_packed.ensures ∙ ap (bits_of (length c.args.a.now)) c.loop-i.invariant ∙ bits_of-bytes_of tests (length c.args.a.now) c.loop-i.i (length-map c.args.a.now (λ value. holds g.T.Native.number c.args.op value c.args.constant)) (omega arith)
