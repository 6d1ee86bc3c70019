use Rattle.std.proofs.Common.{◌∙◌, ◌*◌, ◌++◌, ◌∷◌, [], length, sym, ap, arith}
use lib.Lanes.{mask_l}
use lib.Lanes.{zip2}
use Rattle.std.proofs.lemmas.Simd.{length-zip2}
use Rattle.sub_types.specs.Bits.{bits_of}
use Rattle.kernels.specs.Numbers.{holds}
use Rattle.kernels.proofs.CompareLaws.{bytes_of, bytes_of-more, bits_of-bytes_of, packed_bytes, chunk-slices}
use Rattle.kernels.proofs.comparison.compare_values.Goals as goal

pub loop-i-init : goal.loop-i-init
loop-i-init g c = c.in_ok-bytes.ensures.items

pub loop-i-preserved : goal.loop-i-preserved
loop-i-preserved g c =
    let f = holds g.T.Native.number c.args.op in
    let tests = zip2 (holds g.T.Native.number c.args.op) c.args.a.now c.args.b.now in
    c.in_ok-push.ensures.items
    ∙ ap (λ bytes. bytes ++ c.compare_eight.result ∷ []) c.loop-i.invariant
    ∙ ap (λ byte. bytes_of tests c.loop-i.i ++ byte ∷ []) (c.compare_eight.ensures ∙ ap mask_l (chunk-slices f c.args.a.now c.args.b.now (8 * c.loop-i.i) c.end_of_byte-to.result c.requires (omega arith) c.end_of_byte-to.ensures))
    ∙ sym (bytes_of-more tests c.loop-i.i)

pub from_packed-requires : goal.from_packed-requires
from_packed-requires g c =
    packed_bytes (zip2 (holds g.T.Native.number c.args.op) c.args.a.now c.args.b.now) (length c.args.a.now) c.loop-i.i c.loop-i.bytes.items c.loop-i.invariant (omega arith) (omega arith)

pub returns : goal.returns
returns g c =
    let tests = zip2 (holds g.T.Native.number c.args.op) c.args.a.now c.args.b.now in
    c.from_packed.ensures ∙ ap (bits_of (length c.args.a.now)) c.loop-i.invariant ∙ bits_of-bytes_of tests (length c.args.a.now) c.loop-i.i (length-zip2 (holds g.T.Native.number c.args.op) c.args.a.now c.args.b.now c.requires) (omega arith)
