use Rattle.std.proofs.Common.{◌∙◌, ◌&&◌, sym, ap, length}
use Rattle.sub_types.proofs.BitLaws.{refilled}
use Rattle.sub_types.proofs.StepLaws.{same_bytes, zipped_view, zip2-both}
use Rattle.sub_types.specs.Bits.{bits_of}
use Rattle.sub_types.proofs.bits.Bits.mask.Goals as goal

pub and_bytes-requires : goal.and_bytes-requires
and_bytes-requires c =
    let own = c.self.inside in
    let which = c.which.inside in
    ap length c.deref.ensures.value
    ∙ same_bytes own.bytes.items which.bytes.items own.len which.len c.args.self.now c.args.which.now c.self.view_is c.which.view_is c.requires c.self.invariant c.which.invariant
    ∙ sym (ap length c.deref_mut.ensures.value)

pub returns : goal.returns
returns c =
    let own = c.self.inside in
    let which = c.which.inside in
    let size = ap length c.deref_mut.ensures.value in
    ap (bits_of own.len) (refilled own.bytes.len own.bytes.items c.and_bytes.new.bytes (c.and_bytes.ensures.len ∙ size) own.bytes.ok.0)
    ∙ zipped_view ◌&&◌ own.bytes.items which.bytes.items c.deref_mut.result.now c.deref.result.now c.and_bytes.new.bytes own.len which.len c.args.self.now c.args.which.now c.deref_mut.ensures.value c.deref.ensures.value c.self.view_is c.which.view_is c.requires c.self.invariant c.and_bytes.ensures.zipped
    ∙ zip2-both c.args.self.now c.args.which.now
