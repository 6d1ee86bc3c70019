use Rattle.std.proofs.Common.{◌≡◌, ◌∙◌, ◌/◌, Some, true, false, length, sym, ap}
use Rattle.std.proofs.Math.Facts.{Fits-lt-pow}
use Rattle.sub_types.specs.OptionSteps.{when}
use Rattle.arrow_decode.specs.Offsets.{rises, risen}
use Rattle.arrow_decode.proofs.ShortLaws.{chunks_risen}
use Rattle.arrow_decode.proofs.text.find_short_ends.Goals as goal

pub returns-then-not-short_rise : goal.returns-then-not-short_rise
returns-then-not-short_rise c =
    let law = chunks_risen (length c.args.buffer.now / 4) c.args.buffer.now c.args.begin c.args.most c.requires (λ i. Fits-lt-pow (c.type_inv.buffer i)) in
    let falls : rises 0 c.in_ok-places.places.items c.args.most ≡ false = ap (λ es. rises 0 es c.args.most) (sym c.deref.ensures.value) ∙ sym c.if-not-short_rise.ensures in
    sym (ap (λ b. when b (Some c.in_ok-places.places.items)) falls) ∙ ap (risen c.args.most) c.in_ok-places.ensures ∙ law

pub returns : goal.returns
returns c =
    let law = chunks_risen (length c.args.buffer.now / 4) c.args.buffer.now c.args.begin c.args.most c.requires (λ i. Fits-lt-pow (c.type_inv.buffer i)) in
    let rising : rises 0 c.in_ok-places.places.items c.args.most ≡ true = ap (λ es. rises 0 es c.args.most) (sym c.deref.ensures.value) ∙ sym c.if-not-short_rise.ensures in
    ap (λ ends. Some ends) c.from_narrow.ensures ∙ sym (ap (λ b. when b (Some c.in_ok-places.places.items)) rising) ∙ ap (risen c.args.most) c.in_ok-places.ensures ∙ law
