use Rattle.std.proofs.Common.{◌≡◌, ◌-◌, ◌++◌, ◌∙◌, ℕ, List, replicate, ap, arith, length}
use Rattle.std.specs.Int.{w64, cast_unsigned}
use Rattle.std.proofs.lemmas.Int.{ints}
use Rattle.fb_bytes.specs.Layout.{round_up}
use mir.Val.{to_z}
use Rattle.arrow_write.proofs.BodyLaws.{Puts-one}
use Rattle.arrow_write.proofs.body.Body.put.Goals as goal

pub returns-clause-put : goal.returns-clause-put
returns-clause-put c =
    let old = c.args.self.now in
    let buffer = c.args.buffer.now in
    let bytes = c.in_ok-fill_up.ensures ∙ ap (λ (front : List ℕ). front ++ replicate (round_up (length buffer) - length buffer) 0) c.in_ok-extend_from_slice.ensures.items in
    let place : cast_unsigned w64 (to_z w64 c.len-place.result) ≡ length old.bytes.items = omega (arith, ints, c.len-place.ensures, old.bytes.ok.0) in
    let long : cast_unsigned w64 (to_z w64 (length buffer)) ≡ length buffer = omega (arith, ints) in
    Puts-one old _ buffer (to_z w64 c.len-place.result) (to_z w64 (length buffer)) bytes c.in_ok-push.ensures.items place long
