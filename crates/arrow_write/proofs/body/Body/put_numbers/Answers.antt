use Rattle.std.proofs.Common.{◌≡◌, ◌<◌, ◌^◌, ◌-◌, ◌++◌, ◌∙◌, ℕ, List, replicate, ap, arith, length}
use Rattle.std.specs.List.{flat_map}
use Rattle.std.specs.Int.{w64, cast_unsigned}
use Rattle.std.proofs.lemmas.Int.{ints, of_z-to_z}
use Rattle.std.proofs.lemmas.List.{length-append}
use Rattle.fb_bytes.specs.Layout.{round_up}
use mir.Val.{to_z}
use Rattle.arrow_write.proofs.BodyLaws.{Puts-one}
use Rattle.arrow_write.proofs.body.Body.put_numbers.Goals as goal

pub returns-clause-put : goal.returns-clause-put
returns-clause-put g c =
    let old = c.args.self.now in
    let buffer = flat_map g.T.Native.bytes_of c.args.numbers.now in
    let len = c.in_ok-len.len in
    let same : len ≡ length buffer = c.in_ok-len.ensures.len in
    let bytes = c.in_ok-fill_up.ensures ∙ ap (λ (front : List ℕ). front ++ replicate (round_up len - len) 0) c.in_ok-len.ensures.bytes
    ∙ ap (λ n. (old.bytes.items ++ buffer) ++ replicate (round_up n - n) 0) same in
    let place : cast_unsigned w64 (to_z w64 c.len-place.result) ≡ length old.bytes.items = omega (arith, ints, c.len-place.ensures, old.bytes.ok.0) in
    let small : len < 2 ^ 64 = omega (arith, same, ap length c.in_ok-len.ensures.bytes, length-append old.bytes.items buffer, c.append_numbers.new.bytes.ok.0) in
    let long : cast_unsigned w64 (to_z w64 len) ≡ length buffer = of_z-to_z w64 len small ∙ same in
    Puts-one old _ buffer (to_z w64 c.len-place.result) (to_z w64 len) bytes c.in_ok-push.ensures.items place long
