use Rattle.std.proofs.Common.{◌++◌, ◌∷◌, [], ◌%◌, ◌/◌, ◌*◌, ◌^◌, ◌∙◌, ℕ, List, get_or, ap, arith}
use Rattle.arrow_write.proofs.BitBytes.{packed-whole, packed-rest}
use Rattle.arrow_write.proofs.packing.first_bits.Goals as goal

pub returns-then-rest-eq0 : goal.returns-then-rest-eq0
returns-then-rest-eq0 c =
    packed-whole c.args.len c.args.bytes.now c.in_ok-out.out.items c.requires (λ k. (c.type_inv.bytes k).fits) c.if-rest-eq0.true c.in_ok-out.ensures.items

pub returns : goal.returns
returns c =
    packed-rest c.args.len c.args.bytes.now c.push.new.self.items c.requires (λ k. (c.type_inv.bytes k).fits) (omega arith)
    (c.in_ok-push.ensures.items ∙ ap (λ (front : List ℕ). front ++ (get_or c.args.bytes.now (c.args.len / 8) 0 % (1 * 2 ^ (c.args.len % 8) % 256)) ∷ []) c.in_ok-out.ensures.items)
