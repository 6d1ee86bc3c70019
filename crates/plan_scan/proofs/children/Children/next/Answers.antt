use Rattle.std.proofs.Common.{◌≡◌, ◌∙◌, ◌∷◌, ◌<◌, ◌-◌, suc, sym, ap, refl, true, arith, append-nil}
use Rattle.std.specs.List.{list_all}
use Rattle.std.proofs.lemmas.Bool.{and_parts, and_from}
use Rattle.plan_scan.specs.Scanned.{Scanned, Left, is_readable}
use Rattle.plan_scan.proofs.PieceLaws.{level_left}
use Rattle.plan_scan.proofs.children.Children.next.Goals as goal
use Rattle.plan_scan.proofs.children.Children.next.Goals.{In_ok-block}

-- the messages that are left, this one among them, are readable
all_left : (c : In_ok-block) → list_all (is_readable c.self.inside.above c.self.inside.shape) (c.in_ok-block.block.now ∷ c.next.new.self) ≡ true
all_left c = ap (list_all (is_readable c.self.inside.above c.self.inside.shape)) (sym c.in_ok-block.ensures.given) ∙ c.self.invariant

some_left : (c : In_ok-block) → 0 < c.self.inside.above
some_left c = level_left c.self.inside.above c.self.inside.shape c.in_ok-block.block.now c.next.new.self (all_left c)

pub overflow_sub-self-inside : goal.overflow_sub-self-inside
overflow_sub-self-inside c = omega (arith, some_left (goal.at.overflow_sub-self-inside c).In_ok-block)

pub of_pieces-requires : goal.of_pieces-requires
of_pieces-requires c =
    let here : In_ok-block = (goal.at.of_pieces-requires c).In_ok-block in
    let levels : suc (c.self.inside.above - 1) ≡ c.self.inside.above = omega (arith, some_left here) in
    and_from _ _ (ap (λ n. is_readable n c.self.inside.shape c.in_ok-block.block.now) levels ∙ (and_parts _ _ (all_left here)).0) refl

pub returns : goal.returns
returns c =
    let here : In_ok-block = (goal.at.returns c).In_ok-block in
    let shape = ap (λ (left : Left). left.shape) c.self.view_is in
    let above = ap (λ (left : Left). left.above) c.self.view_is in
    let bytes : c.of_pieces.result.bytes ≡ c.in_ok-block.block.now =
    ap (λ (m : Scanned). m.bytes) c.of_pieces.ensures ∙ append-nil c.in_ok-block.block.now in (
      ap (λ (m : Scanned). m.shape) c.of_pieces.ensures ∙ shape,
      omega (arith, ap (λ (m : Scanned). m.below) c.of_pieces.ensures, some_left here, above),
      sym (ap (λ (left : Left). left.blocks) c.self.view_is) ∙ c.in_ok-block.ensures.given ∙ ap (λ b. b ∷ c.next.new.self) (sym bytes),
      shape,
      above,
    )
