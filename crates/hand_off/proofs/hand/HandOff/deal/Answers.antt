use Rattle.std.proofs.Common.{◌≡◌, [], ap, arith, ◌∙◌}
use Rattle.hand_off.specs.Hand.{PassView}
use Rattle.hand_off.proofs.Popping.{popped_sum, pushed_all}
use Rattle.hand_off.proofs.hand.HandOff.deal.Goals as goal

pub loop-preserved : goal.loop-preserved
loop-preserved g c =
    let before = c.loop.invariant in
    let left = c.split.ensures.left in
    let right = c.split.ensures.right in
    let items = c.push_reserved.ensures.items in
    let share = ap (λ (p : PassView _). p.share) left in
    let new_share = ap (λ (p : PassView _). p.share) right in
    record {
      mine = ap (λ (p : PassView _). p.of) left ∙ before.mine;
      fresh = (ap (λ (p : PassView _). p.offered) left ∙ before.fresh.0, ap (λ (p : PassView _). p.taken) left ∙ before.fresh.1);
      of = pushed_all (λ (p : PassView _). p.of ≡ c.args.self.now) _ _ _ items before.of (ap (λ (p : PassView _). p.of) right);
      each = pushed_all (λ (p : PassView _). (p.offered ≡ []) × (p.taken ≡ []) × (p.share ≡ 1)) _ _ _ items before.each (ap (λ (p : PassView _). p.offered) right, ap (λ (p : PassView _). p.taken) right, new_share);
      shares = omega (arith, share, before.shares, c.push_reserved.ensures.len);
      whole = omega (arith, share, new_share, before.whole, before.shares, popped_sum (λ (p : PassView _). p.share) _ _ _ items);
      placed = omega (arith, before.placed, c.push_reserved.ensures.len);
      room = omega (arith, before.room, c.push_reserved.ensures.capacity);
    }
