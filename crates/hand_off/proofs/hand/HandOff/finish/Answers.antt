use Rattle.std.proofs.Common.{◌≡◌, arith, sum_by, ap}
use Rattle.std.proofs.lemmas.List.Sums.{sum_by-append}
use Rattle.hand_off.specs.Hand.{PassView}
use Rattle.hand_off.proofs.Popping.{popped_sum, popped_all}
use Rattle.hand_off.proofs.hand.HandOff.finish.Goals as goal

pub loop-pass-init : goal.loop-pass-init
loop-pass-init g c =
    let items = c.in-Some.ensures.items in
    let of = popped_all (λ (p : PassView _). p.of ≡ c.args.self) c.args.passes.items c.pop.new.self.items c.in-Some.all items c.requires.of in
    let share = popped_sum (λ (p : PassView _). p.share) c.args.passes.items c.pop.new.self.items c.in-Some.all items in
    record {
      of = of.0;
      mine = of.1;
      shares = omega (arith, share, c.requires.all);
      offered = λ f. omega (arith, popped_sum (λ (p : PassView _). sum_by f p.offered) c.args.passes.items c.pop.new.self.items c.in-Some.all items);
      taken = λ f. omega (arith, popped_sum (λ (p : PassView _). sum_by f p.taken) c.args.passes.items c.pop.new.self.items c.in-Some.all items);
    }

pub loop-pass-preserved : goal.loop-pass-preserved
loop-pass-preserved g c =
    let before = c.loop-pass.passes.items in
    let rest = c.pop-in-loop-pass.new.self.items in
    let pass = c.in-Some-pop.pass in
    let all = c.loop-pass.all in
    let items = c.in-Some-pop.ensures.items in
    let of = popped_all (λ (p : PassView _). p.of ≡ c.args.self) before rest pass items c.loop-pass.invariant.of in
    let share = popped_sum (λ (p : PassView _). p.share) before rest pass items in
    let joined = c.join.ensures in
    record {
      of = of.0;
      mine = ap (λ (p : PassView _). p.of) joined;
      shares = omega (arith, share, c.loop-pass.invariant.shares, ap (λ (p : PassView _). p.share) joined);
      offered = λ f. omega (arith, popped_sum (λ (p : PassView _). sum_by f p.offered) before rest pass items, c.loop-pass.invariant.offered f, ap (λ (p : PassView _). sum_by f p.offered) joined, sum_by-append f all.offered pass.offered);
      taken = λ f. omega (arith, popped_sum (λ (p : PassView _). sum_by f p.taken) before rest pass items, c.loop-pass.invariant.taken f, ap (λ (p : PassView _). sum_by f p.taken) joined, sum_by-append f all.taken pass.taken);
    }
