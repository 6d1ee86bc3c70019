use Rattle.std.proofs.Common.{◌≡◌, ◌∙◌, ◌∷◌, ◌-◌, suc, List, ℕ, sym, ap, true, arith}
use Rattle.std.specs.List.{list_all}
use Rattle.plan_scan.specs.Member.{owner}
use Rattle.plan_scan.specs.Scanned.{Scanned, is_readable}
use Rattle.plan_scan.specs.Choice.{Chosen}
use Rattle.plan_scan.specs.Pieces.{pieces_of}
use Rattle.plan_scan.proofs.PieceLaws.{readable_message, readable_children, level_left}
use Rattle.plan_scan.proofs.message.Message.choice_at.Goals as goal
use Rattle.plan_scan.proofs.message.Message.choice_at.Goals.{In-Some}

abbrev pieces_in : In-Some → List (List ℕ)
pieces_in c = c.in-Some.first.now ∷ c.next.new.self

-- all pieces of the child are readable one level further down
all_pieces : (c : In-Some) → list_all (is_readable c.args.self.now.below (owner c.args.oneof)) (pieces_in c) ≡ true
all_pieces c =
    let own = c.self.inside.first.now ∷ pieces_of c.self.inside.later.now in
    let message = readable_message c.self.inside.shape c.self.inside.below own c.args.self.now c.self.view_is c.self.invariant.0 in
    readable_children c.args.self.now c.args.number (owner c.args.oneof) (pieces_in c) message c.requires.shape (sym c.in-Some.ensures.given ∙ c.blocks-blocks.ensures)

below_is : (c : In-Some) → c.self.inside.below ≡ c.args.self.now.below
below_is c = ap (λ (m : Scanned). m.below) c.self.view_is

some_left : (c : In-Some) → suc (c.self.inside.below - 1) ≡ c.args.self.now.below
some_left c = omega (arith, level_left c.args.self.now.below (owner c.args.oneof) _ _ (all_pieces c), below_is c)

pub overflow_sub-above : goal.overflow_sub-above
overflow_sub-above c = let here : In-Some = (goal.at.overflow_sub-above c).In-Some in omega (arith, level_left c.args.self.now.below (owner c.args.oneof) _ _ (all_pieces here), below_is here)

pub new-requires-clause-readable : goal.new-requires-clause-readable
new-requires-clause-readable c =
    let here : In-Some = (goal.at.new-requires-clause-readable c).In-Some in
    ap (λ n. list_all (is_readable n (owner c.args.oneof)) (pieces_in here)) (some_left here) ∙ all_pieces here

pub returns-clause-below : goal.returns-clause-below
returns-clause-below c = let here : In-Some = (goal.at.returns-clause-below c).In-Some in omega (arith, some_left here, ap (λ (m : Chosen). m.below) c.in_ok-new.ensures)
