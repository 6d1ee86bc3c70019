use Rattle.std.proofs.Common.{◌≡◌, ◌∙◌, ◌∷◌, ◌<◌, ◌-◌, suc, sym, ap, true, Some, Option, arith, [], ◌++◌, Bor, List, ℕ}
use Rattle.std.specs.List.{list_all}
use Rattle.std.specs.Option.{option_copied, option_to_list}
use Rattle.plan_scan.specs.Choice.{WonSoFar}
use Rattle.plan_scan.specs.Member.{owner}
use Rattle.plan_scan.specs.Table.{use_of, HoldsMessage}
use Rattle.plan_scan.specs.Scanned.{is_readable}
use Rattle.plan_scan.specs.Pieces.{pieces_of, later_of}
use Rattle.plan_scan.proofs.PieceLaws.{level_left}
use Rattle.plan_scan.proofs.ChoiceLaws.{readable_pieces, later_own, won_message_is}
use Rattle.plan_scan.proofs.choice.won_message.Goals as goal
use Rattle.plan_scan.proofs.choice.won_message.Goals.{In-Some-first}

holds_shape : (c : In-Some-first) → HoldsMessage (owner c.args.oneof) c.in-Some.number c.in-Message.shape
holds_shape c = ap (λ s. use_of s c.in-Some.number) (sym c.owner.ensures) ∙ sym c.use_of_field.ensures ∙ c.in-Message.is

number_is : (c : In-Some-first) → c.args.won.number ≡ Some c.in-Some.number
number_is c = ap (λ (w : WonSoFar). w.number) (sym c.won.view_is) ∙ c.in-Some.is

pieces_are : (c : In-Some-first) → c.args.won.pieces ≡ c.in-Some-first.first.now ∷ pieces_of (later_of c.won.inside.more.items [])
pieces_are c =
    ap (λ (w : WonSoFar). w.pieces) (sym c.won.view_is)
    ∙ ap (λ (first : Option (Bor (List ℕ))). option_to_list (option_copied first) ++ pieces_of c.won.inside.more.items) c.in-Some-first.is
    ∙ ap (λ more. c.in-Some-first.first.now ∷ pieces_of more) (sym (later_own c.won.inside.more.items))

all_readable : (c : In-Some-first) → list_all (is_readable c.args.below c.in-Message.shape) (c.in-Some-first.first.now ∷ pieces_of (later_of c.won.inside.more.items [])) ≡ true
all_readable c = ap (list_all (is_readable c.args.below c.in-Message.shape)) (sym (pieces_are c)) ∙ readable_pieces c.args.oneof c.args.below c.args.won c.in-Some.number c.in-Message.shape c.requires (number_is c) (holds_shape c)

some_left : (c : In-Some-first) → 0 < c.args.below
some_left c = level_left c.args.below c.in-Message.shape _ _ (all_readable c)

pub overflow_sub-below : goal.overflow_sub-below
overflow_sub-below c = omega (arith, some_left (goal.at.overflow_sub-below c).In-Some-first)

pub new-requires : goal.new-requires
new-requires c =
    let here : In-Some-first = (goal.at.new-requires c).In-Some-first in
    let levels : suc (c.args.below - 1) ≡ c.args.below = omega (arith, some_left here) in
    ap (λ n. list_all (is_readable n c.in-Message.shape) (c.in-Some-first.first.now ∷ pieces_of (later_of c.won.inside.more.items []))) levels ∙ all_readable here

pub returns : goal.returns
returns c =
    let here : In-Some-first = (goal.at.returns c).In-Some-first in
    won_message_is c.args.oneof c.args.below c.args.won c.in-Some.number c.in-Message.shape _ _ c.in_ok-new.field-0 (number_is here) (pieces_are here) (holds_shape here) (some_left here) c.in_ok-new.ensures
