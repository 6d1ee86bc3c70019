use Rattle.std.proofs.Common.{◌≡◌, ◌∙◌, ◌∷◌, sym, ap, subst}
use Rattle.std.specs.List.{list_all, concat}
use Rattle.pb_wire.specs.Payloads.{fields_of, is_whole, chosen_member}
use Rattle.plan_scan.specs.Member.{is_member, owner}
use Rattle.plan_scan.specs.Choice.{WonSoFar, IsWonMessage, IsReadableWinner, nothing_won, won_over, won_of}
use Rattle.plan_scan.proofs.PieceLaws.{wholes, pieces_well}
use Rattle.plan_scan.proofs.WonLaws.{over_all}
use Rattle.plan_scan.proofs.ChoiceLaws.{only_members, readable_winner}
use Rattle.plan_scan.proofs.choice.Choice.new.Goals as goal
use Rattle.plan_scan.proofs.choice.Choice.new.Goals.{In_ok-won}

pub choose-requires : goal.choose-requires
choose-requires c = ap (λ later. list_all is_whole (c.args.first.now ∷ later)) c.again.ensures ∙ wholes c.args.below (owner c.args.oneof) (c.args.first.now ∷ c.args.later) c.requires.readable

-- the winner is the member that is chosen
won_is : (c : In_ok-won) → c.in_ok-won.won ≡ won_of (chosen_member (is_member c.args.oneof) (fields_of (concat (c.args.first.now ∷ c.args.later))))
won_is c =
    c.in_ok-won.ensures
    ∙ ap (λ later. won_over (is_member c.args.oneof) nothing_won (fields_of (concat (c.args.first.now ∷ later)))) c.again.ensures
    ∙ over_all (is_member c.args.oneof) (only_members c.args.oneof c.requires.messages) (fields_of (concat (c.args.first.now ∷ c.args.later)))

pub won_message-requires : goal.won_message-requires
won_message-requires c =
    let here : In_ok-won = (goal.at.won_message-requires c).In_ok-won in
    subst (IsReadableWinner c.args.oneof c.args.below) (sym (won_is here)) (readable_winner c.args.oneof c.args.below _ (pieces_well c.args.below (owner c.args.oneof) (c.args.first.now ∷ c.args.later) c.requires.readable))

pub invariant_of-result : goal.invariant_of-result
invariant_of-result c =
    let here : In_ok-won = (goal.at.invariant_of-result c).In_ok-won in
    let P : WonSoFar → Type 0 = λ won. IsWonMessage c.args.oneof c.args.below won c.in_ok-message.message in
    (ap (λ (w : WonSoFar). w.number) (c.won.view_is ∙ won_is here), subst P (won_is here) c.in_ok-message.ensures)
