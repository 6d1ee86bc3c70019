use Rattle.std.proofs.Common.{◌≡◌, ◌∙◌, ◌∷◌, [], sym, ap, refl}
use Rattle.std.specs.List.{concat, list_all}
use Rattle.std.proofs.lemmas.Bool.{and_parts}
use Rattle.pb_wire.specs.Payloads.{fields_of, is_whole}
use Rattle.pb_wire.proofs.FieldLaws.{none_left}
use Rattle.plan_scan.specs.Member.{is_member}
use Rattle.plan_scan.specs.Choice.{won_over, nothing_won}
use Rattle.plan_scan.proofs.WonLaws.{over_piece}
use Rattle.plan_scan.proofs.won.choose.Goals as goal

pub loop-piece-init : goal.loop-piece-init
loop-piece-init c =
    let test = is_member c.args.oneof in
    let whole = and_parts _ _ c.requires in
    record {
      whole = whole.1;
      won =
          ap (λ won. won_over test won (fields_of (concat c.args.later))) (c.in_ok-add_all.ensures ∙ ap (λ won. won_over test won (fields_of c.args.first.now)) c.new-won.ensures)
          ∙ sym (over_piece test nothing_won c.args.first.now c.args.later whole.0);
    }

pub loop-piece-preserved : goal.loop-piece-preserved
loop-piece-preserved c =
    let test = is_member c.args.oneof in
    let here : c.loop-piece.later ≡ c.in-Some.piece.now ∷ c.next.new.self = c.in-Some.ensures.given in
    let whole = and_parts _ _ (ap (list_all is_whole) (sym here) ∙ c.loop-piece.invariant.whole) in
    record {
      whole = whole.1;
      won =
          ap (λ won. won_over test won (fields_of (concat c.next.new.self))) c.in_ok-add_all-2.ensures
          ∙ sym (over_piece test c.loop-piece.won c.in-Some.piece.now c.next.new.self whole.0)
          ∙ ap (λ later. won_over test c.loop-piece.won (fields_of (concat later))) (sym here)
          ∙ c.loop-piece.invariant.won;
    }

pub returns : goal.returns
returns c =
    let test = is_member c.args.oneof in
    let end : c.loop-piece.later ≡ [] = c.in_default.ensures.none refl in
    ap (won_over test c.loop-piece.won) (sym (none_left (concat c.loop-piece.later) (ap concat end)).0) ∙ c.loop-piece.invariant.won
