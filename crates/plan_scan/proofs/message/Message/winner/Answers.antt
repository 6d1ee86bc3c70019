use Rattle.std.proofs.Common.{◌≡◌, ◌∙◌, [], ◌∷◌, ap, sym, refl, subst, Option, None, Some, true}
use Rattle.pb_wire.specs.declared.record.Record.{Record}
use Rattle.pb_wire.specs.Payloads.{fields_of}
use Rattle.pb_wire.specs.Seen.{field_seen}
use Rattle.plan_scan.specs.Member.{is_member}
use Rattle.plan_scan.specs.Pieces.{IsFirstRecord}
use Rattle.plan_scan.proofs.MemberLaws.{winner_from, winner_start, winner_again, winner_changed, winner_end, none_before}
use Rattle.plan_scan.proofs.message.Message.winner.Goals as goal
use Rattle.plan_scan.proofs.message.Message.winner.Goals.{then-not-is_last, else-not-is_last}

pub loop-found-init : goal.loop-found-init
loop-found-init c = rw (c.records-since.ensures, c.records-behind.ensures, c.records-records.ensures) (record { behind = λ _. refl; whole = λ _. refl; won = winner_start (is_member c.args.oneof) (fields_of c.args.self.now.bytes) })

pub loop-found-preserved-then-has_member : goal.loop-found-preserved-then-has_member
loop-found-preserved-then-has_member c =
    let test = is_member c.args.oneof in
    let number = c.in-Some.found.number in
    let left = fields_of c.next.new.self in
    let member : test (field_seen c.in-Some.found) ≡ true = sym c.has_member.ensures ∙ c.if-has_member.true in
    let first : fields_of c.loop-found.records ≡ field_seen c.in-Some.found ∷ left = c.in-Some.ensures.first in
    let won = ap (λ behind. winner_from test (Some number) (fields_of c.if-not-is_last.since) (fields_of behind) left) c.again-behind.ensures
    ∙ (elim c.if-not-is_last.branch [
      | then-not-is_last w ↦
          ap (λ since. winner_from test (Some number) (fields_of since) left left) (w.since-is ∙ w.again-since.ensures)
          ∙ sym (winner_changed test c.loop-found.last (fields_of c.loop-found.since) (fields_of c.loop-found.behind) (field_seen c.in-Some.found) left member (sym c.is_last.ensures ∙ w.if-not-is_last.true))
      | else-not-is_last w ↦
          ap (λ since. winner_from test (Some number) (fields_of since) left left) w.since-is
          ∙ sym (winner_again test c.loop-found.last (fields_of c.loop-found.since) (fields_of c.loop-found.behind) (field_seen c.in-Some.found) left member (sym c.is_last.ensures ∙ w.if-not-is_last.false))
    ])
    ∙ ap (winner_from test c.loop-found.last (fields_of c.loop-found.since) (fields_of c.loop-found.behind)) (sym first)
    ∙ c.loop-found.invariant.won in
    record {
      behind = λ none. absurd (cc);
      whole = λ all. (elim c.if-not-is_last.branch [
        | then-not-is_last w ↦ w.since-is ∙ w.again-since.ensures ∙ c.loop-found.invariant.behind (none_before c.loop-found.last w.is_none-is_whole.result w.is_none-is_whole.ensures (sym w.is_whole-is ∙ all))
        | else-not-is_last w ↦ w.since-is ∙ c.loop-found.invariant.whole (sym w.is_whole-is ∙ all)
      ]);
      won = won;
    }

pub returns-in-Some-last-clause-member : goal.returns-in-Some-last-clause-member
returns-in-Some-last-clause-member c =
    let test = is_member c.args.oneof in
    let P : Option Record → Type 0 = IsFirstRecord c.loop-found.records c.next.new.self in
    let end : IsFirstRecord c.loop-found.records c.next.new.self None = subst P c.in_default.is c.next.ensures.first in
    sym (winner_end test c.in-Some-last.number (fields_of c.loop-found.since) (fields_of c.loop-found.behind))
    ∙ ap (λ last. winner_from test last (fields_of c.loop-found.since) (fields_of c.loop-found.behind) []) (sym c.in-Some-last.is)
    ∙ ap (winner_from test c.loop-found.last (fields_of c.loop-found.since) (fields_of c.loop-found.behind)) (sym end.0)
    ∙ c.loop-found.invariant.won
