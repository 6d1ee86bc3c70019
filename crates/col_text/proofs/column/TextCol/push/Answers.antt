use Rattle.std.proofs.Common.{◌≡◌, ◌∙◌, ◌++◌, ◌∷◌, [], ℕ, List, Bor, refl, ap, unwrap_or, length, length-append, arith}
use Rattle.std.specs.Option.{option_copied}
use Rattle.col_text.specs.Text.{HoldsTexts}
use Rattle.col_text.proofs.TextLaws.{HoldsTexts-seen, HoldsTexts-shown, HoldsTexts-push, seen, now-unwrap_or, is_some-option_copied}
use Rattle.col_text.proofs.column.TextCol.push.Goals as goal

-- the buffers hold the column with the value
pushed : (c : goal.In_default) → HoldsTexts (c.args.self.now ++ option_copied c.args.value ∷ []) c.push_end.new.ends c.extend_from_slice.new.self.items c.push_end.new.valid
pushed c =
    let own = c.self.inside in
    let text = unwrap_or (option_copied c.args.value) [] in
    let stored : c.unwrap_or.result.now ≡ text = ap (λ (lent : Bor (List ℕ)). lent.now) c.unwrap_or.ensures ∙ now-unwrap_or c.args.value _ refl in
    let grown = c.extend_from_slice.new.self in
    let long : c.len-end.result ≡ length (own.bytes.items ++ text) =
    omega (arith, c.len-end.ensures, grown.ok, ap length c.in_ok-extend_from_slice.ensures.items, length-append own.bytes.items c.unwrap_or.result.now, length-append own.bytes.items text, ap length stored) in
    let holds = HoldsTexts-seen c.args.self.now own.ends own.bytes.items own.valid c.self.view_is c.self.invariant in
    rw (c.in_default.ensures.ok_end, c.in_default.ensures.ok_valid, c.in_ok-extend_from_slice.ensures.items, stored, c.is_some-is_valid.ensures, is_some-option_copied c.args.value) (HoldsTexts-push c.args.self.now (option_copied c.args.value) own.ends own.bytes.items own.valid c.len-end.result long holds)

pub invariant_of-self-in_default : goal.invariant_of-self-in_default
invariant_of-self-in_default c = HoldsTexts-shown (c.args.self.now ++ option_copied c.args.value ∷ []) _ _ _ (pushed c)

pub returns-clause-ok : goal.returns-clause-ok
returns-clause-ok c = seen (c.args.self.now ++ option_copied c.args.value ∷ []) _ _ _ (pushed c)
