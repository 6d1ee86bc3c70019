use Rattle.std.proofs.Common.{◌≡◌, ◌∙◌, [], sym, ap, refl}
use Rattle.std.specs.Char.{is_ascii}
use Rattle.std.specs.List.{concat, list_all}
use Rattle.sub_types.specs.Slots.{slots}
use Rattle.arrow_decode.proofs.CharacterLaws.{begin_in_ascii}
use Rattle.arrow_decode.proofs.text.begin_at_characters.Goals as goal

pub returns-then-are_ascii : goal.returns-then-are_ascii
returns-then-are_ascii c =
    let whole : c.as_bytes.result.now ≡ concat (slots [] c.args.column.now) = c.as_bytes.ensures.value ∙ c.requires in
    let all = ap (list_all is_ascii) (sym whole) ∙ sym c.are_ascii.ensures ∙ c.if-are_ascii.true in
    (λ yes. begin_in_ascii c.args.column.now all, λ begin. refl)
