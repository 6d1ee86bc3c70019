use Rattle.std.proofs.Common.{ℕ, List, sym, subst}
use Rattle.std.specs.Str.{IsUtf8}
use Rattle.arrow_decode.proofs.CharacterLaws.{same_texts, no_texts}
use Rattle.arrow_decode.proofs.text.are_texts.Goals as goal

pub returns-in_default : goal.returns-in_default
returns-in_default c =
    let P : List ℕ → Type 0 = λ bytes. IsUtf8 bytes in
    no_texts c.args.column.now (λ whole. c.in_default.ensures (subst P (sym c.bytes.ensures) whole))

pub returns : goal.returns
returns c =
    let P : List ℕ → Type 0 = λ bytes. IsUtf8 bytes in
    same_texts c.args.column.now c.begin_at_characters.result (subst P c.bytes.ensures c.in-Ok.ensures.1) c.begin_at_characters.ensures
