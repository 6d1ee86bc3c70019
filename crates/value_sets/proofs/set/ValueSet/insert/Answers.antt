use Rattle.std.proofs.Common.{◌∙◌, ◌||◌, ℕ, List, ap, sym, refl}
use Rattle.std.specs.Str.{bytes_eq}
use Rattle.std.proofs.lemmas.Result.{on_ok_weaker}
use Rattle.sub_types.specs.declared.value.Value.{Value}
use Rattle.plan_denote.specs.Order.{is_same}
use Rattle.value_sets.specs.Sets.{has, has_text}
use Rattle.value_sets.proofs.SetLaws.{text_added}
use Rattle.value_sets.proofs.set.ValueSet.insert.Goals as goal

pub returns-in-Bytes : goal.returns-in-Bytes
returns-in-Bytes c =
    let set = c.args.self.now in
    let bytes = c.in-Bytes.bytes in
    on_ok_weaker c.insert_text.result (λ added other.
    text_added set (record set { texts = c.insert_text.new.texts }) bytes refl refl refl refl refl (λ text. added text ∙ ap (λ (one : List ℕ). bytes_eq text one || has_text set.texts.keys text) c.bytes.ensures) other
    ∙ ap (λ (value : Value). is_same other value || has set other) (sym c.in-Bytes.is)) c.insert_text.ensures
