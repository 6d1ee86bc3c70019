use Rattle.std.proofs.Common.{◌≡◌, ◌∙◌, ◌+◌, ◌++◌, ◌∷◌, ◌<◌, [], List, ℕ, take, get_or, length, length-append, ap, sym, arith}
use Rattle.std.specs.List.{concat}
use Rattle.sub_types.specs.Slots.{slots}
use Rattle.col_text.specs.Text.{ends_of, texts_at}
use Rattle.col_text.proofs.GatherLaws.{texts_at-more, ends_of-push, concat-push}
use Rattle.col_text.proofs.view.TextView.gather_ends.Goals as goal

pub loop-i-preserved : goal.loop-i-preserved
loop-i-preserved c =
    let column = c.args.self.now in
    let at = c.args.at.now in
    let k = c.loop-i.i-index in
    let texts = texts_at column (take k at) in
    let text = get_or (slots [] column) (get_or at k 0) [] in
    let more = texts_at-more column at k (let below : k < length at = omega arith in below) in
    let next : c.in-Some.next ≡ c.loop-i.end + length text = omega (arith, c.in-Some.ensures, ap length c.text_at.ensures) in
    record {
      ends = c.in_ok-push.ensures.ok ∙ ap (λ (ends : List ℕ). ends ++ c.in-Some.next ∷ []) c.loop-i.invariant.ends ∙ ap (λ n. ends_of 0 texts ++ n ∷ []) next
          ∙ sym (ap (ends_of 0) more ∙ ends_of-push texts text c.loop-i.end c.loop-i.invariant.end);
      end = omega (arith, next, c.loop-i.invariant.end, ap (λ (all : List (List ℕ)). length (concat all)) more, ap length (concat-push texts text), length-append (concat texts) text);
    }
