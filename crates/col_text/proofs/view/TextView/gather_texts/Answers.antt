use Rattle.std.proofs.Common.{◌∙◌, ◌<◌, ◌^◌, List, ℕ, ap, arith}
use Rattle.std.specs.List.{concat}
use Rattle.col_text.specs.Text.{ends_of, picked, values_at}
use Rattle.col_text.proofs.TextLaws.{seen}
use Rattle.col_text.proofs.PartsLaws.{AreParts-held}
use Rattle.col_text.proofs.GatherLaws.{gathered}
use Rattle.col_text.proofs.view.TextView.gather_texts.Goals as goal

pub from_ends-requires : goal.from_ends-requires
from_ends-requires c =
    let column = c.args.self.now in
    let at = c.args.at.now in
    let ends = c.from_narrow.result in
    let bytes = c.in_ok-bytes.bytes.items in
    let low : c.in_ok-ends.size < 2 ^ 32 = omega arith in
    let same = ap (λ (texts : List (List ℕ)). picked texts at) c.in-Some.ensures in
    AreParts-held (values_at column at) ends bytes c.args.valid
    (gathered column at ends bytes c.args.valid (c.from_narrow.ensures ∙ c.in_ok-ends.ensures low ∙ ap (ends_of 0) same) (c.in_ok-bytes.ensures ∙ ap concat same) c.requires)

pub returns-then-size : goal.returns-then-size
returns-then-size c =
    let column = c.args.self.now in
    let at = c.args.at.now in
    let ends = c.from_narrow.result in
    let bytes = c.in_ok-bytes.bytes.items in
    let low : c.in_ok-ends.size < 2 ^ 32 = omega arith in
    let same = ap (λ (texts : List (List ℕ)). picked texts at) c.in-Some.ensures in
    c.from_ends.ensures
    ∙ seen (values_at column at) ends bytes c.args.valid
    (gathered column at ends bytes c.args.valid (c.from_narrow.ensures ∙ c.in_ok-ends.ensures low ∙ ap (ends_of 0) same) (c.in_ok-bytes.ensures ∙ ap concat same) c.requires)

pub from_ends-requires-2 : goal.from_ends-requires-2
from_ends-requires-2 c =
    let column = c.args.self.now in
    let at = c.args.at.now in
    let ends = c.in_ok-ends-2.ends in
    let bytes = c.in_ok-bytes-2.bytes.items in
    AreParts-held (values_at column at) ends bytes c.args.valid (gathered column at ends bytes c.args.valid c.in_ok-ends-2.ensures c.in_ok-bytes-2.ensures c.requires)

pub returns : goal.returns
returns c =
    let column = c.args.self.now in
    let at = c.args.at.now in
    let ends = c.in_ok-ends-2.ends in
    let bytes = c.in_ok-bytes-2.bytes.items in
    c.from_ends-2.ensures ∙ seen (values_at column at) ends bytes c.args.valid (gathered column at ends bytes c.args.valid c.in_ok-ends-2.ensures c.in_ok-bytes-2.ensures c.requires)
