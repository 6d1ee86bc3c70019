-- Each text contains what is empty.
use Rattle.std.proofs.Common.{rules, tests, ◌≡◌, ◌∙◌, ℕ, List, [], Bool, true, IfOk, length, map, replicate, sym, ap, subst}
use Rattle.std.proofs.lemmas.List.{nil_from_length}
use Rattle.sub_types.specs.Slots.{slots, length-slots}
use Rattle.plan_denote.specs.Texts.{contains}
use Rattle.call_kernels.proofs.SearchLaws.{empty_contained}
use Rattle.call_kernels.proofs.searches.marks.Goals as goal

pub returns-then-is_empty : goal.returns-then-is_empty
returns-then-is_empty c =
    let ts = slots {T = List ℕ} [] c.args.column.now in
    let none : length c.args.pattern.now ≡ 0 = search (rules, tests) in
    let empty = nil_from_length c.args.pattern.now none in
    let each : map (λ text. contains text c.args.pattern.now) ts ≡ replicate c.len.result true =
    ap (λ (pattern : List ℕ). map (λ text. contains text pattern) ts) empty ∙ empty_contained ts
    ∙ ap (λ n. replicate n true) (length-slots {T = List ℕ} [] c.args.column.now ∙ sym c.len.ensures) in
    subst (λ (all : List Bool). IfOk c.ones.result (λ bits. bits ≡ all)) (sym each) c.ones.ensures
