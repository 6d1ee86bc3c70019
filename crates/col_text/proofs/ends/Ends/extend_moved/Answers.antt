use Rattle.std.proofs.Common.{rules, tests, ◌==◌, vec_len, ◌≡◌, ◌∙◌, ◌++◌, [], ◌≤◌, ◌+◌, ◌%◌, ◌^◌, ℕ, List, length, map, sym, ap, true, arith}
use Rattle.std.specs.List.{slice_range, list_all}
use Rattle.std.proofs.lemmas.Result.{on_ok_weaker}
use Rattle.col_text.specs.Text.{moves_below}
use Rattle.col_text.proofs.EndLaws.{no_items, narrow_moved}
use Rattle.col_text.proofs.ends.Ends.extend_moved.Goals as goal

pub returns-then-stay_narrow-clause-ok : goal.returns-then-stay_narrow-clause-ok
returns-then-stay_narrow-clause-ok c =
    let own = c.self.inside in
    let more = c.more.inside in
    let from = c.args.from in
    let to = c.args.to in
    let shift = c.args.shift in
    let part = slice_range c.deref.result.now from to in
    let test : (vec_len own.wide == 0) ≡ true = sym c.is_empty.ensures ∙ c.if-is_empty.true in
    let empty : vec_len own.wide ≡ 0 = search (rules, tests) in
    let none : own.wide.items ≡ [] = no_items own.wide.items (omega (arith, own.wide.ok, empty)) in
    let within : to ≤ length more.narrow.items = omega (arith, c.len.ensures, more.narrow.ok, c.if-to-len.true) in
    let here : part ≡ slice_range more.narrow.items from to = ap (λ (xs : List ℕ). slice_range xs from to) c.deref.ensures.value in
    let below : list_all (moves_below shift) part ≡ true = sym c.stay_narrow.ensures ∙ c.if-stay_narrow.true in
    let law = narrow_moved own.narrow.items own.wide.items more.narrow.items more.wide.items part from to shift none c.requires.rising within here below in
    on_ok_weaker c.extend_narrow.result
    (λ added. ap (λ (xs : List ℕ). xs ++ own.wide.items) added ∙ law
    ∙ ap (λ (xs : List ℕ). xs ++ map (λ x. (x + shift) % 2 ^ 64) (slice_range (more.narrow.items ++ more.wide.items) from to)) c.self.view_is
    ∙ ap (λ (xs : List ℕ). c.args.self.now ++ map (λ x. (x + shift) % 2 ^ 64) (slice_range xs from to)) c.more.view_is)
    c.extend_narrow.ensures.ok
