use Rattle.std.proofs.Common.{◌≡◌, ◌∙◌, [], ◌∷◌, All, sym, subst}
use Rattle.std.specs.Prelude.{vec_len}
use Rattle.std.proofs.lemmas.Bool.{eqb-true}
use Rattle.std.proofs.lemmas.List.Elements.{All-head, All-tail}
use Rattle.aggregate.specs.States.{IsOf, IsFor}
use Rattle.pipe_ends.proofs.MergeLaws.{head_rest, none_known, all_known}
use Rattle.pipe_ends.proofs.SortLaws.{no_items}
use Rattle.pipe_ends.proofs.merging.merged_groups.Goals as goal

pub returns-then-is_empty-clause-of : goal.returns-then-is_empty-clause-of
returns-then-is_empty-clause-of c =
    let all = c.args.partials in
    let none : all.items ≡ [] = no_items all.items (sym all.ok.0 ∙ eqb-true (vec_len all) 0 (sym c.is_empty.ensures ∙ c.if-is_empty.true)) in
    none_known (IsOf c.args.spec.now) c.in_ok-none.none all.items none c.in_ok-none.ensures.of

pub returns-then-is_empty-clause-over : goal.returns-then-is_empty-clause-over
returns-then-is_empty-clause-over c = c.in_ok-none.ensures.over c.args.types.now c.requires.over

pub groups_behind-requires-clause-first : goal.groups_behind-requires-clause-first
groups_behind-requires-clause-first c =
    let all = c.args.partials in
    let P = IsFor c.args.types.now c.args.spec.now in
    let rest = c.remove-first.new.self.items in
    let parts : all.items ≡ c.remove-first.result ∷ rest = head_rest all.items (vec_len all) c.remove-first.result rest all.ok.0 (sym c.is_empty.ensures ∙ c.if-is_empty.false) c.remove-first.ensures.value c.remove-first.ensures.items in
    All-head P c.remove-first.result rest (subst (All P) parts c.requires.given)

pub groups_behind-requires-clause-given : goal.groups_behind-requires-clause-given
groups_behind-requires-clause-given c =
    let all = c.args.partials in
    let P = IsFor c.args.types.now c.args.spec.now in
    let rest = c.remove-first.new.self.items in
    let parts : all.items ≡ c.remove-first.result ∷ rest = head_rest all.items (vec_len all) c.remove-first.result rest all.ok.0 (sym c.is_empty.ensures ∙ c.if-is_empty.false) c.remove-first.ensures.value c.remove-first.ensures.items in
    All-tail P c.remove-first.result rest (subst (All P) parts c.requires.given)

pub returns-clause-of : goal.returns-clause-of
returns-clause-of c =
    let all = c.args.partials in
    let rest = c.remove-first.new.self.items in
    let parts : all.items ≡ c.remove-first.result ∷ rest = head_rest all.items (vec_len all) c.remove-first.result rest all.ok.0 (sym c.is_empty.ensures ∙ c.if-is_empty.false) c.remove-first.ensures.value c.remove-first.ensures.items in
    all_known (IsOf c.args.spec.now) c.in_ok-known.known c.remove-first.result all.items rest parts c.in_ok-known.ensures.of
