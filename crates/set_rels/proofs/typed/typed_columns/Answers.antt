use Rattle.std.proofs.Common.{◌≡◌, ◌∙◌, get_or, length, subst, sym, ap, rules}
use Rattle.std.proofs.lemmas.Option.{get_or_from_slice_get}
use Rattle.std.specs.Vec.Iter.{into_iter_items}
use Rattle.set_rels.proofs.TypedLaws.{IsTyping, kind_read, typing_more}
use Rattle.set_rels.proofs.typed.typed_columns.Goals as goal

pub typed_column-requires : goal.typed_column-requires
typed_column-requires c =
    let count : c.len-in-loop-column.result ≡ length c.loop-column.typed.items = search rules in
    kind_read c.args.types.now c.args.columns.items c.loop-column.typed.items c.in-Some.column (into_iter_items c.loop-column.column-iterator) (into_iter_items c.next.new.self) c.len-in-loop-column.result c.type_at-ty.result c.in-Some.ensures.steps.0 c.loop-column.invariant count c.type_at-ty.ensures

pub loop-column-preserved : goal.loop-column-preserved
loop-column-preserved c =
    let types = c.args.types.now in
    let typed = c.loop-column.typed.items in
    let ty = c.type_at-ty.result in
    let count : c.len-in-loop-column.result ≡ length typed = search rules in
    typing_more types c.args.columns.items typed c.push.new.self.items c.in-Some.column c.typed_column.result (into_iter_items c.next.new.self) ty ty
    (subst (IsTyping types c.args.columns.items typed) c.in-Some.ensures.steps.0 c.loop-column.invariant)
    (sym (get_or_from_slice_get types c.len-in-loop-column.result ty ty c.type_at-ty.ensures) ∙ ap (λ n. get_or types n ty) count) c.typed_column.ensures.values c.typed_column.ensures.ty c.in_ok-push.ensures.items
