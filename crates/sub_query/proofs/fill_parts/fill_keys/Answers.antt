-- One item more.
use Rattle.std.proofs.Common.{◌≡◌, ◌+◌, List, [], ◌∷◌, ◌++◌, sym, subst, arith, rules}
use Rattle.plan_typed.specs.declared.rel.SortKey.{SortKey}
use Rattle.sub_query.specs.Known.{worths_at}
use Rattle.sub_query.proofs.PartLaws.{AreKeys, key_more}
use Rattle.sub_query.proofs.fill_parts.fill_keys.Goals as goal

pub loop-key-preserved : goal.loop-key-preserved
loop-key-preserved c =
    let k = worths_at c.args.worths.now in
    let new = c.in_ok-fill_key.field-0 in
    let pushed : c.push.new.self.items ≡ c.loop-key.made.items ++ new ∷ [] = search rules in
    subst (λ (made : List (SortKey)). AreKeys k 0 c.args.keys.now (c.loop-key.key-index + 1) made c.fill_key.new.next) (sym pushed)
    (key_more k 0 c.args.keys.now c.loop-key.key-index c.key-item.result c.key-item.result c.loop-key.made.items new c.loop-key.next c.fill_key.new.next
    (omega arith) c.key-item.is c.loop-key.invariant c.in_ok-fill_key.ensures.made c.in_ok-fill_key.ensures.next)
