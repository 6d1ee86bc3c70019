use Rattle.std.proofs.Common.{ap, sym, ◌∙◌, arith, rules}
use Rattle.fb_bytes.specs.Layout.{Laid, table_place, table_laid, tables_laid, structs_laid, text_laid}
use Rattle.fb_bytes.proofs.ObjectLemmas.{TableFacts, table_facts}
use Rattle.fb_bytes.proofs.write.lead.Goals as goal
use Rattle.fb_bytes.proofs.write.lead.Goals.{After-slot_count}

facts : (c : After-slot_count) → TableFacts c.args.object.now c.deref.result.now
facts c = table_facts c.args.object.now c.in-Table.fields c.deref.result.now c.in-Table.is c.deref.ensures.value c.requires

pub table_place-requires : goal.table_place-requires
table_place-requires c = let f = facts c in omega (arith, c.slot_count.ensures, f.slots)

pub returns-in-Table-clause-value : goal.returns-in-Table-clause-value
unfolding table_laid
returns-in-Table-clause-value c =
    let f = facts (goal.at.returns-in-Table-clause-value c).After-slot_count in
    c.table_place.ensures.value ∙ ap table_place c.slot_count.ensures ∙ sym (ap (λ (l : Laid). l.lead) f.laid_is)

pub returns-in-Table-clause-bound : goal.returns-in-Table-clause-bound
returns-in-Table-clause-bound c =
    let f = facts (goal.at.returns-in-Table-clause-bound c).After-slot_count in
    omega (arith, c.slot_count.ensures, f.slots, c.table_place.ensures.bound)

pub returns-in-Structs-clause-value : goal.returns-in-Structs-clause-value
unfolding structs_laid
returns-in-Structs-clause-value c = search rules

pub returns-in-Tables-clause-value : goal.returns-in-Tables-clause-value
unfolding tables_laid
returns-in-Tables-clause-value c = search rules

pub returns-in-Tables-2-clause-value : goal.returns-in-Tables-2-clause-value
unfolding text_laid
returns-in-Tables-2-clause-value c = search rules
