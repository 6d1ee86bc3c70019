use Rattle.std.proofs.Common.{◌∙◌, ap, sym, length}
use Rattle.spell_tree.specs.declared.part.TreesRef.{TreesRef}
use Rattle.spell_tree.specs.Seen.{trees_seen}
use Rattle.spell_tree.proofs.TreeLaws.{exprs_length, rels_length}
use Rattle.spell_tree.proofs.part.TreesRef.len.Goals as goal

pub returns-in-Plan : goal.returns-in-Plan
returns-in-Plan c = ap (λ (trees : TreesRef). length (trees_seen trees).nodes) (sym c.in-Plan.is)

pub returns-in-Rels : goal.returns-in-Rels
returns-in-Rels c = rels_length c.in-Rels.field-0 c.in-Rels.rels.now ∙ ap (λ (trees : TreesRef). length (trees_seen trees).nodes) (sym c.in-Rels.is)

pub returns-in-Exprs : goal.returns-in-Exprs
returns-in-Exprs c = exprs_length c.in-Exprs.field-0 c.in-Exprs.exprs.now ∙ ap (λ (trees : TreesRef). length (trees_seen trees).nodes) (sym c.in-Exprs.is)
