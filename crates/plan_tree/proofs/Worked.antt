-- Worked trees: a filter over a cross join of two relations, by a subquery.
use Rattle.std.proofs.Common.{◌≡◌, ◌∷◌, [], Some, None, rules}
use Rattle.plan_raw.specs.declared.rel.RawRel.{RawRel, the_lemmas}
use Rattle.plan_raw.specs.declared.rel.RawRel.TheVariants as r
use Rattle.plan_raw.specs.declared.expr.RawExpr.TheVariants as e
use Rattle.plan_tree.specs.Numbering.{relation_count, input_numbers, subquery_number}

abbrev filter : RawRel
filter = r.Filter None (Some (r.Cross None (Some r.Missing) (Some r.Missing))) (Some (e.Scalar (Some r.Missing)))

pub five_relations : relation_count filter ≡ 5
unfolding relation_count
five_relations = search (rules, the_lemmas)

pub cross_is_one : input_numbers 0 filter ≡ 1 ∷ []
cross_is_one = search (rules, the_lemmas)

pub subquery_is_four : subquery_number 0 filter ≡ 4
unfolding relation_count
subquery_is_four = search (rules, the_lemmas)

pub inputs_of_cross : input_numbers 1 (r.Cross None (Some r.Missing) (Some r.Missing)) ≡ 2 ∷ 3 ∷ []
unfolding relation_count
inputs_of_cross = search (rules, the_lemmas)
