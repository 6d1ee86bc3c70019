-- Values that go to their groups.
use Rattle.std.proofs.Common.{◌≡◌, ◌∙◌, ℕ, ◌<◌, List, [], ◌∷◌, ◌++◌, Bool, true, false, ◌==◌, cond, length, set, get_or, refl, sym, ap, subst, eq-eqb}
use Rattle.std.proofs.lemmas.List.{get_or-set_same, get_or-set_other, length-set}
use Rattle.std.proofs.lemmas.Bool.{eqb-true, eqb-false}
use Rattle.sub_types.specs.declared.value.Value.{Value}
use Rattle.plan_denote.specs.Tally.{Tally, not_null, tally_of}
use Rattle.group_laws.specs.Merged.{tallies_merged}
use Rattle.group_laws.proofs.TallyLaws.{tally-append, merged_assoc}
use Rattle.group_tallies.specs.declared.tallies.Keeping.{Keeping}
use Rattle.group_tallies.specs.declared.tallies.Keeping.TheVariants as keepings
use Rattle.group_tallies.specs.Kept.{kept, none, tally_at, with_tally, kept_of, with_values, values_of, AreThere}
use Rattle.group_tallies.proofs.KeptLaws.{kept_merged, none_more}

nothing_kept : (keeping : Keeping) → kept keeping (tally_of []) ≡ none
nothing_kept keepings.Count = refl
nothing_kept keepings.Total = refl
nothing_kept keepings.Least = refl
nothing_kept keepings.Greatest = refl

-- as many groups stay
there_still : (tallies : List Tally) (group : ℕ) (later : Tally) (values : List (ℕ × Value)) → AreThere tallies values → AreThere (with_tally tallies group later) values
there_still tallies group later [] h = h
there_still tallies group later (one ∷ values) h =
    (subst (λ n. one.0 < n) (sym (length-set tallies group (tallies_merged (tally_at tallies group) later))) h.0, there_still tallies group later values h.1)

-- one value and those behind it
first_value : (keeping : Keeping) (value : Value) (values : List Value) → tallies_merged (kept_of keeping value) (kept keeping (tally_of (not_null values))) ≡ kept keeping (tally_of (not_null (value ∷ values)))
first_value keeping value values =
    sym (kept_merged keeping (tally_of (not_null (value ∷ []))) (tally_of (not_null values))) ∙ sym (ap (kept keeping) (tally-append (value ∷ []) values))

-- the group of the first value, or another one
one_more : (keeping : Keeping) (tallies : List Tally) (other group : ℕ) (value : Value) (values : List Value) (b : Bool) → (other == group) ≡ b → group < length tallies
    → tallies_merged (tally_at (with_tally tallies other (kept_of keeping value)) group) (kept keeping (tally_of (not_null values))) ≡ tallies_merged (tally_at tallies group) (kept keeping (tally_of (not_null (cond b (value ∷ values) values))))
one_more keeping tallies other group value values true e h =
    let is : other ≡ group = eqb-true other group e in
    ap (λ n. tallies_merged (tally_at (with_tally tallies n (kept_of keeping value)) group) (kept keeping (tally_of (not_null values)))) is
    ∙ ap (λ t. tallies_merged t (kept keeping (tally_of (not_null values)))) (get_or-set_same tallies group (tallies_merged (tally_at tallies group) (kept_of keeping value)) none h)
    ∙ merged_assoc (tally_at tallies group) (kept_of keeping value) (kept keeping (tally_of (not_null values)))
    ∙ ap (tallies_merged (tally_at tallies group)) (first_value keeping value values)
one_more keeping tallies other group value values false e h =
    ap (λ t. tallies_merged t (kept keeping (tally_of (not_null values)))) (get_or-set_other tallies other group (tallies_merged (tally_at tallies other) (kept_of keeping value)) none (λ same. eqb-false other group e (sym same)))

pub groups_keep : (keeping : Keeping) (tallies : List Tally) (values : List (ℕ × Value)) (group : ℕ) → group < length tallies → AreThere tallies values → tally_at (with_values keeping tallies values) group ≡ tallies_merged (tally_at tallies group) (kept keeping (tally_of (not_null (values_of group values))))
groups_keep keeping tallies [] group h there = sym (ap (tallies_merged (tally_at tallies group)) (nothing_kept keeping) ∙ none_more (tally_at tallies group))
groups_keep keeping tallies (one ∷ values) group h there =
    groups_keep keeping (with_tally tallies one.0 (kept_of keeping one.1)) values group (subst (λ n. group < n) (sym (length-set tallies one.0 (tallies_merged (tally_at tallies one.0) (kept_of keeping one.1)))) h) (there_still tallies one.0 (kept_of keeping one.1) values there.1)
    ∙ one_more keeping tallies one.0 group one.1 (values_of group values) (one.0 == group) refl h
