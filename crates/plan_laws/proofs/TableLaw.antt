-- A relation over tables whose rows were tested denotes what it denotes over the tables.
use Rattle.std.proofs.Common.{◌≡◌, ◌∙◌, ℕ, List, [], ◌∷◌, map, refl, sym, ap}
use Rattle.std.specs.List.{AllByRecursion}
use Rattle.sub_types.specs.Stream.{Stream}
use Rattle.sub_types.specs.declared.kind.Ty.{Ty}
use Rattle.plan_typed.specs.declared.rel.Op.{Op, out-Op, roll-Op, roll-out-Op}
use Rattle.plan_typed.specs.declared.rel.Op.TheOpen.{Op-F}
use Rattle.plan_typed.specs.declared.rel.Op.TheVariants.{rolls-Read, rolls-Filter, rolls-Project, rolls-Fetch, rolls-Sort, rolls-Aggregate, rolls-GroupSets, rolls-Join, rolls-Cross, rolls-Set}
use Rattle.plan_typed.specs.declared.rel.Rel.{Rel, out-Rel}
use Rattle.plan_typed.specs.declared.rel.Source.{Source}
use Rattle.plan_typed.specs.declared.rel.Source.TheVariants as sources
use Rattle.plan_denote.proofs.DenoteLaws.{direct-Read, direct-Filter, direct-Project, direct-Fetch, direct-Sort, direct-Aggregate, direct-GroupSets, direct-Join, direct-Cross, direct-Set, denotes, width_is}
use Rattle.plan_denote.specs.Rows.{Row, Formula}
use Rattle.plan_denote.specs.Eval.{eval}
use Rattle.plan_denote.specs.Read.{read_rows}
use Rattle.plan_denote.specs.Filter.{filtered}
use Rattle.plan_denote.specs.Project.{projected, emitted}
use Rattle.plan_denote.specs.Fetch.{fetched}
use Rattle.plan_denote.specs.Sort.{sorted}
use Rattle.plan_denote.specs.Aggregate.{aggregated}
use Rattle.plan_denote.specs.GroupSets.{grouping_sets}
use Rattle.plan_denote.specs.Join.{joined, crossed}
use Rattle.plan_denote.specs.Sets.{set_rows}
use Rattle.plan_denote.specs.Denote.{Tables, direct, denote, answer_of, maybe_condition, source_rows, direction_of, measure_of, any_measure, join_of}
use Rattle.denote_typed.proofs.Law.{Inputs, both_inputs}
use Rattle.plan_reads.specs.Reads.{read_of}
use Rattle.plan_laws.specs.Tested.{IsTestedRead, AreTested}
use Rattle.plan_laws.proofs.Levels.{by_inputs, OwnRead, own_and_inputs}
use Rattle.plan_laws.proofs.TestLaws.{read_again}

module _ (tested tables : Tables) where
  abbrev Same : Rel → Type 0
  Same rel = denote tested rel ≡ denote tables rel

  same_width : (rel : Rel) → (answer_of tested rel).width ≡ (answer_of tables rel).width
  same_width rel = width_is tested rel ∙ sym (width_is tables rel)

  inputs_same : (inputs : List Rel) → AllByRecursion Same inputs → map (denote tested) inputs ≡ map (denote tables) inputs
  inputs_same [] same = refl
  inputs_same (input ∷ inputs) same = λ i. same.0 i ∷ inputs_same inputs same.1 i

  -- what an operation gives, by the variant that it rolls into
  by_level : (level : Op-F Op Rel) (op : Op) (number : ℕ) (a b : Stream Row) → roll-Op level ≡ op → direct tested op number ≡ a → direct tables op number ≡ b → a ≡ b
      → direct tested (roll-Op level) number ≡ direct tables (roll-Op level) number
  by_level level op number a b rolls is other same = ap (λ one. direct tested one number) rolls ∙ is ∙ same ∙ sym (ap (λ one. direct tables one number) rolls ∙ other)

  source_same : (number : ℕ) (source : Source) (names : List (List ℕ)) (types : List Ty) (filter : Formula) (mask : List ℕ) → IsTestedRead tested tables (read_of number source names types)
      → read_rows number types filter mask (source_rows tested number source) ≡ read_rows number types filter mask (source_rows tables number source)
  source_same number (sources.Named words) names types filter mask is = ap (read_rows number types filter mask) is ∙ read_again number types filter mask (tables number)
  source_same number (sources.Rows rows) names types filter mask is = refl

  level_same : (level : Op-F Op Rel) (number : ℕ) → OwnRead (IsTestedRead tested tables) level number → Inputs Same level → direct tested (roll-Op level) number ≡ direct tables (roll-Op level) number
  level_same (Op-F.Read source names types filter mask) number own same =
      by_level (Op-F.Read source names types filter mask) _ number _ _ (rolls-Read source names types filter mask)
      (direct-Read tested source names types filter mask number) (direct-Read tables source names types filter mask number)
      (source_same number source names types (maybe_condition filter) mask own)
  level_same (Op-F.Filter input test) number own same =
      by_level (Op-F.Filter input test) _ number _ _ (rolls-Filter input test) (direct-Filter tested input test number) (direct-Filter tables input test number)
      (ap (filtered number (eval test)) same)
  level_same (Op-F.Project input exprs) number own same =
      by_level (Op-F.Project input exprs) _ number _ _ (rolls-Project input exprs) (direct-Project tested input exprs number) (direct-Project tables input exprs number)
      (ap (projected number (map eval exprs)) same)
  level_same (Op-F.Fetch input offset count) number own same =
      by_level (Op-F.Fetch input offset count) _ number _ _ (rolls-Fetch input offset count) (direct-Fetch tested input offset count number) (direct-Fetch tables input offset count number)
      (ap (fetched offset count) same)
  level_same (Op-F.Sort input keys) number own same =
      by_level (Op-F.Sort input keys) _ number _ _ (rolls-Sort input keys) (direct-Sort tested input keys number) (direct-Sort tables input keys number)
      (ap (sorted number (map (λ key. eval key.expr) keys) (map direction_of keys)) same)
  level_same (Op-F.Aggregate input groups measures) number own same =
      by_level (Op-F.Aggregate input groups measures) _ number _ _ (rolls-Aggregate input groups measures)
      (direct-Aggregate tested input groups measures number) (direct-Aggregate tables input groups measures number)
      (ap (aggregated number (map eval groups) (map measure_of measures)) same)
  level_same (Op-F.GroupSets input groups sets measures) number own same =
      by_level (Op-F.GroupSets input groups sets measures) _ number _ _ (rolls-GroupSets input groups sets measures)
      (direct-GroupSets tested input groups sets measures number) (direct-GroupSets tables input groups sets measures number)
      (ap (grouping_sets number (map eval groups) sets (map any_measure measures)) same)
  level_same (Op-F.Join left right kind on post) number own same =
      by_level (Op-F.Join left right kind on post) _ number _ _ (rolls-Join left right kind on post)
      (direct-Join tested left right kind on post number) (direct-Join tables left right kind on post number)
      (λ i. filtered number (maybe_condition post) (joined kind (join_of number (same_width left i) (same_width right i) on) (same.0 i) (same.1 i)))
  level_same (Op-F.Cross left right) number own same =
      by_level (Op-F.Cross left right) _ number _ _ (rolls-Cross left right) (direct-Cross tested left right number) (direct-Cross tables left right number)
      (λ i. crossed number (same_width left i) (same_width right i) (same.0 i) (same.1 i))
  level_same (Op-F.Set inputs op) number own same =
      by_level (Op-F.Set inputs op) _ number _ _ (rolls-Set inputs op) (direct-Set tested inputs op number) (direct-Set tables inputs op number)
      (ap (set_rows op) (inputs_same inputs same))

  abbrev Claim : Rel → Type 0
  Claim rel = AreTested tested tables rel → Same rel

  relation_same : (rel : Rel) → Inputs Claim (out-Op (out-Rel rel).op) → Claim rel
  relation_same rel claims are =
      let level = out-Rel rel in
      let both = own_and_inputs (IsTestedRead tested tables) rel are in
      let inside = both_inputs Claim (AreTested tested tables) Same (out-Op level.op) (λ one claim known. claim known) claims both.1 in
      denotes tested rel
      ∙ ap (emitted level.emit)
      (ap (λ (op : Op). direct tested op level.number) (sym (roll-out-Op level.op)) ∙ level_same (out-Op level.op) level.number both.0 inside ∙ ap (λ (op : Op). direct tables op level.number) (roll-out-Op level.op))
      ∙ sym (denotes tables rel)

  -- the rows of a relation
  pub law_of_tested : (rel : Rel) → AreTested tested tables rel → denote tested rel ≡ denote tables rel
  law_of_tested = by_inputs Claim relation_same
