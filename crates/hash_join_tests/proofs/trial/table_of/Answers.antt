use Rattle.std.proofs.Common.{◌≡◌, ◌∙◌, List, [], ◌∷◌, ◌++◌, All, ap, sym, subst}
use Rattle.std.specs.List.{flat_map}
use Rattle.std.proofs.lemmas.List.Elements.{All-from_recursion}
use Rattle.sub_types.specs.Value.{Fits}
use Rattle.batch.specs.declared.batch.Batch.{Batch}
use Rattle.batch.specs.BatchRows.{rows_of, types_of}
use Rattle.join_columns.specs.Sides.{HasKinds, kinds_of}
use Rattle.hash_join.specs.declared.build_part.BuildPart.{BuildPart}
use Rattle.hash_join_tests.specs.Typed.{numbers, IsOfNumbers}
use Rattle.hash_join_tests.proofs.PartLaws.{parts_fit}
use Rattle.hash_join_tests.proofs.trial.table_of.Goals as goal

pub of-requires : goal.of-requires
of-requires c = ap kinds_of (c.in_ok-first.ensures.types ∙ sym c.requires.join.right)

pub of-requires-2 : goal.of-requires-2
of-requires-2 c = ap kinds_of (c.in_ok-second.ensures.types ∙ sym c.requires.join.right)

pub build-requires-clause-parts : goal.build-requires-clause-parts
build-requires-clause-parts c =
    let one : BuildPart = c.in_ok-one.one in
    let two : BuildPart = c.in_ok-two.two in
    let types = c.args.spec.right.items in
    let parts : c.push-2.new.self.items ≡ one ∷ two ∷ [] = c.in_ok-push-2.ensures.items ∙ ap (λ (ps : List BuildPart). ps ++ two ∷ []) (c.in_ok-push.ensures.items ∙ ap (λ (ps : List BuildPart). ps ++ one ∷ []) c.new-parts.ensures.items) in
    let has : (part : BuildPart) (batch : Batch) → part.batch ≡ batch → types_of batch ≡ numbers → HasKinds types part.batch = λ part batch same are. ap kinds_of (ap types_of same ∙ are ∙ sym c.requires.join.right) in
    subst (All (λ (part : BuildPart). HasKinds types part.batch)) (sym parts)
    (All-from_recursion (λ (part : BuildPart). HasKinds types part.batch) (one ∷ two ∷ [])
    (has one c.in_ok-first.first c.in_ok-one.ensures c.in_ok-first.ensures.types, (has two c.in_ok-second.second c.in_ok-two.ensures c.in_ok-second.ensures.types, tt)))

pub returns : goal.returns
returns c =
    let one : BuildPart = c.in_ok-one.one in
    let two : BuildPart = c.in_ok-two.two in
    let parts : c.push-2.new.self.items ≡ one ∷ two ∷ [] = c.in_ok-push-2.ensures.items ∙ ap (λ (ps : List BuildPart). ps ++ two ∷ []) (c.in_ok-push.ensures.items ∙ ap (λ (ps : List BuildPart). ps ++ one ∷ []) c.new-parts.ensures.items) in
    record {
      join = subst IsOfNumbers (sym c.in_ok-table.ensures.spec) c.requires.join;
      fit = subst (All (Fits numbers)) (sym (c.in_ok-table.ensures.rows ∙ ap (flat_map (λ (part : BuildPart). rows_of part.batch)) parts))
          (parts_fit one two (subst (λ (batch : Batch). All (Fits numbers) (rows_of batch)) (sym c.in_ok-one.ensures) c.in_ok-first.ensures.fit) (subst (λ (batch : Batch). All (Fits numbers) (rows_of batch)) (sym c.in_ok-two.ensures) c.in_ok-second.ensures.fit));
    }
