-- What counts of the outcomes is what their streams are one after the other.
use Rattle.std.proofs.Common.{◌≡◌, ◌∙◌, List, [], ◌∷◌, ℕ, Option, Some, None, IfSome, map, append-nil, refl, sym, ap, subst}
use Rattle.std.specs.List.{All}
use Rattle.std.specs.Option.{option_map}
use Rattle.std.proofs.lemmas.List.Elements.{All-nil, All-cons, All-head, All-tail}
use Rattle.sub_types.specs.declared.fault.Fault.{Fault}
use Rattle.sub_types.specs.declared.kind.Ty.{Ty}
use Rattle.sub_types.specs.declared.value.Value.{Value}
use Rattle.sub_types.specs.Stream.{Stream, rows_alone, glue, followed_by}
use Rattle.world.specs.Counts.{Rose}
use Rattle.batch.specs.declared.batch.Batch.{Batch}
use Rattle.batch.specs.BatchRows.{rows_of}
use Rattle.pipe_labour.specs.declared.item.Item.{Item}
use Rattle.round_end.specs.declared.outcome.Outcome.{Outcome}
use Rattle.round_end.specs.declared.outcome.Outcome.TheVariants.{Made, Ended, ReadFault}
use Rattle.round_end.specs.Decided.{Decided, decided, made_before}
use Rattle.table_rows.specs.Blocks.{HoldsTypes}
use Rattle.plan_tables.specs.Read.{IsTableFault, batches_stream}

module _ (relation : ℕ) (types : List Ty) where
  -- what was made of a stream; nothing is said of one whose read failed
  abbrev pub IsSettled : Stream (List Value) → Outcome Batch → Type 0
  IsSettled piece (Made batch) = HoldsTypes types batch × (piece ≡ rows_alone (rows_of batch))
  IsSettled piece (Ended batch fault) = HoldsTypes types batch × (piece ≡ record { rows = rows_of batch; end = Some fault }) × IsTableFault relation fault
  IsSettled piece ReadFault = Unit {0}

  abbrev pub AreSettled : List (Stream (List Value)) → List (Outcome Batch) → Type 0
  AreSettled [] [] = Unit {0}
  AreSettled (piece ∷ input) (made ∷ outs) = IsSettled piece made × AreSettled input outs
  AreSettled _ _ = ⊥

  -- what counts: batches of the types, with the rows of the streams and their fault
  pub record Counts (input : List (Stream (List Value))) (d : Decided Batch) : Type 0 where
    pub rows : glue input ≡ batches_stream d.made d.end
    pub typed : All (HoldsTypes types) d.made
    pub fault : IfSome d.end (IsTableFault relation)

  nothing_made : (d : Decided Batch) → record { made = []; end = None } ≡ d → Counts [] d
  nothing_made d same = subst (Counts []) same (record { rows = refl; typed = All-nil (HoldsTypes types); fault = tt })

  one_more : (piece : Stream (List Value)) (input : List (Stream (List Value))) (batch : Batch) (found : Option (Decided Batch)) (d : Decided Batch) → HoldsTypes types batch → piece ≡ rows_alone (rows_of batch)
      → option_map (made_before (batch ∷ [])) found ≡ Some d → ((e : Decided Batch) → found ≡ Some e → Counts input e) → Counts (piece ∷ input) d
  one_more piece input batch None d typed is so later = absurd (cc)
  one_more piece input batch (Some e) d typed is so later =
      let same : made_before (batch ∷ []) e ≡ d = cc in
      let rest = later e refl in
      subst (Counts (piece ∷ input)) same (record {
        rows = ap (λ s. followed_by s (glue input)) is ∙ ap (followed_by (rows_alone (rows_of batch))) rest.rows;
        typed = All-cons (HoldsTypes types) batch e.made typed rest.typed;
        fault = rest.fault;
      })

  ended : (piece : Stream (List Value)) (input : List (Stream (List Value))) (batch : Batch) (fault : Fault) (d : Decided Batch) → HoldsTypes types batch
      → piece ≡ record { rows = rows_of batch; end = Some fault } → IsTableFault relation fault → record { made = batch ∷ []; end = Some fault } ≡ d → Counts (piece ∷ input) d
  ended piece input batch fault d typed is of_table same =
      subst (Counts (piece ∷ input)) same (record {
        rows = ap (λ s. followed_by s (glue input)) is ∙ ap (λ (rs : List (List Value)). record { rows = rs; end = Some fault }) (sym (append-nil (rows_of batch)));
        typed = All-cons (HoldsTypes types) batch [] typed (All-nil (HoldsTypes types));
        fault = of_table;
      })

  -- nothing behind the first failure counts
  pub counts : (input : List (Stream (List Value))) (outs : List (Outcome Batch)) (d : Decided Batch) → AreSettled input outs → decided outs ≡ Some d → Counts input d
  counts [] [] d settled is = nothing_made d (cc)
  counts [] (made ∷ outs) d settled is = absurd settled
  counts (piece ∷ input) [] d settled is = absurd settled
  counts (piece ∷ input) (Made batch ∷ outs) d settled is = one_more piece input batch (decided outs) d settled.0.0 settled.0.1 is (λ e so. counts input outs e settled.1 so)
  counts (piece ∷ input) (Ended batch fault ∷ outs) d settled is = ended piece input batch fault d settled.0.0 settled.0.1 settled.0.2 (cc)
  counts (piece ∷ input) (ReadFault ∷ outs) d settled is = absurd (cc)

module _ (before now : ℕ) where
  no_found : (one : Batch) (found : Option (Decided Batch)) → option_map (made_before (one ∷ [])) found ≡ None → found ≡ None
  no_found one None none = refl
  no_found one (Some d) none = absurd (cc)

  rose_at : (value : Outcome Batch) (outs : List (Outcome Batch)) → (value ≡ ReadFault → Rose before now) → (decided outs ≡ None → Rose before now) → decided (value ∷ outs) ≡ None → Rose before now
  rose_at (Made one) outs own later none = later (no_found one (decided outs) none)
  rose_at (Ended one fault) outs own later none = absurd (cc)
  rose_at ReadFault outs own later none = own refl

  -- where no outcomes count, a read failed
  pub rose_of : (outs : List (Item (Outcome Batch))) → All (λ (out : Item (Outcome Batch)). out.value ≡ ReadFault → Rose before now) outs → decided (map (λ (out : Item (Outcome Batch)). out.value) outs) ≡ None → Rose before now
  rose_of [] rose none = absurd (cc)
  rose_of (out ∷ outs) rose none =
      let R : Item (Outcome Batch) → Type 0 = λ one. one.value ≡ ReadFault → Rose before now in
      rose_at out.value (map (λ (one : Item (Outcome Batch)). one.value) outs) (All-head R out outs rose) (rose_of outs (All-tail R out outs rose)) none
