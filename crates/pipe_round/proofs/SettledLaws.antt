-- What counts of the outcomes of an input's pieces.
use Rattle.std.proofs.Common.{◌≡◌, ◌∙◌, List, [], ◌∷◌, inl, inr, Bool, Option, Some, None, length, map, refl, sym, subst}
use Rattle.std.specs.Prelude.{IsSome}
use Rattle.std.specs.List.{All}
use Rattle.std.specs.Option.{option_map}
use Rattle.std.proofs.lemmas.List.Elements.{All-nil, All-cons, All-head, All-tail}
use Rattle.sub_types.specs.declared.fault.Fault.{Fault}
use Rattle.sub_types.specs.Stream.{Stream}
use Rattle.plan_denote.specs.Rows.{Row}
use Rattle.plan_pipes.specs.declared.pipe.Step.{Step}
use Rattle.plan_pipes.specs.RowMeaning.{Table}
use Rattle.pipe_steps.specs.Marked.{HaveMarks}
use Rattle.pipe_steps.specs.Tables.{tables_seen}
use Rattle.round_end.specs.declared.outcome.Outcome.{Outcome}
use Rattle.round_end.specs.declared.outcome.Outcome.TheVariants.{Made, Ended, ReadFault}
use Rattle.round_end.specs.Decided.{Decided, decided, made_before}
use Rattle.pipe_work.specs.declared.kept.Kept.{Kept}
use Rattle.pipe_work.specs.declared.passed.Passed.{Passed}
use Rattle.pipe_work.specs.Kept.{IsKept, IsKeptOf}
use Rattle.pipe_work.specs.Passed.{IsPassed, IsWorkedTo}
use Rattle.pipe_work.specs.Pipe.{StepsSeen}
use Rattle.pipe_round.specs.Settled.{AreSettled, HavePut, HasMarks}

some_of : (end : Option Fault) (fault : Fault) → end ≡ Some fault → IsSome end
some_of None fault is = absurd (cc)
some_of (Some other) fault is = refl

module _ (pipe : StepsSeen) where
  -- what the steps gave, where this is kept of it: without a fault, and with one
  pub passed_made : (piece : Stream Row) (passed : Outcome Passed) (own : Kept) → IsWorkedTo pipe piece passed → IsKeptOf pipe.breaker passed (Made own)
      → (one : Passed) × IsPassed pipe piece one × (one.piece.end ≡ None) × IsKept pipe.breaker one own
  passed_made piece (Made one) own worked kept = (one, worked.0, worked.1, kept)
  passed_made piece (Ended one fault) own worked kept = absurd kept
  passed_made piece ReadFault own worked kept = absurd kept

  pub passed_ended : (piece : Stream Row) (passed : Outcome Passed) (own : Kept) (fault : Fault) → IsWorkedTo pipe piece passed → IsKeptOf pipe.breaker passed (Ended own fault)
      → (one : Passed) × IsPassed pipe piece one × IsSome one.piece.end × IsKept pipe.breaker one own
  passed_ended piece (Made one) own fault worked kept = absurd kept
  passed_ended piece (Ended one same) own fault worked kept = (one, worked.0, some_of one.piece.end same worked.1, kept.0)
  passed_ended piece ReadFault own fault worked kept = absurd kept

  put_more : (piece : Stream Row) (input : List (Stream Row)) (one : Passed) (own : Kept) (found : Option (Decided Kept)) (d : Decided Kept) → IsPassed pipe piece one → one.piece.end ≡ None → IsKept pipe.breaker one own
      → option_map (made_before (own ∷ [])) found ≡ Some d → ((e : Decided Kept) → found ≡ Some e → HavePut pipe input e.made e.end) → HavePut pipe (piece ∷ input) d.made d.end
  put_more piece input one own None d passed none kept is from = absurd (cc)
  put_more piece input one own (Some e) d passed none kept is from =
      let same : made_before (own ∷ []) e ≡ d = cc in
      let later = from e refl in
      subst (λ (all : Decided Kept). HavePut pipe (piece ∷ input) all.made all.end) same (record { made = one ∷ later.made; put = (passed, inl (none, later.put)); are_kept = (kept, later.are_kept) })

  -- what counts is what was made of the pieces up to the first fault
  pub put_of : (input : List (Stream Row)) (outs : List (Outcome Kept)) (d : Decided Kept) → AreSettled pipe input outs → decided outs ≡ Some d → HavePut pipe input d.made d.end
  put_of [] [] d settled is =
      let same : record { made = []; end = None } ≡ d = cc in
      subst (λ (all : Decided Kept). HavePut pipe [] all.made all.end) same (record { made = []; put = tt; are_kept = tt })
  put_of [] (out ∷ outs) d settled is = absurd settled
  put_of (piece ∷ input) [] d settled is = absurd settled
  put_of (piece ∷ input) (Made own ∷ outs) d settled is =
      let of = passed_made piece settled.0.passed own settled.0.worked settled.0.kept in
      put_more piece input of.0 own (decided outs) d of.1 of.2 of.3 is (λ e found. put_of input outs e settled.1 found)
  put_of (piece ∷ input) (Ended own fault ∷ outs) d settled is =
      let of = passed_ended piece settled.0.passed own fault settled.0.worked settled.0.kept in
      let same : record { made = own ∷ []; end = Some fault } ≡ d = cc in
      subst (λ (all : Decided Kept). HavePut pipe (piece ∷ input) all.made all.end) same (record { made = of.0 ∷ []; put = (of.1, inr (of.2, refl, refl)); are_kept = (of.3, tt) })
  put_of (piece ∷ input) (ReadFault ∷ outs) d settled is = absurd (cc)

  abbrev Own : Kept → Type 0
  Own one = HaveMarks (tables_seen pipe.tables) pipe.steps one.marks.items

  marks_more : (one : Kept) (found : Option (Decided Kept)) (d : Decided Kept) → Own one → option_map (made_before (one ∷ [])) found ≡ Some d → ((e : Decided Kept) → found ≡ Some e → All Own e.made) → All Own d.made
  marks_more one None d have is from = absurd (cc)
  marks_more one (Some e) d have is from =
      let same : made_before (one ∷ []) e ≡ d = cc in
      subst (λ (all : Decided Kept). All Own all.made) same (All-cons Own one e.made have (from e refl))

  -- and it has marks for each step
  pub marks_put : (outs : List (Outcome Kept)) (d : Decided Kept) → All (HasMarks pipe) outs → decided outs ≡ Some d → All Own d.made
  marks_put [] d have is = let same : record { made = []; end = None } ≡ d = cc in subst (λ (all : Decided Kept). All Own all.made) same (All-nil Own)
  marks_put (Made one ∷ outs) d have is =
      marks_more one (decided outs) d (All-head (HasMarks pipe) (Made one) outs have) is (λ e found. marks_put outs e (All-tail (HasMarks pipe) (Made one) outs have) found)
  marks_put (Ended one fault ∷ outs) d have is =
      let same : record { made = one ∷ []; end = Some fault } ≡ d = cc in
      subst (λ (all : Decided Kept). All Own all.made) same (All-cons Own one [] (All-head (HasMarks pipe) (Ended one fault) outs have) (All-nil Own))
  marks_put (ReadFault ∷ outs) d have is = absurd (cc)

-- marks of the same steps are of as many rows
pub same_rows : (tables : List Table) (steps : List Step) (marks others : List (List Bool)) → HaveMarks tables steps marks → HaveMarks tables steps others → map length others ≡ map length marks
same_rows tables [] [] [] have also = refl
same_rows tables [] [] (other ∷ others) have also = absurd also
same_rows tables [] (own ∷ marks) others have also = absurd have
same_rows tables (step ∷ steps) [] others have also = absurd have
same_rows tables (step ∷ steps) (own ∷ marks) [] have also = absurd also
same_rows tables (step ∷ steps) (own ∷ marks) (other ∷ others) have also = λ i. (also.0 ∙ sym have.0) i ∷ same_rows tables steps marks others have.1 also.1 i

-- marks of as many rows belong to the same steps
pub have_same : (tables : List Table) (steps : List Step) (marks others : List (List Bool)) → HaveMarks tables steps marks → map length others ≡ map length marks → HaveMarks tables steps others
have_same tables [] [] [] have same = tt
have_same tables [] [] (other ∷ others) have same = absurd (cc)
have_same tables [] (own ∷ marks) others have same = absurd have
have_same tables (step ∷ steps) [] others have same = absurd have
have_same tables (step ∷ steps) (own ∷ marks) [] have same = absurd (cc)
have_same tables (step ∷ steps) (own ∷ marks) (other ∷ others) have same =
    let here : length other ≡ length own = cc in
    let rest : map length others ≡ map length marks = cc in
    (here ∙ have.0, have_same tables steps marks others have.1 rest)
