-- The winner of a oneof of messages by one pass: its number and pieces are those of the member that is chosen.
use Rattle.std.proofs.Common.{◌≡◌, ◌∙◌, sym, ap, refl, ℕ, List, [], ◌∷◌, ◌++◌, Bool, true, false, Option, Some, None, append-nil, if◌then◌else◌}
use Rattle.std.specs.List.{cons_option, concat}
use Rattle.std.proofs.lemmas.Bool.{eq-eqb, eqb-true}
use Rattle.std.proofs.lemmas.List.{append_assoc}
use Rattle.pb_wire.specs.Records.{Content, Varint, Eight, Bytes, Four}
use Rattle.pb_wire.specs.Payloads.{Field, block_in, blocks, fields_of, is_whole, chosen_member}
use Rattle.pb_wire.proofs.FieldLaws.{joined}
use Rattle.plan_scan.specs.Member.{is_last}
use Rattle.plan_scan.specs.Choice.{WonSoFar, won_by, won_over, block_list, kept_pieces, nothing_won, won_of}
use Rattle.plan_scan.proofs.MemberLaws.{winner_from, winner_start, winner_again, winner_changed, winner_skipped, winner_end}

-- the records of one piece, and then those of the others
pub over_both : (test : Field → Bool) (won : WonSoFar) (front back : List Field) → won_over test won (front ++ back) ≡ won_over test (won_over test won front) back
over_both test won [] back = refl
over_both test won (field ∷ front) back = over_both test (won_by test won field) front back

pub over_piece : (test : Field → Bool) (won : WonSoFar) (piece : List ℕ) (later : List (List ℕ)) → is_whole piece ≡ true →
    won_over test won (fields_of (concat (piece ∷ later))) ≡ won_over test (won_over test won (fields_of piece)) (fields_of (concat later))
over_piece test won piece later whole = ap (won_over test won) (joined piece (concat later) whole).fields ∙ over_both test won (fields_of piece) (fields_of (concat later))

abbrev the_won : Option ℕ → List (List ℕ) → WonSoFar
the_won number pieces = record { number = number; pieces = pieces }

-- each payload is that of a member, whatever the number
abbrev pub OnlyMembers : (Field → Bool) → Type 0
OnlyMembers test = (field : Field) → test field ≡ false → block_list field.content ≡ []

content_in : (here number : ℕ) (content : Content) → block_list content ≡ [] → block_in number (record { number = here; content = content }) ≡ None
content_in here number (Varint value) none = refl
content_in here number (Eight value) none = refl
content_in here number (Bytes bytes) none = absurd (cc)
content_in here number (Four value) none = refl

own_content : (here : ℕ) (content : Content) (left : List Field) → block_list content ++ blocks here left ≡ blocks here (record { number = here; content = content } ∷ left)
own_content here (Varint value) left = refl
own_content here (Eight value) left = refl
own_content here (Bytes bytes) left = ap (λ b. cons_option (if b then Some bytes else None) (blocks here left)) (sym (eq-eqb here here refl))
own_content here (Four value) left = refl

last_is : (last : Option ℕ) (number : ℕ) → is_last last number ≡ true → last ≡ Some number
last_is None number e = absurd (cc)
last_is (Some last) number e = ap Some (eqb-true last number e)

-- the winner after one more record, by whether it is one of a member
abbrev won_if : Bool → WonSoFar → Field → WonSoFar
won_if member won field = if member then the_won (Some field.number) (kept_pieces (is_last won.number field.number) won.pieces ++ block_list field.content) else won

-- how the winner so far stands to the records since any other member, to those behind the last member, and to those that are left
record Stands (won : WonSoFar) (since behind left : List Field) : Type 0 where
  same : (number : ℕ) → won.number ≡ Some number → won.pieces ++ blocks number left ≡ blocks number since
  none : won.number ≡ None → won.pieces ≡ []
  between : (number : ℕ) → blocks number left ≡ blocks number behind

over_left : (test : Field → Bool) → OnlyMembers test → (won : WonSoFar) (since behind left : List Field) → Stands won since behind left → won_over test won left ≡ won_of (winner_from test won.number since behind left)
over_left test only won since behind [] stands = at_end won.number won.pieces stands.same stands.none
  where
    at_end : (last : Option ℕ) (pieces : List (List ℕ)) → ((number : ℕ) → last ≡ Some number → pieces ++ [] ≡ blocks number since) → (last ≡ None → pieces ≡ []) →
        ◌≡◌ {A = WonSoFar} (record { number = last; pieces = pieces }) (won_of (winner_from test last since behind []))
    at_end None pieces same none = ap (λ p. the_won None p) (none refl)
    at_end (Some number) pieces same none =
        ap (λ p. the_won (Some number) p) (sym (append-nil pieces) ∙ same number refl) ∙ ap won_of (sym (winner_end test number since behind))
over_left test only won since behind (field ∷ left) stands =
    (elim (test field) as (λ b. test field ≡ b → won_over test (won_if b won field) left ≡ won_of (winner_from test won.number since behind (field ∷ left))) [
      | true ↦ λ member. member_next (λ w s b stands-left. over_left test only w s b left stands-left) (is_last won.number field.number) refl member
      | false ↦ λ other.
          over_left test only won since behind left (record {
            same = λ number is. ap (λ b. won.pieces ++ b) (sym (skipped other number left)) ∙ stands.same number is;
            none = stands.none;
            between = λ number. sym (skipped other number left) ∙ stands.between number;
          })
          ∙ ap won_of (sym (winner_skipped test won.number since behind field left other))
    ]) refl
  where
    skipped : test field ≡ false → (number : ℕ) (rest : List Field) → blocks number (field ∷ rest) ≡ blocks number rest
    skipped other number rest = ap (λ found. cons_option found (blocks number rest)) (content_in field.number number field.content (only field other))

    member_next : ((w : WonSoFar) (s b : List Field) → Stands w s b left → won_over test w left ≡ won_of (winner_from test w.number s b left)) → (same : Bool) → is_last won.number field.number ≡ same → test field ≡ true →
        won_over test (the_won (Some field.number) (kept_pieces same won.pieces ++ block_list field.content)) left ≡ won_of (winner_from test won.number since behind (field ∷ left))
    member_next rest true last member =
        rest (the_won (Some field.number) (won.pieces ++ block_list field.content)) since left (record {
          same = λ number is.
              let here : field.number ≡ number = cc in
              append_assoc won.pieces (block_list field.content) (blocks number left)
              ∙ ap (λ n. won.pieces ++ (block_list field.content ++ blocks n left)) (sym here)
              ∙ ap (λ b. won.pieces ++ b) (own_content field.number field.content left)
              ∙ stands.same field.number (last_is won.number field.number last)
              ∙ ap (λ n. blocks n since) here;
          none = λ none. absurd (cc);
          between = λ number. refl;
        })
        ∙ ap won_of (sym (winner_again test won.number since behind field left member last))
    member_next rest false last member =
        rest (the_won (Some field.number) (block_list field.content)) behind left (record {
          same = λ number is.
              let here : field.number ≡ number = cc in
              ap (λ n. block_list field.content ++ blocks n left) (sym here)
              ∙ own_content field.number field.content left
              ∙ stands.between field.number
              ∙ ap (λ n. blocks n behind) here;
          none = λ none. absurd (cc);
          between = λ number. refl;
        })
        ∙ ap won_of (sym (winner_changed test won.number since behind field left member last))

-- the number and the pieces of the member that is chosen
pub over_all : (test : Field → Bool) → OnlyMembers test → (fields : List Field) → won_over test nothing_won fields ≡ won_of (chosen_member test fields)
over_all test only fields =
    over_left test only nothing_won fields fields fields (record { same = λ number is. absurd (cc); none = λ _. refl; between = λ number. refl })
    ∙ ap won_of (winner_start test fields)
