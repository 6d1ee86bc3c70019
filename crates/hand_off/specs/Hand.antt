-- The hand-off and its passes as callers see them.
use Rattle.std.specs.Prelude.{◌≡◌, ℕ, ◌+◌, ◌≤◌, List, [], length, sum_by, refl}
use Rattle.std.specs.Coded.{Coded, code_by, coded×, coded_ℕ, coded_list}
use Rattle.atomic_table.specs.Seated.{TableId, table_id_coded}

-- which queue it is, how many items it takes, and how many shares its passes have together
pub record Hand : Type 0 where
  pub table : TableId
  pub capacity : ℕ
  pub passes : ℕ

-- whose pass it is, the items that it offered and that it took, each in order, and its share
pub record PassView (T : Type 0) : Type 0 where
  pub of : Hand
  pub offered : List T
  pub taken : List T
  pub share : ℕ

-- what is left of a hand-off: the items that were offered, and those that were taken so far
pub record RestView (T : Type 0) : Type 0 where
  pub offered : List T
  pub taken : List T

-- what is left is stored as its two lists
abbrev pub rest_code : {T : Type 0} → Coded T → Coded (RestView T)
rest_code {T} code =
    code_by (List T × List T) (coded× (coded_list code) (coded_list code)) (λ r. (r.offered, r.taken)) (λ p. record { offered = p.0; taken = p.1 }) (λ _. refl)

-- a hand-off is stored as the tuple of its fields
abbrev pub hand_code : Coded Hand
hand_code =
    code_by
    (TableId × (ℕ × ℕ))
    (coded× table_id_coded (coded× coded_ℕ coded_ℕ))
    (λ h. (h.table, (h.capacity, h.passes)))
    (λ p. record { table = p.0; capacity = p.1.0; passes = p.1.1 })
    (λ _. refl)

-- and so is a pass
abbrev pub pass_code : {T : Type 0} → Coded T → Coded (PassView T)
pass_code {T} code =
    code_by
    (Hand × (List T × (List T × ℕ)))
    (coded× hand_code (coded× (coded_list code) (coded× (coded_list code) coded_ℕ)))
    (λ p. (p.of, (p.offered, (p.taken, p.share))))
    (λ q. record { of = q.0; offered = q.1.0; taken = q.1.1.0; share = q.1.1.1 })
    (λ _. refl)

module _ {T : Type 0} where
  -- the two lists have the same items, each as often
  abbrev pub IsSameBag : List T → List T → Type 0
  IsSameBag xs ys = (f : T → ℕ) → sum_by f xs ≡ sum_by f ys

  -- the queue may hold these items beside a pass: with what the others offered and took, what was offered is what was taken and is there. With all shares there are no others
  pub record IsBeside (offered taken : List T) (share passes : ℕ) (items : List T) : Type 0 where
    pub others_offered : List T
    pub others_taken : List T
    pub balance : (f : T → ℕ) → sum_by f offered + sum_by f others_offered ≡ sum_by f taken + sum_by f others_taken + sum_by f items
    pub alone : share ≡ passes → (others_offered ≡ []) × (others_taken ≡ [])

  -- what was offered is what was taken and some more
  abbrev pub IsLeft : List T → List T → Type 0
  IsLeft offered taken = (left : List T) × ((f : T → ℕ) → sum_by f offered ≡ sum_by f taken + sum_by f left)

  -- at one moment the queue held so many items, which may be there beside the pass
  abbrev pub QueueHeld : ℕ → PassView T → Type 0
  QueueHeld n p = (items : List T) × (length items ≡ n) × IsBeside p.offered p.taken p.share p.of.passes items

  -- with all shares, nothing was taken that wasn't offered
  abbrev pub TakesOffered : PassView T → Type 0
  TakesOffered p = p.share ≡ p.of.passes → (f : T → ℕ) → sum_by f p.taken ≤ sum_by f p.offered
