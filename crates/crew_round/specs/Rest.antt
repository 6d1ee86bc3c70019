-- The working of the items that are left in the queue.
use Rattle.std.specs.Prelude.{◌≡◌, ℕ, ◌≤◌, List, ◌++◌, map, sum_by, All, Contains}
use Rattle.std.specs.List.{flat_map}
use Rattle.hand_off.specs.Hand.{RestView, IsSameBag}
use Rattle.crew.specs.Labours.{LabourView}

-- where it stands: the queue, the labour, and the numbers of the items that were worked
pub record RestPoint (T Out About : Type 0) : Type 0 where
  pub rest : RestView T
  pub labour : LabourView Out About
  pub left : List ℕ

module _ {T Out About : Type 0} where
  -- the point of these parts
  abbrev pub rest_point : RestView T → LabourView Out About → List ℕ → RestPoint T Out About
  rest_point rest labour left = record { rest = rest; labour = labour; left = left }

-- the number of an item and of an outcome come first, and then which outcomes fit an item
module _ {T Out About : Type 0} (item_number : T → ℕ) (out_number : Out → ℕ) (fits : About → T → Out → Type 0) where
  -- each outcome fits one of the items, and they have the items' numbers in order
  pub record AreOf (about : About) (items : List T) (outs : List Out) : Type 0 where
    pub numbers : map out_number outs ≡ map item_number items
    pub fit : All (λ out. (item : T) × Contains items item × fits about item out) outs

  -- from the start on, each item that was taken was worked
  pub record Advanced (start now : RestPoint T Out About) : Type 0 where
    pub about : now.labour.about ≡ start.labour.about
    pub loaded : now.labour.loaded ≡ start.labour.loaded
    pub failures : start.labour.failures ≤ now.labour.failures
    pub offered : now.rest.offered ≡ start.rest.offered
    pub items : List T
    pub taken : now.rest.taken ≡ start.rest.taken ++ items
    pub noted : now.left ≡ start.left ++ map item_number items
    pub outs : List Out
    pub results : now.labour.results ≡ start.labour.results ++ outs
    pub are_of : AreOf start.labour.about items outs

  -- all items that were left were worked by the labour
  pub record IsWorkedOff (rest : RestView T) (old new : LabourView Out About) (left : List ℕ) : Type 0 where
    pub loaded : new.loaded ≡ old.loaded
    pub failures : old.failures ≤ new.failures
    pub items : List T
    pub all : IsSameBag rest.offered (rest.taken ++ items)
    pub noted : left ≡ map item_number items
    pub outs : List Out
    pub results : new.results ≡ old.results ++ outs
    pub are_of : AreOf old.about items outs

  -- all items that were left were worked by the last of the labours
  pub record IsWorkedByLast {L : Type 0} (see : L → LabourView Out About) (rest : RestView T) (old new : List L) (left : List ℕ) : Type 0 where
    pub loaded : map (λ l. (see l).loaded) new ≡ map (λ l. (see l).loaded) old
    pub failures : sum_by (λ l. (see l).failures) old ≤ sum_by (λ l. (see l).failures) new
    pub items : List T
    pub all : IsSameBag rest.offered (rest.taken ++ items)
    pub noted : left ≡ map item_number items
    pub outs : List Out
    pub results : flat_map (λ l. (see l).results) new ≡ flat_map (λ l. (see l).results) old ++ outs
    pub numbers : map out_number outs ≡ map item_number items
    pub fit : (a : About) → All (λ l. (see l).about ≡ a) old → All (λ out. (item : T) × Contains items item × fits a item out) outs
