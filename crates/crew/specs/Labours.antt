-- What a labour shows of itself.
use Rattle.std.specs.Prelude.{◌≡◌, ℕ, List, []}

-- what its tests speak of, the numbers that it loaded and the outcomes that it keeps, each in order, and its count of failures
pub record LabourView (Out About : Type 0) : Type 0 where
  pub about : About
  pub loaded : List ℕ
  pub results : List Out
  pub failures : ℕ

module _ {Out About : Type 0} where
  -- the view of these parts
  abbrev pub labour_view : About → List ℕ → List Out → ℕ → LabourView Out About
  labour_view about loaded results failures = record { about = about; loaded = loaded; results = results; failures = failures }

  -- the labour has done nothing yet
  pub record IsFresh {L : Type 0} (see : L → LabourView Out About) (labour : L) : Type 0 where
    pub loaded : (see labour).loaded ≡ []
    pub results : (see labour).results ≡ []
    pub failures : (see labour).failures ≡ 0
