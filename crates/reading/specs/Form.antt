-- What a format is to a reader, and the place at which a text leaves its shape (document 01, "Reading").
use Rattle.std.specs.Prelude.{List, ◌++◌, ◌≡◌, ℕ, suc, ◌≤◌, ◌<◌, ℤ, length, take}

-- A shape: what stands in its texts, when that is right, and how it is written.
pub record Shape : Type 1 where
  pub Parts : Type 0
  pub Shaped : Parts → Type 0
  pub written : Parts → List ℕ

-- A format: its shape, which of its texts are canonical, and the whole number that one stands for.
pub record Form : Type 1 where
  pub shape : Shape
  pub Canonical : shape.Parts → Type 0
  pub Stands : shape.Parts → ℤ → Type 0

-- t is of the shape, and these are its parts.
pub record Reads (S : Shape) (t : List ℕ) (x : S.Parts) : Type 0 where
  pub shaped : S.Shaped x
  pub text : t ≡ S.written x

abbrev pub HasShape : Shape → List ℕ → Type 0
HasShape S t = (x : S.Parts) × Reads S t x

-- Some continuation makes t a text of the shape.
abbrev pub Begins : Shape → List ℕ → Type 0
Begins S t = (rest : List ℕ) × HasShape S (t ++ rest)

-- t is not of the shape, and k is the first byte after which the bytes so far begin no such text; if t merely stops early, its length.
pub record Place (S : Shape) (t : List ℕ) (k : ℕ) : Type 0 where
  pub not : HasShape S t → ⊥
  pub inside : k ≤ length t
  pub before : (j : ℕ) → j < k → Begins S (take (suc j) t)
  pub here : k < length t → Begins S (take (suc k) t) → ⊥
