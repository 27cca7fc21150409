-- A text that stands in a buffer: just before an end, or at the start.
use Rattle.std.specs.Prelude.{List, ◌++◌, ℕ, ◌-◌, length, take, drop}

-- The buffer l with the text t in it, ending where index e begins. What stands before and behind the text is as it was.
unfoldable pub ended : List ℕ → ℕ → List ℕ → List ℕ
ended l e t = take (e - length t) l ++ (t ++ drop e l)

-- The buffer l with the text t at its start. What stands behind the text is as it was.
unfoldable pub begun : List ℕ → List ℕ → List ℕ
begun l t = t ++ drop (length t) l
