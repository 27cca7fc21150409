-- A text at the end of a lent buffer that may lack room for it (document 01, the end entry): the start, every byte afterwards, and the part.
use Rattle.std.specs.Prelude.{cond, List, [], ◌≡◌, ℕ, ◌-◌, leb, length}
use Rattle.buffer.specs.AtEnd.{ended}

-- Where the text t starts in a buffer of n bytes at whose end it stands; without room, n.
abbrev pub end_start : ℕ → List ℕ → ℕ
end_start n t = cond (leb (length t) n) (n - length t) n

-- The buffer l then has t at its end, and what is in front as before; without room it is as before.
abbrev pub end_buffer : List ℕ → List ℕ → List ℕ
end_buffer l t = cond (leb (length t) (length l)) (ended l (length l) t) l

-- The end part of a buffer of n bytes that holds t; without room, the empty one.
abbrev pub end_part : ℕ → List ℕ → List ℕ
end_part n t = cond (leb (length t) n) t []

-- What an end entry promises of the text t and the buffer l: its answer r, and the buffer l' that it leaves.
pub record EndPromise (t l : List ℕ) (r : ℕ) (l' : List ℕ) : Type 0 where
  pub answers : r ≡ end_start (length l) t
  pub leaves : l' ≡ end_buffer l t
