-- `loads::load8` meets its contract. Assumes nothing.
use mathlib.Core.List.{List, [], ◌∷◌}
use mathlib.Core.Path.{sym, ◌∙◌}
use Prim.Native.Nat.{ℕ, zero, suc, ◌+◌, ◌<◌}
use lib.Dec.{lit<}
use lib.ListN.{get_or, take, drop}
use Rattle.std.proofs.Common.{rules}
use Rattle.std.proofs.lemmas.List.{get_or-drop}
use Rattle.std.proofs.lemmas.Nat.{le_bytes_8}
use Rattle.words.proofs.Bytes.{library_bytes}
use Rattle.loads.proofs.load8.Goals as goal

-- what is taken of bytes is bytes
byte : (n : ℕ) (l : List ℕ) (i : ℕ) → ((j : ℕ) → get_or l j 0 < 256) → get_or (take n l) i 0 < 256
byte zero l i h = lit< tt
byte (suc n) [] i h = lit< tt
byte (suc n) (x ∷ l) zero h = h 0
byte (suc n) (x ∷ l) (suc i) h = byte n l i (λ j. h (suc j))

pub returns : goal.returns
returns c =
    let small = byte 8 (drop c.args.at c.args.s.now) in
    sym (library_bytes 8 c.from_le_bytes.result)
    ∙ le_bytes_8 c.bytes.result _ (search rules) (λ i. rw c.bytes.ensures (small i (λ j. rw get_or-drop (c.type_inv.s (c.args.at + j)).fits))) c.from_le_bytes.ensures
    ∙ c.bytes.ensures
