-- The C edge (document 01, "The C edge"): a nonzero number sets a flag, signedness or "precision given"; an answer is two numbers.
use Rattle.std.specs.Prelude.{Option, None, Some, Bool, not, cond, List, ◌≡◌, ℕ, eqb}
use Rattle.reader.specs.Answers as reader
use Rattle.outcomes.specs.Outcomes.{Outcome, number_of, value_of}
use Rattle.writing.specs.Promise.{Written, number, value, after}
use Rattle.writing.specs.declared.Options.{Options}

abbrev pub set : ℕ → Bool
set n = not (eqb n 0)

abbrev pub given_precision : ℕ → ℕ → Option ℕ
given_precision given digits = cond (set given) (Some digits) None

abbrev pub options_from : ℕ → ℕ → ℕ → ℕ → ℕ → ℕ → ℕ → ℕ → Options
options_from plus alternate zeros fill align width given digits =
    record { plus = set plus; alternate = set alternate; zero = set zeros; fill = fill; align = align; width = width; precision = given_precision given digits }

-- What an entry that writes promises of the text t, the answer a that document 01 gives and the buffer l: two numbers, and the buffer l' that it leaves.
pub record Answers (t : List ℕ) (a : Written) (l : List ℕ) (n v : ℕ) (l' : List ℕ) : Type 0 where
  pub numbered : n ≡ number a
  pub returns : v ≡ value a
  pub leaves : l' ≡ after a t l

-- What the reading entry promises of the text t: the numbers of the one answer that document 01 gives.
pub record Reads (sgn : Bool) (bits format : ℕ) (t : List ℕ) (n v : ℕ) : Type 0 where
  pub outcome : Outcome
  pub is : reader.Answers sgn bits format t outcome
  pub numbered : n ≡ number_of outcome
  pub returns : v ≡ value_of outcome
