-- `reader::judge` meets its contract. Assumes nothing.
use Rattle.reader.proofs.Outcomes.{exponent-judged}
use Rattle.reader.proofs.judge.Goals as goal

pub returns-in-Numeral : goal.returns-in-Numeral
returns-in-Numeral c = rw c.in-Numeral.is c.read_numeral.ensures

pub returns-in-Exponent : goal.returns-in-Exponent
returns-in-Exponent c = rw c.in-Exponent.is (exponent-judged _ _ _ _ c.in-Exponent.case c.read_exponent.ensures)
