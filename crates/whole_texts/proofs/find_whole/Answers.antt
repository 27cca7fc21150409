-- `whole_texts::find_whole` meets its contract. Assumes nothing.
use mathlib.Core.Path.{refl}
use borrow.Author.Rules.{rules}
use Rattle.reading.proofs.Faithful.{letters-alphabet}
use Rattle.digit_runs.proofs.Runs.{front-inside}
use Rattle.whole_texts.proofs.Texts.{found-stop, found_none, found-reads, found-broken, found-whole}
use Rattle.whole_texts.proofs.find_whole.Goals as goal

pub scan-run-requires : goal.scan-run-requires
scan-run-requires c = front-inside c.front-start.ensures c.requires

pub returns-then-end-text : goal.returns-then-end-text
returns-then-end-text c = found-stop _ _ (letters-alphabet _ _ c.args.numerals.apart.0 c.args.numerals.few.0) refl _ _ _ _ c.front-start.ensures c.scan-run.ensures.stops c.if-end-text.true

pub returns-then-end-start : goal.returns-then-end-start
returns-then-end-start c = found_none _ _ (letters-alphabet _ _ c.args.numerals.apart.0 c.args.numerals.few.0) refl _ _ _ _ c.front-start.ensures c.scan-run.ensures.stops c.if-end-text.false c.if-end-start.true

pub returns-then-end-gt1 : goal.returns-then-end-gt1
returns-then-end-gt1 c = (
  _,
  found-reads _ _ (letters-alphabet _ _ c.args.numerals.apart.0 c.args.numerals.few.0) refl _ _ _ _ c.front-start.ensures c.scan-run.ensures.stops c.if-end-text.false c.if-end-start.false,
  found-broken _ _ (letters-alphabet _ _ c.args.numerals.apart.0 c.args.numerals.few.0) refl _ _ _ _ c.front-start.ensures c.scan-run.ensures.stops c.if-end-text.false c.if-end-start.false c.if-text-start-eq48.true c.if-end-gt1.true,
)

pub returns : goal.returns
returns c =
    found-whole _ _ (letters-alphabet _ _ c.args.numerals.apart.0 c.args.numerals.few.0) refl _ _ _ _ c.front-start.ensures c.scan-run.ensures.stops c.if-end-text.false c.if-end-start.false
    (λ z. search rules) c.scan-run.ensures.number
