-- `exponent_texts::find_exponent` meets its contract. Assumes nothing.
use native.Mathlib.Omega.{arith}
use Rattle.formats.specs.Formats.{letter_from}
use Rattle.coefficients.proofs.Places.{e_apart}
use Rattle.exponent_texts.proofs.Exponents.{two-small}
use Rattle.exponent_texts.proofs.Magnitudes.{wrong-tail, wrong-none, size-inside, found-wide, found-held, found-reads, canonical-rules}
use Rattle.exponent_texts.proofs.find_exponent.Goals as goal

pub find_coefficient-requires : goal.find_coefficient-requires
find_coefficient-requires c = (c.requires, rw c.letter.ensures (e_apart c.args.case))

pub returns-then-last-text : goal.returns-then-last-text
returns-then-last-text c =
    let C = rw c.letter.ensures at c.in_ok-coefficient.ensures in
    wrong-tail c.args.signed (letter_from c.args.case 101) (e_apart c.args.case) c.args.text.now _ C c.exponent_digits-expo.result c.exponent_digits-expo.ensures c.if-last-text.true

pub returns-then-last-start : goal.returns-then-last-start
returns-then-last-start c =
    let C = rw c.letter.ensures at c.in_ok-coefficient.ensures in
    wrong-none c.args.signed (letter_from c.args.case 101) (e_apart c.args.case) c.args.text.now _ C c.exponent_digits-expo.result c.exponent_digits-expo.ensures c.if-last-text.false c.if-last-start.true

pub is_canonical-requires : goal.is_canonical-requires
is_canonical-requires c =
    let C = rw c.letter.ensures at c.in_ok-coefficient.ensures in
    size-inside c.args.signed (letter_from c.args.case 101) (e_apart c.args.case) c.args.text.now _ C c.exponent_digits-expo.result c.exponent_digits-expo.ensures c.if-last-text.false c.if-last-start.false

pub returns-in_default : goal.returns-in_default
returns-in_default c =
    let C = rw c.letter.ensures at c.in_ok-coefficient.ensures in
    found-wide c.args.signed (letter_from c.args.case 101) (e_apart c.args.case) c.args.text.now _ C c.exponent_digits-expo.result c.exponent_digits-expo.ensures c.if-last-text.false c.if-last-start.false
    (c.is_canonical.ensures.yes c.if-is_canonical.true) (omega (arith, rw c.in_default.is at C.number))

pub zeros-requires : goal.zeros-requires
zeros-requires c = ((c.is_canonical.ensures.yes c.if-is_canonical.true).enough, two-small c.exponent_digits-expo.ensures)

pub returns-then-is_canonical : goal.returns-then-is_canonical
returns-then-is_canonical c =
    let C = rw c.letter.ensures at c.in_ok-coefficient.ensures in
    found-held c.args.signed (letter_from c.args.case 101) (e_apart c.args.case) c.args.text.now _ C c.exponent_digits-expo.result c.exponent_digits-expo.ensures c.if-last-text.false c.if-last-start.false
    _ (rw c.in-Some.is at C.number).1 (c.is_canonical.ensures.yes c.if-is_canonical.true) (rw c.zeros.ensures at c.times_power.ensures)

pub returns : goal.returns
returns c =
    let C = rw c.letter.ensures at c.in_ok-coefficient.ensures in
    let F = found-reads c.args.signed (letter_from c.args.case 101) (e_apart c.args.case) c.args.text.now _ C c.exponent_digits-expo.result c.exponent_digits-expo.ensures c.if-last-text.false c.if-last-start.false in
    (_, F, λ K. c.is_canonical.ensures.no c.if-is_canonical.false (canonical-rules c.args.signed (letter_from c.args.case 101) (e_apart c.args.case) c.args.text.now _ C c.exponent_digits-expo.result c.exponent_digits-expo.ensures c.if-last-text.false c.if-last-start.false K))
