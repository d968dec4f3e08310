-- `preference::place_all` meets its contract: too many, or bytes behind, or as the first n numbers are.
use Rattle.preference.proofs.Placing.{too_many, none_placed, no_zeros}
use Rattle.preference.proofs.place_all.Goals as goal

pub returns-then-n-gt-MOST : goal.returns-then-n-gt-MOST
returns-then-n-gt-MOST c = too_many _ _ c.if-n-gt-MOST.true c.well_formed.0.1.0.1

pub returns-then-not-zeros_from : goal.returns-then-not-zeros_from
returns-then-not-zeros_from c =
    let long = c.well_formed.0.1.0.1 in
    none_placed _ _ c.if-n-gt-MOST.false long
    (no_zeros _ _ c.if-n-gt-MOST.false long _ c.zeros_from.ensures c.if-not-zeros_from.true)
