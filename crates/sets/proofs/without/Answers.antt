-- `sets::without` meets its contract: a place that is in the set is taken off as its power of two.
use mathlib.Core.Path.{sym, ◌∙◌}
use Rattle.sets.proofs.OnePlace.{power, in_places_lem, large, without_of}
use Rattle.sets.proofs.without.Goals as goal

pub overflow_shl-result : goal.overflow_shl-result
overflow_shl-result c = in_places_lem _ _ c.ranges.a.fits (sym c.has.ensures ∙ c.if-not-has.false)

pub overflow_sub-result : goal.overflow_sub-result
overflow_sub-result c =
    rw (power _ (in_places_lem _ _ c.ranges.a.fits (sym c.has.ensures ∙ c.if-not-has.false)))
    (large _ _ (sym c.has.ensures ∙ c.if-not-has.false))

pub returns : goal.returns
returns c =
    rw (power _ (in_places_lem _ _ c.ranges.a.fits (sym c.has.ensures ∙ c.if-not-has.false)))
    (without_of _ _ (sym c.has.ensures ∙ c.if-not-has.false))
