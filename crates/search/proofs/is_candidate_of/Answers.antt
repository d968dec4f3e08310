-- `search::is_candidate_of` meets its contract: a place outside the set is no candidate, and one in it is asked.
use mathlib.Core.Path.{sym, ◌∙◌}
use Rattle.sets.proofs.OnePlace.{in_places_lem}
use Rattle.search.proofs.Within.{of_absent}
use Rattle.search.proofs.is_candidate_of.Goals as goal

pub returns-then-not-has : goal.returns-then-not-has
returns-then-not-has c = of_absent _ _ _ _ (sym c.has.ensures ∙ c.if-not-has.true)

pub stands-requires : goal.stands-requires
stands-requires c =
    let e = sym c.has.ensures ∙ c.if-not-has.false in
    (in_places_lem _ _ c.ranges.set.fits e, e)
