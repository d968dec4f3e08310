-- `words::rows_at` meets its contract: each row is the word of its place.
use Rattle.std.proofs.Common.{rules}
use Rattle.sets.proofs.Tabulated.{from_fn_tabulated}
use Rattle.words.proofs.rows_at.Goals as goal

pub returns : goal.returns
returns c = from_fn_tabulated _ _ _ (λ i y q l k. search rules) c.from_fn.ensures.items
