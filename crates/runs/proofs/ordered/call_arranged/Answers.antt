-- `runs::ordered::call_arranged` meets its contract: its moves ask for the pairs that are wanted, gathered (`gathered_moves`).
use mathlib.Core.Path.{◌∙◌}
use Rattle.runs.proofs.Ordering.{gathered_size, gathered_moves}
use Rattle.runs.proofs.ordered.call_arranged.Goals as goal

pub invariant_of-placed : goal.invariant_of-placed
invariant_of-placed c =
    let w = c.args.work.now in
    record {
      sized = c.requires;
      long = gathered_size w.wanted w.n c.args.order.now c.as_ref-wanted.result (c.as_ref-wanted.ensures.value ∙ c.gather_wanted-gathered.ensures);
      some = w.some;
      few = w.few;
    }

pub returns : goal.returns
returns c =
    let w = c.args.work.now in
    rw (gathered_moves _ w.wanted w.n c.args.order.now c.as_ref-wanted.result (c.as_ref-wanted.ensures.value ∙ c.gather_wanted-gathered.ensures)) at c.call.ensures
