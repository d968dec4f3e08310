-- `runs::Run::call_core` meets its contract: the table passed, so the core works on the side.
use mathlib.Core.Path.{◌≡◌, sym}
use native.Mathlib.Omega.{arith}
use borrow.Author.Rules.{rules}
use lib.ListN.{length}
use Rattle.table.proofs.Legality.{legal_of}
use Rattle.runs.proofs.paused.Run.call_core.Goals as goal

pub invariant_of-on : goal.invariant_of-on
invariant_of-on g c =
    let rows-length : length c.args.self.table.rows ≡ 64 = search rules in
    record { legal = legal_of c.args.self.table rows-length (sym c.in_ok-check_table.ensures) }

pub returns : goal.returns
returns g c = record {
  table = λ l. absurd (omega (arith, l, c.in_ok-check_table.ensures));
  rules = λ z. rw (c.requires, c.mode_of.ensures) at c.call.ensures;
}
