-- `split::part` meets its contract: a refusal of the checks (`part-refused`), or what the attempt gave (`part-given`); run calls from either value
-- list its part (`lists_blank`).
use mathlib.Core.Path.{◌≡◌, sym, ap, subst}
use Prim.Native.Nat.{ℕ}
use borrow.Author.Rules.{rules}
use Rattle.std.proofs.Common.{Err}
use Rattle.refusals.specs.Answers.{Answer, verdict}
use Rattle.refusals.proofs.Answering.{number_pos}
use Rattle.rules.specs.Machine.{Down}
use Rattle.runs.specs.Paused.{Value, value_of}
use Rattle.runs.specs.Sides.{side_of, ChecksAt}
use Rattle.split.specs.Entries.{PartAt, part_of}
use Rattle.split.specs.private.Trying.{TriedAt}
use Rattle.split.proofs.Answers.{part-refused, part-given}
use Rattle.split.specs.Listing.{ListsPart}
use Rattle.split.proofs.PartRuns.{lists_blank}
use Rattle.split.proofs.part.Goals as goal

pub returns-in_err-check_down-clause-part_at : goal.returns-in_err-check_down-clause-part_at
returns-in_err-check_down-clause-part_at g c =
    let e : c.from_residual.result ≡ Err c.in_err-check_down.field-0.0 = search rules in
    subst (PartAt (side_of g.S.Side.CASES) (value_of g.S.Side.number c.args.run) (g.S.Side.number c.args.pick)) (sym (ap (part_of g.S.Side.number) e))
    (part-refused (side_of g.S.Side.CASES) (value_of g.S.Side.number c.args.run) (g.S.Side.number c.args.pick) _ (number_pos c.in_err-check_down.field-0.0)
    (subst (ChecksAt (side_of g.S.Side.CASES) (value_of g.S.Side.number c.args.run) Down) (ap verdict c.in_err-check_down.was) c.check_down.ensures))

pub returns-in_err-check_down-clause-lists : goal.returns-in_err-check_down-clause-lists
returns-in_err-check_down-clause-lists g c =
    let e : c.from_residual.result ≡ Err c.in_err-check_down.field-0.0 = search rules in
    subst (λ (a : Answer Value). ListsPart (side_of g.S.Side.CASES) a.value) (sym (ap (part_of g.S.Side.number) e)) (lists_blank g.S.Side.CASES)

pub returns-clause-part_at : goal.returns-clause-part_at
returns-clause-part_at g c =
    part-given (side_of g.S.Side.CASES) (value_of g.S.Side.number c.args.run) (g.S.Side.number c.args.pick)
    (subst (ChecksAt (side_of g.S.Side.CASES) (value_of g.S.Side.number c.args.run) Down) (ap verdict c.in_ok-check_down.was) c.check_down.ensures) (part_of g.S.Side.number c.try_pick.result)
    (subst (λ (k : ℕ). TriedAt (side_of g.S.Side.CASES) (value_of g.S.Side.number c.args.run) k (part_of g.S.Side.number c.try_pick.result)) c.number.ensures c.try_pick.ensures.tried_at)

pub returns-clause-lists : goal.returns-clause-lists
returns-clause-lists g c = c.try_pick.ensures.lists
