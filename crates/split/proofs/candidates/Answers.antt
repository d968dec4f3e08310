-- `split::candidates` meets its contract: a refusal of the checks (`candidates_refused`), or the candidates found (`candidates_given`); with each
-- goes what splitting is good for (`splits_value`), that run calls list the part (`lists_part`), and that they list it by any choice of parts
-- (`lists_whole`).
use mathlib.Core.Path.{◌≡◌, sym, ap, subst}
use borrow.Author.Rules.{rules}
use lib.ListN.{length}
use Rattle.std.proofs.Common.{Err}
use Rattle.refusals.specs.Answers.{verdict}
use Rattle.refusals.proofs.Answering.{number_pos}
use Rattle.rules.specs.Machine.{Down}
use Rattle.runs.specs.Paused.{value_of}
use Rattle.runs.specs.Sides.{side_of, ChecksAt}
use Rattle.runs.proofs.Demands.{Starts}
use Rattle.runs.proofs.Marked.{side_started}
use Rattle.split.specs.Entries.{CandidatesAt, candidates_of}
use Rattle.split.specs.private.Trying.{FoundAt}
use Rattle.split.proofs.Answers.{candidates_refused, candidates_given, splits_value}
use Rattle.split.proofs.PartRuns.{lists_part}
use Rattle.split.proofs.Whole.{lists_whole}
use Rattle.split.proofs.candidates.Goals as goal

pub returns-in_err-check_down : goal.returns-in_err-check_down
returns-in_err-check_down g c =
    let rows-length : length c.args.p.table.rows ≡ 64 = search rules in
    let order-length : length c.args.p.order.numbers ≡ 64 = search rules in
    let starts : Starts (side_of g.S.Side.CASES) (value_of g.S.Side.number c.args.p) = side_started g.S.Side.CASES (value_of g.S.Side.number c.args.p) rows-length order-length in
    let e : c.from_residual.result ≡ Err c.in_err-check_down.field-0.0 = search rules in
    record {
      candidates_at = subst (CandidatesAt (side_of g.S.Side.CASES) (value_of g.S.Side.number c.args.p)) (sym (ap candidates_of e))
          (candidates_refused (side_of g.S.Side.CASES) (value_of g.S.Side.number c.args.p) _ (number_pos c.in_err-check_down.field-0.0)
          (subst (ChecksAt (side_of g.S.Side.CASES) (value_of g.S.Side.number c.args.p) Down) (ap verdict c.in_err-check_down.was) c.check_down.ensures));
      splits = splits_value (side_of g.S.Side.CASES) (value_of g.S.Side.number c.args.p) starts;
      lists = lists_part (side_of g.S.Side.CASES) (value_of g.S.Side.number c.args.p) starts;
      whole = lists_whole (side_of g.S.Side.CASES) (value_of g.S.Side.number c.args.p) starts;
    }

pub returns : goal.returns
returns g c =
    let rows-length : length c.args.p.table.rows ≡ 64 = search rules in
    let order-length : length c.args.p.order.numbers ≡ 64 = search rules in
    let starts : Starts (side_of g.S.Side.CASES) (value_of g.S.Side.number c.args.p) = side_started g.S.Side.CASES (value_of g.S.Side.number c.args.p) rows-length order-length in
    record {
      candidates_at = candidates_given (side_of g.S.Side.CASES) (value_of g.S.Side.number c.args.p) (subst (ChecksAt (side_of g.S.Side.CASES) (value_of g.S.Side.number c.args.p) Down) (ap verdict c.in_ok-check_down.was) c.check_down.ensures) _
          (subst (FoundAt (side_of g.S.Side.CASES) (value_of g.S.Side.number c.args.p)) (sym c.new.ensures) c.next_picks-picks.ensures);
      splits = splits_value (side_of g.S.Side.CASES) (value_of g.S.Side.number c.args.p) starts;
      lists = lists_part (side_of g.S.Side.CASES) (value_of g.S.Side.number c.args.p) starts;
      whole = lists_whole (side_of g.S.Side.CASES) (value_of g.S.Side.number c.args.p) starts;
    }
