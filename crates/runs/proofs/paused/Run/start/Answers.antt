-- `runs::Run::start` meets its contract: the answer is that of the check; demand 3, the shared set and what is promised of the runs that omit are
-- `side_promised`.
use mathlib.Core.Path.{◌≡◌, refl, ap, ◌∙◌}
use Prim.Native.Nat.{ℕ}
use native.Mathlib.Omega.{arith}
use borrow.Author.Rules.{rules}
use lib.ListN.{length}
use Rattle.std.proofs.Common.{Err}
use Rattle.refusals.proofs.Answering.{number_pos}
use Rattle.preference.specs.Preferences.{preferred_refusal}
use Rattle.runs.specs.Paused.{start_of}
use Rattle.runs.proofs.Answered.{start_refused}
use Rattle.runs.proofs.Marked.{side_promised}
use Rattle.runs.proofs.paused.Run.start.Goals as goal

pub returns-in_err-check : goal.returns-in_err-check
returns-in_err-check g c =
    let rows-length : length c.args.t.rows ≡ 64 = search rules in
    let order-length : length c.args.order.numbers ≡ 64 = search rules in
    let e : c.from_residual.result ≡ Err c.in_err-check.field-0.0 = search rules in
    let why = c.in_err-check.ensures ∙ ap (λ (n : ℕ). preferred_refusal c.args.t n c.args.order.numbers) (c.side_count.ensures c.args.t.rows) in
    let p = side_promised g.S.Side.CASES _ _ _ rows-length order-length _ (λ ok. absurd (omega (arith, number_pos c.in_err-check.field-0.0, why, ok))) in
    record {
      result_value = ap (start_of g.S.Side.number) e ∙ start_refused c.in_err-check.field-0.0 _ _ _ _ _ why refl;
      demand = p.0;
      shared = p.1.0;
      omits = p.1.1;
    }

pub returns-clause-demand : goal.returns-clause-demand
returns-clause-demand g c =
    let rows-length : length c.args.t.rows ≡ 64 = search rules in
    let order-length : length c.args.order.numbers ≡ 64 = search rules in
    (side_promised g.S.Side.CASES _ _ _ rows-length order-length _ (λ ok. c.fresh_run.ensures)).0

pub returns-clause-shared : goal.returns-clause-shared
returns-clause-shared g c =
    let rows-length : length c.args.t.rows ≡ 64 = search rules in
    let order-length : length c.args.order.numbers ≡ 64 = search rules in
    (side_promised g.S.Side.CASES _ _ _ rows-length order-length _ (λ ok. c.fresh_run.ensures)).1.0

pub returns-clause-omits : goal.returns-clause-omits
returns-clause-omits g c =
    let rows-length : length c.args.t.rows ≡ 64 = search rules in
    let order-length : length c.args.order.numbers ≡ 64 = search rules in
    (side_promised g.S.Side.CASES _ _ _ rows-length order-length _ (λ ok. c.fresh_run.ensures)).1.1
