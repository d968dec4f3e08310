-- `runs::Run::check_phase` meets its contract: the call's refusal (`call-refuses`).
use mathlib.Core.Path.{◌≡◌, refl, sym, ap, subst}
use Prim.Native.Nat.{ℕ}
use borrow.Author.Rules.{rules}
use Rattle.std.proofs.Common.{Err}
use Rattle.refusals.specs.Answers.{verdict}
use Rattle.runs.specs.Paused.{value_of}
use Rattle.runs.specs.Sides.{side_of}
use Rattle.runs.specs.private.Checks.{ChecksPhase}
use Rattle.runs.proofs.Answered.{called_of_both}
use Rattle.runs.proofs.PhaseChecks.{call-refuses}
use Rattle.runs.proofs.paused.Run.check_phase.Goals as goal

pub returns-in_err-call : goal.returns-in_err-call
returns-in_err-call g c =
    let e : c.from_residual.result ≡ Err c.in_err-call.field-0.0 = search rules in
    subst (λ (n : ℕ). ChecksPhase (side_of g.S.Side.CASES) (value_of g.S.Side.number c.args.self) c.args.fits n) (sym (ap verdict e))
    (call-refuses (side_of g.S.Side.CASES) (value_of g.S.Side.number c.args.self) _ (called_of_both _ _ _ _ c.in_err-call.ensures.either) c.args.fits _ refl)
