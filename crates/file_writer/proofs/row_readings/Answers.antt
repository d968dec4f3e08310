-- `file_writer::row_readings` meets its contract: at each turn the bytes counted and those of the readings to come are those of the row's readings
-- (`Valuing`), and the lowest case left is the next to be counted.
use Prim.Native.Nat.{◌+◌}
use mathlib.Core.Path.{◌≡◌, refl, ap, ◌∙◌}
use native.Mathlib.Omega.{arith}
use lib.IntN.{ℤ}
use lib.ListN.{length}
use mir.Facts.{to_z-of_z}
use mir.Syntax.{w32}
use mir.Val.{to_z, of_z}
use Rattle.sets.specs.First.{Next}
use Rattle.file_writer.specs.Writing.{case_of}
use Rattle.file_writer.specs.TestFiles.{reading_text, value_at}
use Rattle.file_writer.specs.private.StoreSteps.{pair_at}
use Rattle.file_writer.proofs.PairLines.{row_none}
use Rattle.file_writer.proofs.Readings.{valuing_turn, valuing_small, valuing_done}
use borrow.Author.Rules.{sfits_of}
use Rattle.file_writer.proofs.row_readings.Goals as goal

pub overflow_add-size : goal.overflow_add-size
overflow_add-size c =
    omega (arith, valuing_small _ (c.requires.2.small refl) _ _ _ _ c.loop-k.invariant)

pub overflow_add-size-in-loop-k : goal.overflow_add-size-in-loop-k
overflow_add-size-in-loop-k c =
    let step : Next c.loop-k.k-iterator.0 c.in-Some.k c.next.new.self.0 = c.in-Some.ensures.steps in
    let value : to_z w32 (of_z w32 c.reading_at-v.result) ≡ value_at c.args.readings.now (pair_at c.args.g (case_of (c.in-Some.k + 1))) = to_z-of_z {w = mir.Syntax.w32} (sfits_of c.reading_at-v.type_inv) ∙ c.reading_at-v.ensures in
    let next = valuing_turn _ _ _ _ _ step.first.counted (step.first.some step.some) step.rest _ _ _ c.loop-k.invariant
    (c.reading_width.ensures ∙ ap (λ (v : ℤ). length (reading_text v)) value) in
    omega (arith, valuing_small _ (c.requires.2.small refl) _ _ _ _ next)

pub loop-k-preserved : goal.loop-k-preserved
loop-k-preserved c =
    let step : Next c.loop-k.k-iterator.0 c.in-Some.k c.next.new.self.0 = c.in-Some.ensures.steps in
    let value : to_z w32 (of_z w32 c.reading_at-v.result) ≡ value_at c.args.readings.now (pair_at c.args.g (case_of (c.in-Some.k + 1))) = to_z-of_z {w = mir.Syntax.w32} (sfits_of c.reading_at-v.type_inv) ∙ c.reading_at-v.ensures in
    valuing_turn _ _ _ _ _ step.first.counted (step.first.some step.some) step.rest _ _ _ c.loop-k.invariant
    (c.reading_width.ensures ∙ ap (λ (v : ℤ). length (reading_text v)) value)

pub returns : goal.returns
returns c = valuing_done c.loop-k.invariant (row_none _ 64 1 _ c.in-None.ensures.steps.0)
