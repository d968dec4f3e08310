-- `blocks::fill_on` meets its contract: after each turn the buffer is what `UpTo` says of the calls made so far, and each return is where no
-- call follows (Fillings.antt).
use mathlib.Core.Path.{◌≡◌}
use mathlib.Core.Bool.{false}
use Prim.Native.Nat.{ℕ, ◌+◌, ◌-◌, ◌≤◌}
use lib.ListN.{length}
use Rattle.rules.specs.Machine.{State}
use Rattle.lists.specs.Lists.{gauge_side}
use Rattle.runs.specs.Paused.{Value, gauge_value}
use Rattle.runs.specs.Calling.{value_refusal, PausedAt}
use Rattle.blocks.specs.Filling.{longest}
use Rattle.blocks.proofs.Fillings.{going, UpToOn}
use Rattle.blocks.proofs.fill_on.Given as goal

abbrev Lasts : Value → ℕ → ℕ → ℕ → ℕ → Type 0
Lasts v room most used turns = value_refusal gauge_side v ≡ 0 → (s : State) → PausedAt gauge_side v s → longest ≤ room → most ≤ used + turns

abbrev pub invariant-loop-turn : goal.invariant-loop-turn
invariant-loop-turn l = (l.most ≡ length l.initial.out) × (l.used ≤ length l.out) × (length l.out ≡ length l.initial.out) × UpToOn (gauge_value l.initial.run) l.initial.out false (going (gauge_value l.run) l.used false) l.out
    × Lasts (gauge_value l.initial.run) (length l.initial.out) l.most l.used (l.most - l._turn) × (length l.words ≡ 1024)
