-- `blocks::fill_on` meets its contract: after each turn the buffer is what `UpTo` says of the calls made so far, and each return is where no
-- call follows (Fillings.antt).
use Rattle.std.specs.Prelude.{Ok}
use mathlib.Core.Path.{◌≡◌, refl, sym, ◌∙◌, subst}
use mathlib.Core.Bool.{false}
use Prim.Native.Nat.{◌+◌, ◌≤◌, ◌<◌}
use native.Mathlib.Omega.{arith}
use lib.ListN.{length}
use Rattle.rules.specs.Machine.{State}
use Rattle.lists.specs.Lists.{gauge_side}
use Rattle.runs.specs.Paused.{gauge_value}
use Rattle.runs.specs.Batches.{closing}
use Rattle.runs.specs.Calling.{value_refusal, PausedAt}
use Rattle.blocks.specs.declared.Block.{Block}
use Rattle.blocks.specs.Filling.{block, longest}
use Rattle.blocks.specs.private.Turning.{FillsOn, stopped, ended}
use Rattle.blocks.proofs.Fillings.{going, UpToOn, turn_on, some-on, stop_on, going_on}
use Rattle.blocks.proofs.fill_on.Goals as goal

pub returns-in-Spent : goal.returns-in-Spent
returns-in-Spent c =
    let room : c.loop-turn.used + longest ≤ length c.args.out.now = omega (arith, c.if-most-used-lt-LONGEST.false, c.loop-turn.invariant.0, c.loop-turn.invariant.1, c.loop-turn.invariant.2) in
    let turned : UpToOn (gauge_value c.args.start) c.args.out.now (stopped (closing c.list_some-turn.result.close)) (going (gauge_value c.list_some-turn.result.run) c.list_some-turn.result.next (ended (closing c.list_some-turn.result.close))) c.list_some-turn.new.out = turn_on (gauge_value c.args.start) c.args.out.now (gauge_value c.loop-turn.run) c.loop-turn.used c.loop-turn.out
    c.loop-turn.invariant.3 _ _ _ _ _ c.list_some-turn.ensures c.loop-turn.invariant.2 room in
    subst (λ (b : Block). FillsOn (gauge_value c.args.start) c.args.out.now (block (Ok b)) c.list_some-turn.new.out)
    (sym c.filled-in-Spent.ensures)
    (stop_on (gauge_value c.args.start) c.args.out.now _ _ _ refl (rw c.in-Spent.is at turned) refl)

pub returns-in-End : goal.returns-in-End
returns-in-End c =
    let room : c.loop-turn.used + longest ≤ length c.args.out.now = omega (arith, c.if-most-used-lt-LONGEST.false, c.loop-turn.invariant.0, c.loop-turn.invariant.1, c.loop-turn.invariant.2) in
    let turned : UpToOn (gauge_value c.args.start) c.args.out.now (stopped (closing c.list_some-turn.result.close)) (going (gauge_value c.list_some-turn.result.run) c.list_some-turn.result.next (ended (closing c.list_some-turn.result.close))) c.list_some-turn.new.out = turn_on (gauge_value c.args.start) c.args.out.now (gauge_value c.loop-turn.run) c.loop-turn.used c.loop-turn.out
    c.loop-turn.invariant.3 _ _ _ _ _ c.list_some-turn.ensures c.loop-turn.invariant.2 room in
    subst (λ (b : Block). FillsOn (gauge_value c.args.start) c.args.out.now (block (Ok b)) c.list_some-turn.new.out)
    (sym c.filled-in-End.ensures)
    (stop_on (gauge_value c.args.start) c.args.out.now _ _ _ refl (rw c.in-End.is at turned) refl)

pub loop-turn-preserved : goal.loop-turn-preserved
loop-turn-preserved c =
    let room : c.loop-turn.used + longest ≤ length c.args.out.now = omega (arith, c.if-most-used-lt-LONGEST.false, c.loop-turn.invariant.0, c.loop-turn.invariant.1, c.loop-turn.invariant.2) in
    let turned : UpToOn (gauge_value c.args.start) c.args.out.now (stopped (closing c.list_some-turn.result.close)) (going (gauge_value c.list_some-turn.result.run) c.list_some-turn.result.next (ended (closing c.list_some-turn.result.close))) c.list_some-turn.new.out = turn_on (gauge_value c.args.start) c.args.out.now (gauge_value c.loop-turn.run) c.loop-turn.used c.loop-turn.out
    c.loop-turn.invariant.3 _ _ _ _ _ c.list_some-turn.ensures c.loop-turn.invariant.2 room in
    let some : value_refusal gauge_side (gauge_value c.args.start) ≡ 0 → (x : State) → PausedAt gauge_side (gauge_value c.args.start) x → longest ≤ length c.args.out.now → stopped (closing c.list_some-turn.result.close) ≡ false → c.loop-turn.used < c.list_some-turn.result.next = some-on (gauge_value c.args.start) c.args.out.now (gauge_value c.loop-turn.run) c.loop-turn.used c.loop-turn.out
    c.loop-turn.invariant.3 _ _ _ _ _ c.list_some-turn.ensures c.loop-turn.invariant.2 room in
    let long : length c.list_some-turn.new.out ≡ length c.loop-turn.out = c.list_some-turn.auto.out in
    let full : stopped (closing c.list_some-turn.result.close) ≡ false = rw c.in-Full.is refl in
    let l = c.loop-turn in (
      refl,
      omega (arith, long, c.list_some-turn.ensures.inside),
      long ∙ l.invariant.2,
      going_on (gauge_value c.args.start) c.args.out.now _ _ _ _ _ turned full,
      λ ok x p far. omega (arith, l.invariant.4 ok x p far, some ok x p far full, c.loop-turn-test.true),
      c.list_some-turn.auto.words ∙ l.invariant.5,
    )
